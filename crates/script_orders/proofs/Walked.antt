-- What a pass does next in a state, or that it rests.
use Rattle.std.proofs.Common.{◌≡◌, ℕ, ◌+◌, ◌<◌, ◌≤◌, false, true, List, ◌++◌, length, refl, sym, ap, ◌∙◌, subst, arith}
use Rattle.std.proofs.Common.{Some, None, slice_get, get_or, map}
use Rattle.std.specs.Prelude.{Ok, option_map, slice_set}
use Rattle.std.proofs.lemmas.Option.{slice_get-map, slice_get_within, slice_get_read, slice_get_past}
use Rattle.sh_key.specs.Layout.{Layout}
use Rattle.sh_shape.specs.Shape.{Numbers}
use Rattle.sh_step.specs.declared.action.Event.{Event}
use Rattle.sh_step.specs.declared.body.Body.{Body}
use Rattle.sh_step.specs.Plans.{Plan, plan_of}
use Rattle.sh_core.specs.declared.outcome.Outcome.{Outcome}
use Rattle.sh_core.specs.Kept.{KeptWorld, StepsWorld, RunsWorld}
use Rattle.sh_core.specs.Outcomes.{outcome_of}
use Rattle.sh_core.specs.Worlds.{step}
use Rattle.script_orders.specs.declared.changes.Change.{Change}
use Rattle.script_orders.specs.declared.found.Program.{Program}
use Rattle.script_orders.specs.declared.lane.Lane.{Lane}
use Rattle.script_orders.specs.declared.state.State.{State}
use Rattle.script_orders.specs.Changes.{HasChanges}
use Rattle.script_orders.specs.Lanes.{Did, did, and_then}
use Rattle.script_orders.specs.Orders.{lines_within, reply_line}
use Rattle.script_orders.specs.Reached.{plan_in, done_by, world_before, world_by, is_due, IsNext, HasNoNext, LeadsTo}
use Rattle.script_orders.specs.Reached.{lanes_of}
use Rattle.script_orders.specs.Reached.{IsReached, Rests}
use Rattle.script_orders.specs.States.{Follows}
use Rattle.script_orders.specs.Walks.{GoesTo}
use Rattle.script_orders.specs.Seen.{Sees}
use Rattle.script_orders.proofs.LineOptions.{past_not_due}
use Rattle.script_orders.proofs.GoneOn.{goes_on, world_is}
use Rattle.script_orders.proofs.Parts.{outcome_alike, world_alike}

pub lane_at : {R : Type 0} (lanes : List R) (lane_of : R → Lane) (pass : ℕ) (lane : R)
    → slice_get lanes pass ≡ Some lane
    → slice_get (map (λ l. did (lane_of l)) lanes) pass ≡ Some (did (lane_of lane))
lane_at lanes lane_of pass lane at =
    slice_get-map (λ l. did (lane_of l)) lanes pass ∙ ap (option_map (λ l. did (lane_of l))) at

pub lane_none : {R : Type 0} (lanes : List R) (lane_of : R → Lane) (pass : ℕ) → slice_get lanes pass ≡ None
    → slice_get (map (λ l. did (lane_of l)) lanes) pass ≡ None
lane_none lanes lane_of pass none =
    slice_get-map (λ l. did (lane_of l)) lanes pass ∙ ap (option_map (λ l. did (lane_of l))) none

pub rests_past : (layout : Layout) (p : Program) (s : State) (pass : ℕ) → slice_get (lanes_of s) pass ≡ None
    → Rests layout p s pass
rests_past layout p s pass none d at = let z : None ≡ Some d = sym none ∙ at in cc

module _ (layout : Layout) (p : Program) (s : State) (pass : ℕ) (lane : Did) (k : KeptWorld)
    (at : slice_get (lanes_of s) pass ≡ Some lane)
    (runs : RunsWorld layout p.shape (done_by p s.order.items) (Ok k)) where
  pub rests_idle : HasNoNext (plan_of layout k.shape) k.parts p.lines.now pass lane.behind → Rests layout p s pass
  rests_idle none d is =
      let same : lane ≡ d = let z : Some lane ≡ Some d = sym at ∙ is in cc in
      let P : Numbers → Type 0 = λ n. HasNoNext (plan_of layout n) k.parts p.lines.now pass lane.behind in
      let Q : List Body → Type 0 = λ bs. HasNoNext (plan_in layout p) bs p.lines.now pass lane.behind in
      let R : Did → Type 0 = λ x.
      HasNoNext (plan_in layout p) (world_by layout p s.order.items).parts p.lines.now pass x.behind in
      subst R same (subst Q (runs.2).parts (subst P runs.1 none))

  goes : (t : State) (new : Did) (n seen : ℕ) (e : Event) (o : Outcome) (k' : KeptWorld) → IsReached layout p s
      → Sees (plan_of layout k.shape) (world_by layout p s.order.items) e seen
      → IsNext (plan_of layout k.shape) k.parts p.lines.now pass lane.behind n → slice_get p.lines.now n ≡ Some e
      → StepsWorld layout k e o k' → new ≡ and_then lane n seen (reply_line e o) → (changes : List Change)
      → HasChanges p.shape changes (world_before layout p).words
      (step (plan_in layout p) (world_by layout p s.order.items) e).words
      → Follows p.lines.now pass new changes s t → IsReached layout p t
  goes t new n seen e o k' reached sees next there steps is changes changed follows =
      let P : Numbers → Type 0 = λ m. IsNext (plan_of layout m) k.parts p.lines.now pass lane.behind n in
      let Q : List Body → Type 0 = λ bs. IsNext (plan_in layout p) bs p.lines.now pass lane.behind n in
      let next' : IsNext (plan_in layout p) (world_by layout p s.order.items).parts p.lines.now pass lane.behind n =
      subst Q (runs.2).parts (subst P runs.1 next) in
      let came : o ≡ outcome_of (plan_in layout p) (world_by layout p s.order.items) e =
      steps.outcome_is (world_by layout p s.order.items) (runs.2)
      ∙ ap (λ (m : Numbers). outcome_of (plan_of layout m) (world_by layout p s.order.items) e) runs.1 in
      let sees' = subst (λ (m : Numbers). Sees (plan_of layout m) (world_by layout p s.order.items) e seen) runs.1 sees
      in
      let count = reached.count in
      let within = slice_get_within (lanes_of s) pass lane at in
      let led = goes_on layout p s.order.items s.changes.items (lanes_of s) reached pass n seen lane
      at next' e there o came sees' changes changed (omega arith) in
      let behind : n + 1 ≡ new.behind = sym (ap (λ (d : Did). d.behind) is) in
      let order : s.order.items ++ lines_within p.lines.now pass lane.behind (n + 1) ≡ t.order.items =
      ap (λ (b : ℕ). s.order.items ++ lines_within p.lines.now pass lane.behind b) behind
      ∙ sym (follows.order lane at) in
      let lanes : slice_set (lanes_of s) pass (and_then lane n seen (reply_line e o)) ≡ lanes_of t =
      ap (λ (d : Did). slice_set (lanes_of s) pass d) (sym is) ∙ sym follows.lanes in
      subst (λ (cs : List Change). LeadsTo layout p t.order.items cs (lanes_of t)) (sym follows.changes_are)
      (subst (λ (ls : List Did). LeadsTo layout p t.order.items changes ls) lanes
      (subst (λ (os : List ℕ). LeadsTo layout p os changes
      (slice_set (lanes_of s) pass (and_then lane n seen (reply_line e o)))) order led))

  led : (t : State) (new : Did) (n seen : ℕ) (e : Event) (o : Outcome) (k' : KeptWorld) → IsReached layout p s
      → Sees (plan_of layout k.shape) (world_by layout p s.order.items) e seen
      → IsNext (plan_of layout k.shape) k.parts p.lines.now pass lane.behind n → slice_get p.lines.now n ≡ Some e
      → StepsWorld layout k e o k' → new ≡ and_then lane n seen (reply_line e o) → (changes : List Change)
      → Follows p.lines.now pass new changes s t
      → world_by layout p t.order.items ≡ step (plan_in layout p) (world_by layout p s.order.items) e
  led t new n seen e o k' reached sees next there steps is changes follows =
      let P : Numbers → Type 0 = λ m. IsNext (plan_of layout m) k.parts p.lines.now pass lane.behind n in
      let Q : List Body → Type 0 = λ bs. IsNext (plan_in layout p) bs p.lines.now pass lane.behind n in
      let came : o ≡ outcome_of (plan_in layout p) (world_by layout p s.order.items) e =
      steps.outcome_is (world_by layout p s.order.items) (runs.2)
      ∙ ap (λ (m : Numbers). outcome_of (plan_of layout m) (world_by layout p s.order.items) e) runs.1 in
      let next' = subst Q (runs.2).parts (subst P runs.1 next) in
      let sees' = subst (λ (m : Numbers). Sees (plan_of layout m) (world_by layout p s.order.items) e seen) runs.1 sees
      in
      let order = follows.order lane at
      ∙ ap (λ (d : Did). s.order.items ++ lines_within p.lines.now pass lane.behind d.behind) is in
      ap (λ (xs : List ℕ). world_by layout p xs) order
      ∙ world_is layout p s.order.items s.changes.items (lanes_of s) reached pass n seen lane at next' e there o came
      sees'

  pub goes_to : (t : State) (new : Did) (n seen : ℕ) (e : Event) (o : Outcome) (k' : KeptWorld) → IsReached layout p s
      → Sees (plan_of layout k.shape) (world_by layout p s.order.items) e seen
      → IsNext (plan_of layout k.shape) k.parts p.lines.now pass lane.behind n → slice_get p.lines.now n ≡ Some e
      → StepsWorld layout k e o k' → new ≡ and_then lane n seen (reply_line e o) → (changes : List Change)
      → HasChanges p.shape changes (world_before layout p).words
      (step (plan_in layout p) (world_by layout p s.order.items) e).words
      → Follows p.lines.now pass new changes s t → GoesTo layout p pass s t
  goes_to t new n seen e o k' reached sees next there steps is changes changed follows =
      let P : Numbers → Type 0 = λ m. IsNext (plan_of layout m) k.parts p.lines.now pass lane.behind n in
      let Q : List Body → Type 0 = λ bs. IsNext (plan_in layout p) bs p.lines.now pass lane.behind n in
      let came : o ≡ outcome_of (plan_in layout p) (world_by layout p s.order.items) e =
      steps.outcome_is (world_by layout p s.order.items) (runs.2)
      ∙ ap (λ (m : Numbers). outcome_of (plan_of layout m) (world_by layout p s.order.items) e) runs.1 in
      let next' = subst Q (runs.2).parts (subst P runs.1 next) in
      let sees' = subst (λ (m : Numbers). Sees (plan_of layout m) (world_by layout p s.order.items) e seen) runs.1 sees
      in
      let order = follows.order lane at
      ∙ ap (λ (d : Did). s.order.items ++ lines_within p.lines.now pass lane.behind d.behind) is in
      record {
        lane = lane;
        number = n;
        seen = seen;
        event = e;
        at = at;
        next = next';
        there = there;
        reached = goes t new n seen e o k' reached sees next there steps is changes changed follows;
        order = order;
        lanes = follows.lanes ∙ ap (λ (d : Did). slice_set (lanes_of s) pass d) (is
            ∙ ap (λ (x : Outcome). and_then lane n seen (reply_line e x)) came);
        orders = follows.orders;
        alike = λ v is_world. (
          outcome_alike layout p s t k k' e o runs.1 (runs.2) steps reached.changed v is_world,
          world_alike layout p s t k k' e o runs.1 (runs.2) steps reached.changed v is_world
              (subst (λ (cs : List Change). HasChanges p.shape cs (world_before layout p).words
              (step (plan_in layout p) (world_by layout p s.order.items) e).words) (sym follows.changes_are) changed)
              (led t new n seen e o k' reached sees next there steps is changes follows),
        );
      }

-- ---- what a look-up in a list says

pub found_at : {A : Type 0} (xs ys : List A) (i : ℕ) (x : A) → xs ≡ ys → i < length xs → x ≡ get_or xs i x
    → slice_get ys i ≡ Some x
found_at {A} xs ys i x same less is =
    subst (λ (zs : List A). slice_get zs i ≡ Some x) same (slice_get_read xs (length xs) i x refl less is)

pub none_past : {R : Type 0} (xs ys : List R) (i : ℕ) → xs ≡ ys → length xs ≤ i → slice_get ys i ≡ None
none_past {R} xs ys i same le = subst (λ (zs : List R). slice_get zs i ≡ None) same (slice_get_past xs i le)

pub due_within : {P : Type 0} (plan : Plan) (parts : List Body) (lines : List Event) (pass n : ℕ)
    → is_due plan parts lines pass n ≡ true → length lines ≤ n → P
due_within plan parts lines pass n due past =
    let none : is_due plan parts lines pass n ≡ false = past_not_due plan parts lines pass n past in
    absurd (let z : false ≡ true = sym none ∙ due in cc)
