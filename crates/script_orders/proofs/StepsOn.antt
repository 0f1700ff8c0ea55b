-- Steps that lead to a state, and one step more.
use Rattle.std.proofs.Common.{◌≡◌, ◌≢◌, ℕ, zero, suc, ◌+◌, ◌-◌, ◌<◌, ◌≤◌, ◌==◌, Bool, true, false, cond, List, [], ◌∷◌}
use Rattle.std.proofs.Common.{◌++◌, length, take, refl, sym, ap, ◌∙◌, subst, arith, Some, None, slice_get, inl, inr}
use Rattle.std.proofs.Common.{append-nil, eq-eqb, ne_eqb}
use Rattle.std.specs.Prelude.{replicate, slice_set}
use Rattle.std.specs.List.{filter, range_with_len}
use Rattle.std.proofs.lemmas.Bool.{cases_eq, cases_lt}
use Rattle.std.proofs.lemmas.List.Sums.{fold-append}
use Rattle.sh_key.specs.Layout.{Layout}
use Rattle.sh_step.specs.declared.action.Event.{Event}
use Rattle.sh_step.specs.declared.body.Body.{Body}
use Rattle.sh_core.specs.declared.outcome.Outcome.{Outcome}
use Rattle.sh_core.specs.Outcomes.{outcome_of}
use Rattle.sh_core.specs.Worlds.{World, step, run_from}
use Rattle.script_orders.specs.declared.changes.Change.{Change}
use Rattle.script_orders.specs.declared.found.Program.{Program}
use Rattle.script_orders.specs.declared.state.State.{State}
use Rattle.script_orders.specs.Changes.{HasChanges}
use Rattle.script_orders.specs.Lanes.{Did, and_then, nothing}
use Rattle.script_orders.specs.Orders.{is_of, reply_line, replies_from}
use Rattle.script_orders.specs.Reached.{plan_in, world_before, world_by, replies_by, is_due, IsWorldOf, lanes_of}
use Rattle.script_orders.specs.Reached.{IsReached, Rests}
use Rattle.script_orders.specs.States.{AreAlike}
use Rattle.script_orders.specs.Steps.{behind_by, next_step}
use Rattle.script_orders.specs.Walks.{GoesTo, HasStepped, StepsTo}
use Rattle.script_orders.proofs.FirstLines.{kept, none_is}
use Rattle.script_orders.proofs.GoneOn.{world_more, replies_more, reply_one}
use Rattle.script_orders.proofs.LineLists.{not_both, event_one}
use Rattle.script_orders.proofs.LineOptions.{is_of_at, due_event, past_not_due}
use Rattle.script_orders.proofs.ListSteps.{get_set_same, get_set_other}
use Rattle.script_orders.proofs.Parts.{parts_same}

-- ---- the first of some numbers that passes a test

none_kept_is : (f : ℕ → Bool) (from k : ℕ) → ((n : ℕ) → from ≤ n → f n ≡ false) → take 1 (kept f from k) ≡ []
none_kept_is f from k h = ap (take 1) (none_is f from k (λ n low high. h n low))

first_is : (f : ℕ → Bool) (from k n : ℕ) → from ≤ n → n < from + k → f n ≡ true
    → ((m : ℕ) → from ≤ m → m < n → f m ≡ false) → take 1 (kept f from k) ≡ n ∷ []
first_is f from zero n low high is none = absurd (omega arith)
first_is f from (suc k) n low high is none = elim (cases_eq from n) [
  | inl same ↦
      ap (λ (b : Bool). take 1 (cond b (from ∷ kept f (from + 1) k) (kept f (from + 1) k))) (ap f same ∙ is)
      ∙ ap (λ (m : ℕ). m ∷ []) same
  | inr ne ↦
      ap (λ (b : Bool). take 1 (cond b (from ∷ kept f (from + 1) k) (kept f (from + 1) k)))
      (none from (omega arith) (omega arith))
      ∙ first_is f (from + 1) k n (omega arith) (omega arith) is (λ m at below. none m (omega arith) below)
]

-- ---- steps that lead to a state lead to one that is alike

pub steps_alike : (layout : Layout) (p : Program) (steps : List ℕ) (s t : State) → IsReached layout p s
    → IsReached layout p t → AreAlike s t → StepsTo layout p steps t → StepsTo layout p steps s
steps_alike layout p steps s t reached also alike to = record {
  world = record {
    changed =
        subst (λ (cs : List Change). HasChanges p.shape cs (world_before layout p).words
        (world_by layout p steps).words) (sym alike.changes) to.world.changed;
    parts = to.world.parts ∙ sym (parts_same layout p s t reached also alike.lanes);
  };
  each = λ a d at. to.each a d (sym (ap (λ (ls : List Did). slice_get ls a) alike.lanes) ∙ at);
}

-- ---- the next step of a pass

module _ (layout : Layout) (p : Program) (steps : List ℕ) (s : State) (to : StepsTo layout p steps s) (a : ℕ)
    (d : Did) (at : slice_get (lanes_of s) a ≡ Some d) where
  abbrev due_here : ℕ → Bool
  due_here = is_due (plan_in layout p) (world_by layout p steps).parts p.lines.now a

  abbrev first_from : ℕ → List ℕ
  first_from behind = take 1 (filter due_here (range_with_len behind (length p.lines.now - behind)))

  from_lane : next_step layout p steps a ≡ first_from d.behind
  unfolding next_step
  from_lane = ap first_from (sym (to.each a d at).behind)

  due_same : (n : ℕ) → is_due (plan_in layout p) (world_by layout p s.order.items).parts p.lines.now a n ≡ due_here n
  due_same n = ap (λ (bs : List Body). is_due (plan_in layout p) bs p.lines.now a n) (sym to.world.parts)

  pub none_next : Rests layout p s a → next_step layout p steps a ≡ []
  none_next rests =
      from_lane
      ∙ none_kept_is due_here d.behind (length p.lines.now - d.behind) (λ n low. sym (due_same n) ∙ rests d at n low)

  pub one_next : (t : State) (goes : GoesTo layout p a s t) → next_step layout p steps a ≡ goes.number ∷ []
  one_next t goes =
      let same : goes.lane ≡ d = let z : Some goes.lane ≡ Some d = sym goes.at ∙ at in cc in
      let behind : goes.lane.behind ≡ d.behind = ap (λ (x : Did). x.behind) same in
      let next = goes.next in
      let after = next.after in
      let due : due_here goes.number ≡ true = sym (due_same goes.number) ∙ next.due in
      let within : goes.number < length p.lines.now = elim (cases_lt goes.number (length p.lines.now)) [
        | inl less ↦ less
        | inr past ↦
            let none = past_not_due (plan_in layout p) (world_by layout p steps).parts p.lines.now a goes.number past in
            absurd (let z : false ≡ true = sym none ∙ due in cc)
      ] in
      from_lane
      ∙ first_is due_here d.behind (length p.lines.now - d.behind) goes.number (omega arith) (omega arith) due
      (λ m low high. sym (due_same m) ∙ next.first m (omega arith) high)

-- ---- one step more

behind_more : (lines : List Event) (steps : List ℕ) (n a : ℕ) → behind_by lines (steps ++ n ∷ []) a
    ≡ cond (is_of lines a n) (n + 1) (behind_by lines steps a)
behind_more lines steps n a = fold-append (λ (behind m : ℕ). cond (is_of lines a m) (m + 1) behind) 0 steps (n ∷ [])

module _ (layout : Layout) (p : Program) (steps : List ℕ) (n : ℕ) (e : Event) (at : slice_get p.lines.now n ≡ Some e)
  where
    world_one : world_by layout p (steps ++ n ∷ []) ≡ step (plan_in layout p) (world_by layout p steps) e
    unfolding run_from
    world_one = world_more layout p steps (n ∷ [])
        ∙ ap (run_from (plan_in layout p) (world_by layout p steps)) (event_one p.lines.now n e at)

    replies_one : (a : ℕ) → replies_by layout p (steps ++ n ∷ []) a ≡ replies_by layout p steps a
        ++ cond (e.pass == a) (reply_line e (outcome_of (plan_in layout p) (world_by layout p steps) e)) []
    replies_one a =
        replies_more layout p steps (n ∷ []) a
        ∙ ap (λ (t : List ℕ). replies_by layout p steps a ++ t)
        (ap (λ (es : List Event). replies_from (plan_in layout p) (world_by layout p steps) es a)
        (event_one p.lines.now n e at)
        ∙ reply_one (plan_in layout p) (world_by layout p steps) e a)

module _ (layout : Layout) (p : Program) (steps : List ℕ) (s t : State) (to : StepsTo layout p steps s) (a : ℕ)
    (goes : GoesTo layout p a s t) where
  abbrev its_event : Event
  its_event = goes.event

  abbrev longer : List ℕ
  longer = steps ++ goes.number ∷ []

  own_pass : its_event.pass ≡ a
  own_pass = (due_event (plan_in layout p) (world_by layout p s.order.items).parts p.lines.now a goes.number its_event
      goes.there goes.next.due).0

  own_line : is_of p.lines.now a goes.number ≡ true
  own_line = is_of_at p.lines.now a goes.number (Some its_event) goes.there ∙ eq-eqb its_event.pass a own_pass

  abbrev replied : List ℕ
  replied = reply_line its_event (outcome_of (plan_in layout p) (world_by layout p s.order.items) its_event)

  abbrev did_with : Did
  did_with = and_then goes.lane goes.number goes.seen replied

  own_stepped : HasStepped layout p longer a did_with
  own_stepped =
      let old = to.each a goes.lane goes.at in record {
        behind =
            sym (behind_more p.lines.now steps goes.number a
            ∙ ap (λ (b : Bool). cond b (goes.number + 1) (behind_by p.lines.now steps a)) own_line);
        replies =
            ap (λ (r : List ℕ). r ++ replied) old.replies
            ∙ ap (λ (o : Outcome). replies_by layout p steps a ++ reply_line its_event o)
            (sym (goes.alike (world_by layout p steps) to.world).0)
            ∙ sym (replies_one layout p steps goes.number its_event goes.there a
            ∙ ap (λ (b : Bool). replies_by layout p steps a ++ cond b (reply_line its_event
            (outcome_of (plan_in layout p) (world_by layout p steps) its_event)) [])
            (eq-eqb its_event.pass a own_pass));
      }

  other_stepped : (b : ℕ) (d : Did) → b ≢ a → slice_get (lanes_of s) b ≡ Some d → HasStepped layout p longer b d
  other_stepped b d ne is =
      let old = to.each b d is in
      let not : is_of p.lines.now b goes.number ≡ false =
      not_both (slice_get p.lines.now goes.number) b a ne own_line in record {
        behind = old.behind ∙ sym (behind_more p.lines.now steps goes.number b
            ∙ ap (λ (c : Bool). cond c (goes.number + 1) (behind_by p.lines.now steps b)) not);
        replies = old.replies
            ∙ sym (replies_one layout p steps goes.number its_event goes.there b
            ∙ ap (λ (c : Bool). replies_by layout p steps b ++ cond c (reply_line its_event
            (outcome_of (plan_in layout p) (world_by layout p steps) its_event)) [])
            (ne_eqb its_event.pass b (λ h. ne (sym h ∙ own_pass)))
            ∙ append-nil (replies_by layout p steps b));
      }

  pub steps_on : StepsTo layout p longer t
  steps_on = record {
    world = subst (λ (v : World). IsWorldOf layout p t v)
        (sym (world_one layout p steps goes.number its_event goes.there))
        (goes.alike (world_by layout p steps) to.world).1;
    each = λ b d is.
        let here : slice_get (slice_set (lanes_of s) a did_with) b ≡ Some d =
        sym (ap (λ (ls : List Did). slice_get ls b) goes.lanes) ∙ is in elim (cases_eq b a) [
          | inl same ↦
              let mine : slice_get (slice_set (lanes_of s) a did_with) a ≡ Some d =
              sym (ap (slice_get (slice_set (lanes_of s) a did_with)) same) ∙ here in
              let one : did_with ≡ d =
              let z : Some did_with ≡ Some d =
              sym (get_set_same (lanes_of s) a goes.lane did_with goes.at) ∙ mine in cc in
              let P : ℕ → Did → Type 0 = λ c x. HasStepped layout p longer c x in
              subst (λ (c : ℕ). P c d) (sym same) (subst (P a) one own_stepped)
          | inr ne ↦ other_stepped b d ne (sym (get_set_other (lanes_of s) a b did_with ne) ∙ here)
        ];
  }

-- ---- no step

replicated : {A : Type 0} (n : ℕ) (x y : A) (i : ℕ) → slice_get (replicate n x) i ≡ Some y → y ≡ x
replicated zero x y i h = let z : None ≡ Some y = h in cc
replicated (suc n) x y zero h = let z : Some x ≡ Some y = h in cc
replicated (suc n) x y (suc i) h = replicated n x y i h

pub steps_first : (layout : Layout) (p : Program) (s : State) (passes : ℕ) → IsReached layout p s → s.order.items ≡ []
    → lanes_of s ≡ replicate passes nothing → StepsTo layout p [] s
unfolding replies_from
steps_first layout p s passes reached begins lanes = record {
  world = subst (λ (order : List ℕ). IsWorldOf layout p s (world_by layout p order)) begins
      (record { changed = reached.changed; parts = refl });
  each = λ a d at.
      let is : d ≡ nothing =
      replicated passes nothing d a (sym (ap (λ (ls : List Did). slice_get ls a) lanes) ∙ at) in
      record { behind = ap (λ (x : Did). x.behind) is; replies = ap (λ (x : Did). x.replies) is };
}
