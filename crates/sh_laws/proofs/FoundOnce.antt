-- The word that a step of a trail found stood there at a moment of the run, and the pass had done the steps before.
use Rattle.std.proofs.Common.{◌≡◌, ℕ, suc, ◌+◌, ◌≤◌, ◌==◌, Bool, true, false, List, [], ◌∷◌, ◌++◌, length, refl}
use Rattle.std.proofs.Common.{ap, inl, inr, sym, ◌∙◌, subst, arith, Option, Some, None, append_assoc, append-nil, ◌⊎◌}
use Rattle.std.specs.Prelude.{cond, IsSome, nat_lt, ◌&&◌}
use Rattle.std.proofs.lemmas.List.{append_cancel_left, length-append}
use Rattle.sh_core.proofs.AtomicMap.{states_tell}
use Rattle.sh_core.proofs.Words.Steps.{run_none}
use Rattle.sh_step.specs.declared.action.Action.{Action}
use Rattle.sh_step.specs.declared.action.Action.TheVariants as action
use Rattle.sh_core.specs.AtomicMap.{map_of}
use Rattle.sh_step.specs.declared.action.Event.{Event}
use Rattle.sh_step.specs.declared.footstep.Footstep.{Footstep}
use Rattle.sh_step.specs.Footsteps.{footstep_of}
use Rattle.sh_slots.specs.declared.hand.KeyRef.{KeyRef}
use Rattle.sh_step.specs.Moves.{place_named}
use Rattle.sh_step.specs.declared.operation.Operation.{Operation}
use Rattle.sh_step.specs.declared.operation.Operation.TheVariants.{FetchAdd, FetchSub, FetchOr, Swap, Store, CompareExchange, Load}
use Rattle.sh_step.specs.Operations.{answer}
use Rattle.sh_core.specs.Outcomes.{row_of_event}
use Rattle.sh_step.specs.Plans.{Plan, heap_pages, plan_of}
use Rattle.sh_step.specs.Rows.{Row}
use Rattle.sh_slots.specs.Slots.{live_at, past_at}
use Rattle.sh_core.specs.Trails.{trail_from, trail_of}
use Rattle.sh_core.specs.Words.{read}
use Rattle.sh_core.specs.Worlds.{World, run, run_from, step, open_world, value_at}
use Rattle.sh_pass.specs.Deciding.{step_at_slot}
use Rattle.sh_pass.specs.Missing.{StepMisses}
use Rattle.sh_table.specs.declared.view.View.{View}
use Rattle.sh_laws.specs.Walks.{HeardIsRemoved, MissedIsAbsent, StayingIsMet}

-- what an event adds to a trail, by the row of the event
abbrev added : World → Event → ℕ → List Footstep → Option Row → List Footstep
added w e a steps o = elim o as (λ _. List Footstep) [
  | Some m ↦ cond (e.pass == a) (steps ++ footstep_of e.action m (read w.words m.place) ∷ []) steps
  | None ↦ steps
]

-- one event, and the others
opened : (plan : Plan) (w : World) (a : ℕ) (steps : List Footstep) (e : Event) (es : List Event)
    → trail_from plan w a steps (e ∷ es)
    ≡ trail_from plan (step plan w e) a (added w e a steps (row_of_event plan w e)) es
unfolding trail_from
opened plan w a steps e es = refl

ended : (plan : Plan) (w : World) (a : ℕ) (steps : List Footstep) → trail_from plan w a steps [] ≡ steps
unfolding trail_from
ended plan w a steps = refl

ran : (plan : Plan) (w : World) (e : Event) (es : List Event) → run_from plan w (e ∷ es)
    ≡ run_from plan (step plan w e) es
unfolding run_from
ran plan w e es = refl

-- an event either leaves a trail, or adds a step to it that found its word in the world
abbrev AddsOne : Plan → World → Event → ℕ → List Footstep → Type 0
AddsOne plan w e a steps = (x : Action) × (m : Row) × (added w e a steps (row_of_event plan w e)
    ≡ steps ++ footstep_of x m (read w.words m.place) ∷ [])

data Adding (plan : Plan) (w : World) (e : Event) (a : ℕ) (steps : List Footstep) : Type 0 where
  leaves : added w e a steps (row_of_event plan w e) ≡ steps → Adding plan w e a steps
  adds : AddsOne plan w e a steps → Adding plan w e a steps

adding : (plan : Plan) (w : World) (e : Event) (a : ℕ) (steps : List Footstep) → Adding plan w e a steps
adding plan w e a steps = go (row_of_event plan w e) refl where
  go : (o : Option Row) → row_of_event plan w e ≡ o → Adding plan w e a steps
  go None is = leaves (ap (added w e a steps) is)
  go (Some m) is = by (e.pass == a) refl where
    by : (b : Bool) → (e.pass == a) ≡ b → Adding plan w e a steps
    by true own = adds (
      e.action,
      m,
      ap (added w e a steps) is
          ∙ ap (λ (c : Bool). cond c (steps ++ footstep_of e.action m (read w.words m.place) ∷ []) steps) own,
    )
    by false other = leaves (ap (added w e a steps) is
        ∙ ap (λ (c : Bool). cond c (steps ++ footstep_of e.action m (read w.words m.place) ∷ []) steps) other)

-- a trail goes on
abbrev GoesOn : Plan → World → ℕ → List Footstep → List Event → Type 0
GoesOn plan w a steps es = (more : List Footstep) × (trail_from plan w a steps es ≡ steps ++ more)

goes_one : (plan : Plan) (w : World) (a : ℕ) (steps : List Footstep) (e : Event) (es : List Event)
    → ((l : List Footstep) → GoesOn plan (step plan w e) a l es) → Adding plan w e a steps
    → GoesOn plan w a steps (e ∷ es)
goes_one plan w a steps e es rest (leaves same) = (
  (rest steps).0,
  opened plan w a steps e es
      ∙ (ap (λ (l : List Footstep). trail_from plan (step plan w e) a l es) same ∙ (rest steps).1),
)
goes_one plan w a steps e es rest (adds one) =
    let t : Footstep = footstep_of one.0 one.1 (read w.words one.1.place) in
    let r : GoesOn plan (step plan w e) a (steps ++ t ∷ []) es = rest (steps ++ t ∷ []) in (
      t ∷ r.0,
      opened plan w a steps e es
          ∙ (ap (λ (l : List Footstep). trail_from plan (step plan w e) a l es) one.2
          ∙ (r.1 ∙ append_assoc steps (t ∷ []) r.0)),
    )

goes_on : (plan : Plan) (w : World) (a : ℕ) (steps : List Footstep) (es : List Event) → GoesOn plan w a steps es
goes_on plan w a steps [] = ([], ended plan w a steps ∙ sym (append-nil steps))
goes_on plan w a steps (e ∷ es) = goes_one plan w a steps e es (λ l. goes_on plan (step plan w e) a l es)
    (adding plan w e a steps)

-- a moment of the run at which the place has this word, and the pass has this trail
record Found (plan : Plan) (w : World) (a : ℕ) (steps : List Footstep) (es : List Event) (first : List Footstep)
    (t : Footstep) (n : ℕ) : Type 0 where
  early : List Event
  late : List Event
  events : es ≡ early ++ late
  trail : trail_from plan w a steps early ≡ first
  there : read (run_from plan w early).words t.place ≡ n

-- the word that an operation returns is the one that it found
answers : (o : Operation) (k n : ℕ) → answer o k ≡ Some n → k ≡ n
answers (FetchAdd m) k n e = cc
answers (FetchSub m) k n e = cc
answers (FetchOr m) k n e = cc
answers (Swap m) k n e = cc
answers (Store m) k n e = absurd (let z : None ≡ Some n = e in cc)
answers (CompareExchange old new) k n e = cc
answers Load k n e = cc

heads : {A : Type 0} (x y : A) (xs ys : List A) → x ∷ xs ≡ y ∷ ys → (x ≡ y) × (xs ≡ ys)
heads x y xs ys e = (cc, cc)

not_longer : (steps before : List Footstep) (t : Footstep) (after : List Footstep)
    → ¬ (steps ≡ steps ++ (before ++ t ∷ after))
not_longer steps before t after e =
    let a : length steps ≡ length steps + length (before ++ t ∷ after) = ap length e
    ∙ length-append steps (before ++ t ∷ after) in
    let b : length (before ++ t ∷ after) ≡ length before + suc (length after) = length-append before (t ∷ after) in
    omega arith

-- one event more
module _ (plan : Plan) (w : World) (a : ℕ) (steps : List Footstep) (e : Event) (es : List Event)
    (before : List Footstep) (t : Footstep) (after : List Footstep) (n : ℕ)
    (is : trail_from plan w a steps (e ∷ es) ≡ steps ++ (before ++ t ∷ after)) (said : t.answer ≡ Some n)
    (rest : (l b : List Footstep) → trail_from plan (step plan w e) a l es ≡ l ++ (b ++ t ∷ after)
    → Found plan (step plan w e) a l es (l ++ b) t n) where
  on : (l : List Footstep) → added w e a steps (row_of_event plan w e) ≡ l
      → trail_from plan (step plan w e) a l es ≡ steps ++ (before ++ t ∷ after)
  on l same = ap (λ (z : List Footstep). trail_from plan (step plan w e) a z es) (sym same)
      ∙ (sym (opened plan w a steps e es) ∙ is)

  more : (l first : List Footstep) → added w e a steps (row_of_event plan w e) ≡ l
      → Found plan (step plan w e) a l es first t n → Found plan w a steps (e ∷ es) first t n
  more l first same f = record {
    early = e ∷ f.early;
    late = f.late;
    events = ap (λ (z : List Event). e ∷ z) f.events;
    trail = opened plan w a steps e f.early
        ∙ (ap (λ (z : List Footstep). trail_from plan (step plan w e) a z f.early) same ∙ f.trail);
    there = ap (λ (z : World). read z.words t.place) (ran plan w e f.early) ∙ f.there;
  }

  -- the event added this step
  module _ (x : Action) (m : Row)
      (one : added w e a steps (row_of_event plan w e) ≡ steps ++ footstep_of x m (read w.words m.place) ∷ []) where
    abbrev u : Footstep
    u = footstep_of x m (read w.words m.place)

    abbrev longer : List Footstep
    longer = steps ++ u ∷ []

    then : GoesOn plan (step plan w e) a longer es
    then = goes_on plan (step plan w e) a longer es

    begins : u ∷ then.0 ≡ before ++ t ∷ after
    begins = append_cancel_left steps (u ∷ then.0) (before ++ t ∷ after)
        (sym (append_assoc steps (u ∷ []) then.0) ∙ (sym then.1 ∙ on longer one))

    which : (b : List Footstep) → b ≡ before → Found plan w a steps (e ∷ es) (steps ++ before) t n
    which [] nil =
        let h = heads u t then.0 after (begins ∙ ap (λ (l : List Footstep). l ++ t ∷ after) (sym nil)) in
        let found : read w.words m.place ≡ n = answers m.operation (read w.words m.place) n
        (ap (λ (s : Footstep). s.answer) h.0 ∙ said) in
        let at : read w.words t.place ≡ n = ap (λ (s : Footstep). read w.words s.place) (sym h.0) ∙ found in
        record {
          early = [];
          late = e ∷ es;
          events = refl;
          trail = ended plan w a steps ∙ (sym (append-nil steps) ∙ ap (λ (l : List Footstep). steps ++ l) nil);
          there = ap (λ (z : World). read z.words t.place) (run_none plan w) ∙ at;
        }
    which (c ∷ cs) some =
        let h = heads u c then.0 (cs ++ t ∷ after)
        (begins ∙ ap (λ (l : List Footstep). l ++ t ∷ after) (sym some)) in
        let whole : longer ++ cs ≡ steps ++ before = append_assoc steps (u ∷ []) cs
        ∙ (ap (λ (s : Footstep). steps ++ s ∷ cs) h.0 ∙ ap (λ (l : List Footstep). steps ++ l) some) in
        let next : trail_from plan (step plan w e) a longer es ≡ longer ++ (cs ++ t ∷ after) = then.1
        ∙ ap (λ (l : List Footstep). longer ++ l) h.1 in
        more longer (steps ++ before) one (subst
        (λ (l : List Footstep). Found plan (step plan w e) a longer es l t n) whole (rest longer cs next))

  find_one : Adding plan w e a steps → Found plan w a steps (e ∷ es) (steps ++ before) t n
  find_one (leaves same) = more steps (steps ++ before) same (rest steps before (on steps same))
  find_one (adds one) = which one.0 one.1 one.2 before refl

find : (plan : Plan) (w : World) (a : ℕ) (steps : List Footstep) (es : List Event) (before : List Footstep)
    (t : Footstep) (after : List Footstep) (n : ℕ) → trail_from plan w a steps es ≡ steps ++ (before ++ t ∷ after)
    → t.answer ≡ Some n → Found plan w a steps es (steps ++ before) t n
find plan w a steps [] before t after n is said =
    absurd (not_longer steps before t after (sym (ended plan w a steps) ∙ is))
find plan w a steps (e ∷ es) before t after n is said = find_one plan w a steps e es before t after n is said
    (λ l b so. find plan (step plan w e) a l es b t after n so said) (adding plan w e a steps)

-- ---- the laws

-- a key that names a place unpacks to it
unpacks : (plan : Plan) (k : ℕ) (x : KeyRef) → place_named plan k ≡ Some x → plan.keys.unpack k ≡ Some x
unpacks plan k x h = go (plan.keys.unpack k) refl h where
  go : (o : Option KeyRef) → plan.keys.unpack k ≡ o → (elim o as (λ _. Option KeyRef) [
    | Some y ↦ cond (nat_lt y.page (heap_pages plan) && nat_lt y.slot 48) (Some y) None
    | None ↦ None
  ]) ≡ Some x → plan.keys.unpack k ≡ Some x
  go None is h = absurd (let no : ⊥ = cc in no)
  go (Some y) is h = by (nat_lt y.page (heap_pages plan) && nat_lt y.slot 48) h where
    by : (b : Bool) → cond b (Some y) None ≡ Some x → plan.keys.unpack k ≡ Some x
    by true same = is ∙ same
    by false same = absurd (let no : ⊥ = cc in no)

absent_by : (plan : Plan) (w : World) (k : ℕ) (x : KeyRef) (b : Action) (n : ℕ) → place_named plan k ≡ Some x
    → read w.words (step_at_slot b x n).place ≡ n → live_at x.generation n ≡ false → map_of plan w.words k ≡ None
absent_by plan w k x b n named there off =
    ap (λ (o : Option KeyRef). elim o as (λ _. Option (List ℕ)) [
      | Some y ↦ cond (live_at y.generation (w.words.state_at y.page y.slot))
          (Some (value_at w.words y.page y.slot)) None
      | None ↦ None
    ]) (unpacks plan k x named)
    ∙ ap (λ (b : Bool). cond b (Some (value_at w.words x.page x.slot)) None)
    (ap (live_at x.generation) there ∙ off)

-- the moment of the step that missed the key
module _ (plan : Plan) (es : List Event) (a : ℕ) (before new : List Footstep) (v : View) (k : ℕ) (x : KeyRef)
    (trail : trail_of plan es a ≡ before ++ new) (m : StepMisses v k x new) where
  abbrev missing : Footstep
  missing = step_at_slot m.action x m.found

  moment : Found plan (open_world plan) a [] es (before ++ m.earlier) missing m.found
  moment = find plan (open_world plan) a [] es (before ++ m.earlier) missing m.later m.found
      (trail ∙ (ap (λ (l : List Footstep). before ++ l) m.steps
      ∙ sym (append_assoc before m.earlier (missing ∷ m.later)))) refl

  late_enough : length before ≤ length (trail_of plan moment.early a)
  late_enough =
      let long : length (trail_of plan moment.early a) ≡ length before + length m.earlier = ap length moment.trail
      ∙ length-append before m.earlier in
      omega arith

pub missed_is_absent : MissedIsAbsent
missed_is_absent plan es a before new v k x trail named m =
    let f = moment plan es a before new v k x trail m in
    record {
      early = f.early;
      late = f.late;
      events = f.events;
      after = late_enough plan es a before new v k x trail m;
      absent = absent_by plan (run plan f.early) k x m.action m.found named f.there m.absent;
    }

pub staying_is_met : StayingIsMet
staying_is_met plan es a before new v k x trail named stays m =
    let f = missed_is_absent plan es a before new v k x trail named m in
    let there : IsSome (map_of plan (run plan f.early).words k) = stays f.early f.late f.events f.after in
    let none : IsSome {T = List ℕ} None = subst (λ (o : Option (List ℕ)). IsSome o) f.absent there in
    cc

pub heard_is_removed : HeardIsRemoved
heard_is_removed layout shape lawful is_shape fits es a before new v k x trail named m other heard =
    let plan : Plan = plan_of layout shape in
    let f = moment plan es a before new v k x trail m in
    let tells = states_tell layout shape lawful is_shape fits f.early k x (unpacks plan k x named) in
    record {
      early = f.early;
      late = f.late;
      events = f.events;
      after = late_enough plan es a before new v k x trail m;
      removed = tells.removed ∙ (ap (past_at x.generation) f.there ∙ by (m.removed heard));
    } where
      by : (past_at x.generation m.found ≡ true) ⊎ (m.action ≡ action.EnterGet k)
          → past_at x.generation m.found ≡ true
      by (inl past) = past
      by (inr got) = absurd (other got)
