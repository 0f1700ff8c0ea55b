-- A move that was done is the step of each world that the kept words represent.
use Rattle.std.proofs.Common.{◌≡◌, ℕ, zero, suc, ◌+◌, ◌-◌, ◌*◌, ◌<◌, ◌≤◌, List, [], ◌∷◌, length, get_or, set, take}
use Rattle.std.proofs.Common.{◌++◌, sym, refl, ap, ◌∙◌, subst, arith, Option, Some, None, slice_get}
use Rattle.std.specs.Prelude.{Result, Ok, Err, IfOk, OnErr}
use Rattle.sh_value.specs.declared.refusal.Refusal.{Refusal}
use Rattle.sh_history.specs.declared.entry.Entry.{Entry}
use Rattle.sh_key.specs.Layout.{Layout}
use Rattle.sh_shape.specs.declared.places.Place.{Place}
use Rattle.sh_shape.specs.declared.places.Place.TheVariants.{Class, Head, PageLink, State, Link, Length, Payload, Owner}
use Rattle.sh_shape.specs.declared.places.Place.TheVariants.{Bell}
use Rattle.sh_shape.specs.Classes.{width}
use Rattle.sh_shape.specs.Shape.{Numbers}
use Rattle.sh_slots.specs.declared.reply.Reply.{Reply}
use Rattle.sh_slots.specs.declared.reply.Reply.TheVariants as reply
use Rattle.sh_step.specs.declared.action.Event.{Event}
use Rattle.sh_step.specs.declared.body.Body.{Body}
use Rattle.sh_step.specs.Plans.{Plan, plan_of}
use Rattle.sh_step.specs.Moves.{row}
use Rattle.sh_step.specs.Rows.{Row}
use Rattle.sh_core.specs.declared.outcome.Outcome.{Outcome}
use Rattle.sh_core.specs.declared.outcome.Outcome.TheVariants.{Skipped}
use Rattle.sh_core.specs.Words.{Words, read}
use Rattle.std.proofs.lemmas.List.{take_more}
use Rattle.sh_core.proofs.Words.Steps.{run_snoc, row_of_at}
use Rattle.sh_core.specs.Worlds.{World, step, run, open_world, words_from, value_at, value_at_place, entry_of, joined}
use Rattle.sh_core.specs.Outcomes.{row_of_event, outcome_of, done}
use Rattle.sh_core.specs.Kept.{KeptWorld, Represents, HoldsWords, FromEvents, IsReady, DoesRow, StepsWorld, IsDone}
use Rattle.sh_core.specs.Kept.{AsksMemory, NeedsMemory, SlotHasValue, KeepsValue, value_in, value_kept, word_at}
use Rattle.sh_core.specs.Kept.{new_entry}
use Rattle.sh_shape.proofs.ClassLaws.{slots_few}
use Rattle.sh_core.proofs.Words.KeptValues.{row_within}
use Rattle.sh_core.proofs.Words.Stepping.{stands_moves, stands_skips, stands_past, row_of_past, outcome_done}
use Rattle.sh_core.proofs.Words.Stepping.{outcome_skipped, outcome_not_skipped, reached_on, moved}

words_same : (f g : ℕ → ℕ) (i n : ℕ) → ((j : ℕ) → i ≤ j → j < i + n → f j ≡ g j) → words_from f i n ≡ words_from g i n
words_same f g i zero h = refl
words_same f g i (suc n) h = let here : f i ≡ g i = h i (omega arith) (omega arith)
    in let rest = words_same f g (i + 1) n (λ j a b. h j (omega arith) (omega arith)) in λ k. here k ∷ rest k

-- a value in the list is that of the world
value_same : (shape : Numbers) (list : List ℕ) (w : Words) (q s : ℕ) → HoldsWords shape list w
    → SlotHasValue shape list (record { page = q; slot = s }) → value_in shape list (record { page = q; slot = s })
    ≡ value_at w q s
unfolding value_at
value_same shape list w q s h v =
    let c : word_at shape list (Class q) ≡ w.class_at q = h.at (Class q) v.page in
    let few = slots_few (word_at shape list (Class q) - 1) in
    let low : s < 48 = let a = v.slot in omega arith in
    let l : word_at shape list (Length q s) ≡ w.length_at q s = h.at (Length q s) (v.page, low) in
    let within = row_within (word_at shape list (Class q) - 1) s (word_at shape list (Length q s))
    (let a = v.has_class in let b = v.is_class in omega arith) v.slot v.length in
    words_same (λ i. word_at shape list (Payload q i)) (w.payload_at q) (s * width (word_at shape list (Class q) - 1))
    (word_at shape list (Length q s)) (λ j a b. h.at (Payload q j) (v.page, omega arith))
    ∙ λ i. words_from (w.payload_at q) (s * width (c i - 1)) (l i)

kept_same : (shape : Numbers) (list : List ℕ) (w : Words) (p : Place) → HoldsWords shape list w
    → KeepsValue shape list p → value_kept shape list p ≡ value_at_place w p
kept_same shape list w (State q s) h v = value_same shape list w q s h v
kept_same shape list w (Class q) h v = absurd v
kept_same shape list w (Head q) h v = absurd v
kept_same shape list w (PageLink q) h v = absurd v
kept_same shape list w (Link q s) h v = absurd v
kept_same shape list w (Length q s) h v = absurd v
kept_same shape list w (Payload q s) h v = absurd v
kept_same shape list w (Owner q) h v = absurd v
kept_same shape list w (Bell q) h v = absurd v

-- an entry has a value only if it is got
entry_same : (a : ℕ) (v u : List ℕ) (o : Option Reply) → ((k : ℕ) → o ≡ Some (reply.Got k) → v ≡ u) → entry_of a v o
    ≡ entry_of a u o
entry_same a v u (Some (reply.Got k)) h = let e = h k refl in ap (λ (xs : List ℕ). entry_of a xs (Some (reply.Got k))) e
entry_same a v u (Some (reply.Insert k x)) h = refl
entry_same a v u (Some (reply.Gone k)) h = refl
entry_same a v u (Some (reply.Crowded k)) h = refl
entry_same a v u (Some (reply.Removed k)) h = refl
entry_same a v u (Some (reply.Released k)) h = refl
entry_same a v u (Some (reply.Seen k x)) h = refl
entry_same a v u None h = refl

new_same : (layout : Layout) (k : KeptWorld) (w : World) (a : ℕ) (r : Row) → Represents k w
    → IsReady layout k.shape k.words r → new_entry k.shape k.words a r
    ≡ entry_of a (value_at_place w.words r.place) (r.reply (word_at k.shape k.words r.place))
new_same layout k w a r s ready = entry_same a (value_kept k.shape k.words r.place) (value_at_place w.words r.place)
    (r.reply (word_at k.shape k.words r.place)) (λ j g. kept_same k.shape k.words w.words r.place s.words
    (ready.gets j g))

-- what is kept after a move was done
pub record Done (k k' : KeptWorld) (e : Event) (r : Row) (came : Outcome) : Type 0 where
  pub part : Body
  pub does : DoesRow k.shape e.pass r k.words k.log came k'.words part k'.log
  pub shape : k'.shape ≡ k.shape
  pub parts : k'.parts ≡ set k.parts e.pass part

module _ (layout : Layout) (k k' : KeptWorld) (e : Event) (p : Body) (r : Row) (came : Outcome)
    (reached : FromEvents layout k) (at : slice_get k.parts e.pass ≡ Some p)
    (is : row (plan_of layout k.shape) p e.action ≡ Some r) (ready : IsReady layout k.shape k.words r) where
  abbrev plan : Plan
  plan = plan_of layout k.shape

  event_row : (w : World) → Represents k w → row_of_event plan w e ≡ Some r
  event_row w s = let here : slice_get w.parts e.pass ≡ Some p = rw (← s.parts) at in row_of_at plan w e p here ∙ is

  world_done : Done k k' e r came → (w : World) → Represents k w → Represents k' (step plan w e)
  world_done d w s =
      let n : ℕ = word_at k.shape k.words r.place in
      let new : Option Entry = entry_of e.pass (value_at_place w.words r.place) (r.reply n) in
      let same : moved k e.pass r n new ≡ k' = λ i. record {
        shape = sym d.shape i;
        words = sym d.does.words i;
        parts = (sym (ap (λ (b : Body). set k.parts e.pass b) d.does.part) ∙ sym d.parts) i;
        log = (sym (ap (joined k.log) (new_same layout k w e.pass r s ready)) ∙ sym d.does.log) i;
      } in
      let P : KeptWorld → Type 0 = λ u. Represents u (step plan w e) in
      subst P same (stands_moves plan k w e p r s at is ready.row.place)

  outcome_is : Done k k' e r came → (w : World) → Represents k w → came ≡ outcome_of plan w e
  outcome_is d w s =
      let n : word_at k.shape k.words r.place ≡ read w.words r.place = s.words.at r.place ready.row.place in
      d.does.outcome ∙ (ap done (new_same layout k w e.pass r s ready)
      ∙ (ap (λ (m : ℕ). done (entry_of e.pass (value_at_place w.words r.place) (r.reply m))) n
      ∙ sym (outcome_done plan w e r (event_row w s))))

  pub steps_done : Done k k' e r came → StepsWorld layout k e came k'
  steps_done d = record { shape = d.shape; world = world_done d; outcome_is = outcome_is d }

  pub reached_done : Done k k' e r came → FromEvents layout k'
  reached_done d = reached_on layout k k' e reached d.shape (world_done d)

  pub is_done : IsDone layout k e
  is_done w s = outcome_not_skipped plan w e r (event_row w s)

-- nothing changed if there is no such pass, or if the condition does not hold
pub steps_past : (layout : Layout) (k : KeptWorld) (e : Event) → slice_get k.parts e.pass ≡ None
    → StepsWorld layout k e Skipped k
steps_past layout k e at =
    let plan : Plan = plan_of layout k.shape in record {
      shape = refl;
      world = λ w s. stands_past plan k w e s at;
      outcome_is = λ w s. sym (outcome_skipped plan w e (row_of_past plan w e
          (let here : slice_get w.parts e.pass ≡ None = rw (← s.parts) at in here)));
    }

pub steps_skipped : (layout : Layout) (k : KeptWorld) (e : Event) (p : Body) → slice_get k.parts e.pass ≡ Some p
    → row (plan_of layout k.shape) p e.action ≡ None → StepsWorld layout k e Skipped k
steps_skipped layout k e p at is =
    let plan : Plan = plan_of layout k.shape in record {
      shape = refl;
      world = λ w s. stands_skips plan k w e p s at is;
      outcome_is = λ w s. sym (outcome_skipped plan w e (row_of_at plan w e p
          (let here : slice_get w.parts e.pass ≡ Some p = rw (← s.parts) at in here) ∙ is));
    }

pub set_here : (ps : List Body) (a : ℕ) (p : Body) → slice_get ps a ≡ Some p → set ps a p ≡ ps
set_here [] a p h = refl
set_here (x ∷ ps) zero p h = let same : p ≡ x = cc in ap (λ (u : Body). u ∷ ps) same
set_here (x ∷ ps) (suc a) p h = ap (λ (us : List Body). x ∷ us) (set_here ps a p h)

-- after a move was tried: it was done, or nothing changed
module _ (layout : Layout) (k : KeptWorld) (e : Event) (p : Body) (r : Row) (reached : FromEvents layout k)
    (at : slice_get k.parts e.pass ≡ Some p) (is : row (plan_of layout k.shape) p e.action ≡ Some r)
    (ready : IsReady layout k.shape k.words r) (res : Result Outcome Refusal) (words' : List ℕ) (part' : Body)
    (log' : List Entry) (ok : IfOk res (λ came. DoesRow k.shape e.pass r k.words k.log came words' part' log')) where
  abbrev world_after : KeptWorld
  world_after = record { shape = k.shape; words = words'; parts = set k.parts e.pass part'; log = log' }

  done_with : (came : Outcome) → DoesRow k.shape e.pass r k.words k.log came words' part' log'
      → Done k world_after e r came
  done_with came d = record { part = part'; does = d; shape = refl; parts = refl }

  pub reached_after : OnErr res (words' ≡ k.words) → OnErr res (part' ≡ p) → OnErr res (log' ≡ k.log)
      → FromEvents layout world_after
  reached_after a b c = go res ok a b c where
    go : (s : Result Outcome Refusal) → IfOk s (λ came. DoesRow k.shape e.pass r k.words k.log came words' part' log')
        → OnErr s (words' ≡ k.words) → OnErr s (part' ≡ p) → OnErr s (log' ≡ k.log) → FromEvents layout world_after
    go (Ok came) d a b c = reached_done layout k world_after e p r came reached at is ready (done_with came d)
    go (Err x) d a b c =
        let parts : set k.parts e.pass part' ≡ k.parts = ap (λ (u : Body). set k.parts e.pass u) b
        ∙ set_here k.parts e.pass p at in
        let same : world_after ≡ k = λ i. record { shape = k.shape; words = a i; parts = parts i; log = c i } in
        subst (FromEvents layout) (sym same) reached

  pub steps_after : IfOk res (λ came. StepsWorld layout k e came world_after)
  steps_after = go res ok where
    go : (s : Result Outcome Refusal) → IfOk s (λ came. DoesRow k.shape e.pass r k.words k.log came words' part' log')
        → IfOk s (λ came. StepsWorld layout k e came world_after)
    go (Ok came) d = steps_done layout k world_after e p r came reached at is ready (done_with came d)
    go (Err x) d = tt

  pub done_after : OnErr res (IsDone layout k e)
  done_after = go res where
    go : (s : Result Outcome Refusal) → OnErr s (IsDone layout k e)
    go (Ok came) = tt
    go (Err x) = is_done layout k world_after e p r Skipped reached at is ready

-- if its memory is refused, the event asked for some
pub needs_after : (layout : Layout) (k : KeptWorld) (e : Event) (p : Body) (r : Row) → slice_get k.parts e.pass ≡ Some p
    → row (plan_of layout k.shape) p e.action ≡ Some r → (res : Result Outcome Refusal)
    → OnErr res (AsksMemory r p (word_at k.shape k.words r.place)) → OnErr res (NeedsMemory layout k e)
needs_after layout k e p r at is (Ok came) h = tt
needs_after layout k e p r at is (Err x) h = (p, r, at, is, h)

-- one more event of a list
pub goes_on : (plan : Numbers → Plan) (k k' : KeptWorld) (es : List Event) (i : ℕ) (e : Event) {shape : Numbers}
    → k.shape ≡ shape → i < length es → e ≡ get_or es i e → ((w : World) → Represents k w
    → Represents k' (step (plan k.shape) w e))
    → Represents k (run (plan shape) (take i es)) → Represents k' (run (plan shape) (take (i + 1) es))
goes_on plan k k' es i e {shape} same less is steps old =
    let more : take (i + 1) es ≡ take i es ++ e ∷ [] = take_more es i e less
    ∙ ap (λ (d : Event). take i es ++ d ∷ []) (sym is) in
    let P : Numbers → Type 0 = λ n. Represents k (run (plan n) (take i es)) in
    let Q : Numbers → Type 0 = λ n. Represents k' (run (plan n) (take (i + 1) es)) in
    let R : World → Type 0 = λ w. Represents k' w in
    let here : run (plan k.shape) (take (i + 1) es) ≡ step (plan k.shape) (run (plan k.shape) (take i es)) e = ap
    (λ (ds : List Event). run (plan k.shape) ds) more ∙ run_snoc (plan k.shape) (open_world (plan k.shape))
    (take i es) e in
    subst Q same (subst R (sym here) (steps (run (plan k.shape) (take i es)) (subst P (sym same) old)))
