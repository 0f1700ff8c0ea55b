-- A key ends once: a step ends a key, or leaves each as it was.
use Rattle.std.proofs.Common.{◌≡◌, ℕ, ◌+◌, ◌-◌, ◌==◌, ◌&&◌, ◌||◌, Bool, true, false, cond, refl, sym, ap, ◌∙◌}
use Rattle.std.proofs.Common.{subst, arith, Option, Some, None, slice_get, eqb-true}
use Rattle.std.specs.Prelude.{nat_lt, not}
use Rattle.std.specs.Bool.{then_some}
use Rattle.std.proofs.lemmas.Bool.{and_parts}
use Rattle.std.proofs.lemmas.Bool.Decides.{nat_tests}
use Rattle.sh_shape.specs.declared.places.Place.{Place}
use Rattle.sh_shape.specs.declared.places.Place.TheVariants.{Class, Head, PageLink, State, Link, Length, Payload, Owner}
use Rattle.sh_shape.specs.declared.places.Place.TheVariants.{Bell}
use Rattle.sh_slots.specs.declared.hand.Hand.{Hand}
use Rattle.sh_slots.specs.declared.hand.Hand.TheVariants.{Removing, Finishing, Filling}
use Rattle.sh_slots.specs.declared.hand.KeyRef.{KeyRef}
use Rattle.sh_slots.specs.declared.hand.Sight.{Sight}
use Rattle.sh_slots.specs.declared.hand.Sight.TheVariants.{Bare, Classed, Measured}
use Rattle.sh_slots.specs.declared.hand.SlotRef.{SlotRef}
use Rattle.sh_slots.specs.Slots.{same_slot, slot_ref_of, name_at, marked_word, retired_word, reusable_word}
use Rattle.sh_step.specs.declared.action.Action.{Action}
use Rattle.sh_step.specs.declared.action.Action.TheVariants as action
use Rattle.sh_step.specs.declared.action.Event.{Event}
use Rattle.sh_step.specs.declared.body.Body.{Body}
use Rattle.sh_step.specs.declared.moves.Move.{Move}
use Rattle.sh_step.specs.declared.moves.Move.TheVariants.{EnterGet, EnterRemove, Mark, Drop, DropHold, ReadEnding, Finish}
use Rattle.sh_step.specs.declared.moves.Move.TheVariants.{Publish, Peek, Look, LookOn, LookAgain}
use Rattle.sh_step.specs.Collections.{if1}
use Rattle.sh_step.specs.Conditions.{May, action_of}
use Rattle.sh_word.specs.Fields.{Fields, fields_of}
use Rattle.sh_step.specs.Moves.{row_of, row, move_of}
use Rattle.sh_step.specs.Operations.{operate}
use Rattle.sh_step.specs.Plans.{Plan}
use Rattle.sh_step.specs.Rows.{Row, hand, look_place}
use Rattle.sh_step.proofs.ConditionLaws.{move_of_row}
use Rattle.sh_word.proofs.Words.{fields_of-word_of, fields_of-or_mark, fields_of-or_present, fields_of-add}
use Rattle.sh_word.proofs.Words.{fields_of-sub}
use Rattle.sh_core.specs.KeyEnds.{is_after, has_ended, Ending, ending_by, ending_of, is_end_of}
use Rattle.sh_core.specs.Lists.{PutLists, in_hand}
use Rattle.sh_core.specs.Placed.{Agreement}
use Rattle.sh_core.specs.Words.{Words, read, write, put2}
use Rattle.sh_core.specs.Worlds.{World, apply, step}
use Rattle.sh_core.proofs.Moves.ByMove.{MovesCount}
use Rattle.sh_core.proofs.Slots.FinishSums.{found_marked}
use Rattle.sh_core.proofs.Slots.MarkStep.{is_current}
use Rattle.sh_core.proofs.Slots.Slots.{if1_same_slot}
use Rattle.sh_core.proofs.Slots.SlotSteps.{reused_fields}
use Rattle.sh_core.proofs.Slots.SlotSums.{room_few}
use Rattle.sh_core.proofs.Slots.SumsKinds.{retired_fields}
use Rattle.sh_core.proofs.Sums.Tests.{if1_neither}
use Rattle.sh_core.proofs.Sums.Totals.{total_at}
use Rattle.sh_core.proofs.Sums.Writes.{put2_same, put2_other}

-- what is written to a place leaves each key of a slot as ended as it was
abbrev WritesNoEnd : Words → Place → ℕ → Type 0
WritesNoEnd w (State q s) n = (g : ℕ) → is_after g (fields_of n) ≡ is_after g (fields_of (w.state_at q s))
WritesNoEnd w _ n = Unit {0}

writes_no_end : (w : Words) (p : Place) (n : ℕ) → WritesNoEnd w p n → (q s g : ℕ)
    → is_after g (fields_of ((write w p n).state_at q s)) ≡ is_after g (fields_of (w.state_at q s))
writes_no_end w (State y z) n new q s g = go ((q == y) && (s == z)) refl where
  go : (b : Bool) → ((q == y) && (s == z)) ≡ b
      → is_after g (fields_of (put2 w.state_at y z n q s)) ≡ is_after g (fields_of (w.state_at q s))
  go true e = let i = and_parts (q == y) (s == z) e
      in rw (eqb-true q y i.0, eqb-true s z i.1, put2_same w.state_at y z n) (new g)
  go false e = rw (put2_other w.state_at y z n q s e) refl
writes_no_end w (Class y) n new q s g = refl
writes_no_end w (Head y) n new q s g = refl
writes_no_end w (PageLink y) n new q s g = refl
writes_no_end w (Link y z) n new q s g = refl
writes_no_end w (Length y z) n new q s g = refl
writes_no_end w (Payload y i) n new q s g = refl
writes_no_end w (Owner i) n new q s g = refl
writes_no_end w (Bell i) n new q s g = refl

-- a count says nothing of an end
counted_same : (n k c : ℕ) → fields_of k ≡ record (fields_of n) { count = c } → (g : ℕ)
    → is_after g (fields_of k) ≡ is_after g (fields_of n)
counted_same n k c e g = rw e refl

-- in a slot that is present, or not marked, only the earlier generations have ended
only_earlier : (g : ℕ) (st : Fields) → (not st.present && st.marked) ≡ false → is_after g st ≡ nat_lt g st.generation
only_earlier g st = go (nat_lt g st.generation) st.present st.marked (st.generation == g) where
  go : (b p m e : Bool) → (not p && m) ≡ false → (b || (not p && m && e)) ≡ b
  go true p m e h = refl
  go false true m e h = refl
  go false false false e h = refl
  go false false true e h = absurd (let z : true ≡ false = h in cc)

-- the word that a Finish leaves ends the one key whose marked word it found
finish_word : (max g h n : ℕ)
    → if1 (is_after h (fields_of (cond (n == marked_word g) (cond (g == max) (retired_word g) (reusable_word g)) n)))
    ≡ if1 (is_after h (fields_of n)) + if1 ((n == marked_word g) && (g == h))
finish_word max g h n = go (n == marked_word g) (g == max) refl where
  retires : (b c : Bool) → nat_lt h g ≡ b → (g == h) ≡ c → if1 (b || c) ≡ if1 (b || false) + if1 c
  retires true true d e = absurd (let z : ⊥ = grind (arith, nat_tests, d, e) in z)
  retires true false d e = refl
  retires false true d e = refl
  retires false false d e = refl

  goes_on : (b c d : Bool) → nat_lt h (g + 1) ≡ b → nat_lt h g ≡ c → (g == h) ≡ d
      → if1 (b || false) ≡ if1 (c || false) + if1 d
  goes_on true true true e i j = absurd (let z : ⊥ = grind (arith, nat_tests, i, j) in z)
  goes_on true true false e i j = refl
  goes_on true false true e i j = refl
  goes_on true false false e i j = absurd (let z : ⊥ = grind (arith, nat_tests, e, i, j) in z)
  goes_on false true d e i j = absurd (let z : ⊥ = grind (arith, nat_tests, e, i) in z)
  goes_on false false true e i j = absurd (let z : ⊥ = grind (arith, nat_tests, e, j) in z)
  goes_on false false false e i j = refl

  go : (b c : Bool) → (n == marked_word g) ≡ b
      → if1 (is_after h (fields_of (cond b (cond c (retired_word g) (reusable_word g)) n)))
      ≡ if1 (is_after h (fields_of n)) + if1 (b && (g == h))
  go false c e = omega arith
  go true true e = rw (found_marked n g e, fields_of-word_of (retired_fields g) (omega arith))
      (retires (nat_lt h g) (g == h) refl refl)
  go true false e = rw (found_marked n g e, fields_of-word_of (reused_fields g) (omega arith))
      (goes_on (nat_lt h (g + 1)) (nat_lt h g) (g == h) refl refl refl)

module _ (plan : Plan) (w : World) (l : PutLists) (all : Agreement plan w l) (a : ℕ) (p : Body)
    (at : slice_get w.parts a ≡ Some p) (counts : MovesCount plan w p) where
  abbrev state : SlotRef → Fields
  state x = fields_of (w.words.state_at x.page x.slot)

  -- the part with the hand that it has
  here : (h : Hand) → p.hand ≡ h → slice_get w.parts a ≡ Some (hand p h)
  here h is = at ∙ ap (λ (u : Body). Some u) (λ j. record p { hand = is j })

  look_ends_none : (x : KeyRef) (s : Sight) → WritesNoEnd w.words (look_place x s) (read w.words (look_place x s))
  look_ends_none x Bare = tt
  look_ends_none x (Classed c) = tt
  look_ends_none x (Measured c m u) = tt

  abbrev IsFinish : Move → Type 0
  IsFinish (Finish x g) = Unit {0}
  IsFinish _ = ⊥

  -- only a Finish ends keys
  ends_none : (m : Move) → May plan p m → (IsFinish m → ⊥)
      → WritesNoEnd w.words (row_of plan p m).place (operate (row_of plan p m).operation
      (read w.words (row_of plan p m).place))
  ends_none (EnterGet k x) may never =
      let few = counts (EnterGet k x) may in
      let n : ℕ = w.words.state_at x.page x.slot in
      counted_same n (n + 1) ((fields_of n).count + 1) (fields_of-add n (omega arith))
  ends_none (EnterRemove k x) may never =
      let few = counts (EnterRemove k x) may in
      let n : ℕ = w.words.state_at x.page x.slot in
      counted_same n (n + 1) ((fields_of n).count + 1) (fields_of-add n (omega arith))
  ends_none (Mark k x) (is, named) never = λ g.
      let n : ℕ = w.words.state_at x.page x.slot in
      let c = is_current _ _ (fields_of n) plan w.parts a p k x named.unpacks (here (Removing k) is)
      (all.sums.slots (slot_ref_of x)) in
      rw (fields_of-or_mark n) (only_earlier g (record (fields_of n) { marked = true }) (rw c.0 refl)
      ∙ sym (only_earlier g (fields_of n) (rw c.0 refl)))
  ends_none (Drop x) may never =
      let some = counts (Drop x) may in
      let n : ℕ = w.words.state_at x.page x.slot in
      counted_same n (n - 1) ((fields_of n).count - 1) (fields_of-sub n (omega arith))
  ends_none (DropHold k x) may never =
      let some = counts (DropHold k x) may in
      let n : ℕ = w.words.state_at x.page x.slot in
      counted_same n (n - 1) ((fields_of n).count - 1) (fields_of-sub n (omega arith))
  ends_none (Finish x g) may never = absurd (never tt)
  ends_none (Publish x v) (i, is, end) never = λ g.
      let n : ℕ = w.words.state_at x.page x.slot in
      let f = all.sums.slots x in
      let few = room_few w.words x in
      let one = if1_same_slot x in
      let t = total_at (in_hand x) w.parts a (hand p (Filling x v i)) (here (Filling x v i) is) in
      let none = if1_neither (fields_of n).present (fields_of n).marked (omega arith) in
      rw (fields_of-or_present n) (only_earlier g (record (fields_of n) { present = true }) refl
      ∙ sym (only_earlier g (fields_of n) (rw (none.0, none.1) refl)))
  ends_none (Peek x) may never = λ g. refl
  ends_none (Look k x) may never = λ g. refl
  ends_none (LookOn k x s) may never = look_ends_none x s
  ends_none (ReadEnding x g s) may never = look_ends_none (name_at x g) s
  ends_none (LookAgain k x s) may never = λ g. refl
  ends_none m may never = tt

  -- whether a Finish ends the key, by whether it finds the marked word
  abbrev is_end_by : KeyRef → SlotRef → ℕ → Sight → Bool → Bool
  is_end_by n x g s b = is_end_of n (then_some b (record { name = name_at x g; sight = s }))

  finish_tells : (n : KeyRef) (x : SlotRef) (g : ℕ) (s : Sight) (b : Bool) → same_slot (slot_ref_of n) x ≡ true
      → is_end_by n x g s b ≡ (b && (g == n.generation))
  finish_tells n x g s true e = rw e refl
  finish_tells n x g s false e = refl

  finish_tells_none : (n : KeyRef) (x : SlotRef) (g : ℕ) (s : Sight) (b : Bool) → same_slot (slot_ref_of n) x ≡ false
      → is_end_by n x g s b ≡ false
  finish_tells_none n x g s true e = rw e refl
  finish_tells_none n x g s false e = refl

  finish_once : (x : SlotRef) (g : ℕ) (s : Sight) (n : KeyRef)
      → if1 (has_ended (apply w a (row_of plan p (Finish x g))) n)
      ≡ if1 (has_ended w n) + if1 (is_end_of n (ending_by w action.Finish (Finishing x g s)))
  unfolding apply
  finish_once x g s n = go (same_slot (slot_ref_of n) x) refl where
    found : ℕ
    found = w.words.state_at x.page x.slot

    next : ℕ
    next = cond (found == marked_word g) (cond (g == plan.keys.gen_max) (retired_word g) (reusable_word g)) found

    go : (b : Bool) → same_slot (slot_ref_of n) x ≡ b
        → if1 (is_after n.generation (fields_of (put2 w.words.state_at x.page x.slot next n.page n.slot)))
        ≡ if1 (has_ended w n) + if1 (is_end_by n x g s (found == marked_word g))
    go true e =
        let i = and_parts (n.page == x.page) (n.slot == x.slot) e in
        rw (
          finish_tells n x g s (found == marked_word g) e,
          eqb-true n.page x.page i.0,
          eqb-true n.slot x.slot i.1,
          put2_same w.words.state_at x.page x.slot next,
        ) (finish_word plan.keys.gen_max g n.generation found)
    go false e = rw (finish_tells_none n x g s (found == marked_word g) e, put2_other w.words.state_at x.page x.slot next n.page n.slot e)
        (omega arith)

  -- so a move ends a key exactly if the key had not ended before, and has after
  pub move_once : (m : Move) → May plan p m → (n : KeyRef) → if1 (has_ended (apply w a (row_of plan p m)) n)
      ≡ if1 (has_ended w n) + if1 (is_end_of n (ending_by w (action_of plan m) p.hand))
  unfolding apply
  move_once (Finish x g) (s, is) n = rw is (finish_once x g s n)
  move_once m may n = still m may (λ z. z) where
    ends_nothing : (m : Move) → (IsFinish m → ⊥) → is_end_of n (ending_by w (action_of plan m) p.hand) ≡ false
    ends_nothing (Finish x g) never = absurd (never tt)
    ends_nothing m never = refl

    still : (m : Move) → May plan p m → (IsFinish m → ⊥) → if1 (has_ended (apply w a (row_of plan p m)) n)
        ≡ if1 (has_ended w n) + if1 (is_end_of n (ending_by w (action_of plan m) p.hand))
    still m may never =
        let same = writes_no_end w.words (row_of plan p m).place (operate (row_of plan p m).operation
        (read w.words (row_of plan p m).place)) (ends_none m may never) n.page n.slot n.generation in
        rw (same, ends_nothing m never) (omega arith)

-- ---- so does an event

skips_no_end : (plan : Plan) (w : World) (p : Body) (x : Action) → row plan p x ≡ None → ending_by w x p.hand ≡ None
unfolding row move_of
skips_no_end plan w p action.Finish none = go p.hand refl where
  go : (h : Hand) → p.hand ≡ h → ending_by w action.Finish h ≡ None
  go (Finishing x g s) is = absurd (let z : Some (row_of plan p (Finish x g)) ≡ None = rw is at none in cc)
  go _ is = refl
skips_no_end plan w p _ none = refl

-- the world after an action by a pass with this hand
abbrev Once : World → KeyRef → Hand → World → Action → Type 0
Once w n h v x = if1 (has_ended v n) ≡ if1 (has_ended w n) + if1 (is_end_of n (ending_by w x h))

pub event_once : (plan : Plan) (w : World) (l : PutLists) → Agreement plan w l
    → ((a : ℕ) (p : Body) → slice_get w.parts a ≡ Some p → MovesCount plan w p) → (e : Event) (n : KeyRef)
    → if1 (has_ended (step plan w e) n) ≡ if1 (has_ended w n) + if1 (is_end_of n (ending_of w e))
unfolding step ending_of
event_once plan w l all counts e n = go (slice_get w.parts e.pass) refl where
  go : (o : Option Body) → slice_get w.parts e.pass ≡ o
      → if1 (has_ended (elim o as (λ _. World) [
        | Some p ↦ elim (row plan p e.action) [ Some m ↦ apply w e.pass m | None ↦ w ]
        | None ↦ w
      ]) n) ≡ if1 (has_ended w n) + if1 (is_end_of n (elim o as (λ _. Option Ending)
      [ Some p ↦ ending_by w e.action p.hand | None ↦ None ]))
  go None at = omega arith
  go (Some p) at = by (row plan p e.action) refl where
    by : (o : Option Row) → row plan p e.action ≡ o
        → Once w n p.hand (elim o as (λ _. World) [ Some m ↦ apply w e.pass m | None ↦ w ]) e.action
    by None h = rw (skips_no_end plan w p e.action h) (omega arith)
    by (Some r) h =
        let d = move_of_row plan p e.action r h in
        let t = move_once plan w l all e.pass p at (counts e.pass p at) d.0 d.2 n in
        subst (λ (u : Row). Once w n p.hand (apply w e.pass u) e.action) (sym d.4)
        (subst (Once w n p.hand (apply w e.pass (row_of plan p d.0))) d.3 t)
