-- A slot that a pass is filling has no present bit, so that an addition sets it.
use Rattle.std.proofs.Common.{◌≡◌, ℕ, ◌+◌, ◌%◌, ◌^◌, ◌<◌, ◌&&◌, Bool, true, false, List}
use Rattle.std.proofs.Common.{Some, None, Option, length, refl, ap, sym, subst, ◌∙◌, arith, slice_get}
use Rattle.std.specs.Bool.{then_some}
use Rattle.std.specs.Prelude.{bit_or, not, nat_le, nat_lt, option_map}
use Rattle.sh_core.specs.Lists.{PutLists, in_hand, slots_under, state_of}
use Rattle.sh_core.specs.Refines.{OneKind}
use Rattle.sh_core.specs.Words.{read}
use Rattle.sh_core.specs.Worlds.{World}
use Rattle.sh_core.proofs.Slots.Slots.{if1_same_slot}
use Rattle.sh_core.proofs.Sums.Totals.{total_at}
use Rattle.sh_core.proofs.Sums.Tests.{if1_few}
use Rattle.sh_shape.specs.declared.places.Place.{Place}
use Rattle.sh_shape.specs.declared.places.Place.TheVariants.{State}
use Rattle.sh_slots.specs.declared.hand.Hand.{Hand}
use Rattle.sh_slots.specs.declared.hand.Hand.TheVariants.{ToPut, Filling}
use Rattle.sh_slots.specs.declared.hand.SlotRef.{SlotRef}
use Rattle.sh_slots.specs.Slots.{same_slot}
use Rattle.sh_step.specs.Collections.{if1}
use Rattle.sh_step.specs.declared.action.Action.TheVariants as action
use Rattle.sh_step.specs.declared.body.Body.{Body}
use Rattle.sh_step.specs.declared.moves.Move.{Move}
use Rattle.sh_step.specs.declared.moves.Move.TheVariants as move
use Rattle.sh_step.specs.declared.operation.Operation.TheVariants.{FetchOr}
use Rattle.sh_step.specs.Moves.{move_of, row, row_of}
use Rattle.sh_step.specs.Operations.{wrapped}
use Rattle.sh_step.specs.Plans.{Plan}
use Rattle.sh_step.specs.Rows.{Row, publish}
use Rattle.sh_step.proofs.Truths.{no_some}
use Rattle.sh_table.specs.Steps.{Fills}
use Rattle.sh_word.specs.Fields.{Fields, fields_of, word_of}
use Rattle.sh_word.proofs.Words.{fields_of-or_present, or_present_fits, word_of-fields_of}

-- a slot that is neither live nor marked is not present
none_present : (present marked : Bool) → if1 (present && not marked) + if1 (present && marked) ≡ 0 → present ≡ false
none_present false marked e = refl
none_present true true e = absurd (omega arith)
none_present true false e = absurd (omega arith)

in_the_hand : (p : Body) (x : SlotRef) (v : List ℕ) (i : ℕ) → p.hand ≡ Filling x v i → in_hand x p ≡ 1
in_the_hand p x v i e = ap (λ (h : Hand). elim h as (λ _. ℕ)
    [ ToPut y ↦ if1 (same_slot x y) | Filling y u n ↦ if1 (same_slot x y) | _ ↦ 0 ]) e
    ∙ if1_same_slot x

-- a slot that a pass is filling is in its hand, which is its only kind, so it is not present
pub not_present : (w : World) (l : PutLists) (a : ℕ) (p : Body) (x : SlotRef) (v : List ℕ) (i : ℕ) → OneKind w l
    → slice_get w.parts a ≡ Some p → p.hand ≡ Filling x v i → (state_of w x).present ≡ false
not_present w l a p x v i kinds at is =
    let one = kinds x in
    let few = if1_few (nat_lt x.slot (slots_under (w.words.class_at x.page))) in
    let hand = total_at (in_hand x) w.parts a p at in
    let here = in_the_hand p x v i is in
    none_present (state_of w x).present (state_of w x).marked (omega arith)

word_is : (f : Fields) → f.present ≡ false → word_of (record f { present = true }) ≡ word_of f + 2 ^ 30
unfolding word_of
word_is f e = rw e (omega arith)

or_adds : (n : ℕ) → (fields_of n).present ≡ false → bit_or n (2 ^ 30) ≡ n + 2 ^ 30
or_adds n e = sym (word_of-fields_of (bit_or n (2 ^ 30))) ∙ (ap word_of (fields_of-or_present n)
    ∙ (word_is (fields_of n) e ∙ ap (λ m. m + 2 ^ 30) (word_of-fields_of n)))

-- an addition leaves what setting the bit does
pub adds_present : (n : ℕ) → n < 2 ^ 64 → (fields_of n).present ≡ false
    → (n + 2 ^ 30) % 2 ^ 64 ≡ wrapped (FetchOr (2 ^ 30)) n
adds_present n wide e =
    let same = or_adds n e in
    let fits = or_present_fits n wide in
    omega arith

-- what a pass finds at the place of the slot that it is filling
pub finds_no_present : (w : World) (l : PutLists) (a : ℕ) (p : Body) (place : Place) → OneKind w l
    → slice_get w.parts a ≡ Some p → Fills p place → (fields_of (read w.words place)).present ≡ false
finds_no_present w l a p place kinds at (x, v, i, is, there) =
    let P : Place → Type 0 = λ z. (fields_of (read w.words z)).present ≡ false in
    subst P (sym there) (not_present w l a p x v i kinds at is)

-- a pass that may publish a slot is filling it
pub publishes_filled : (plan : Plan) (p : Body) (x : SlotRef) (v : List ℕ) → row plan p action.Publish
    ≡ Some (publish plan p x v) → Fills p (State x.page x.slot)
unfolding move_of row
publishes_filled plan p x v h = go p.hand refl h where
  given : (b : Bool) (m : Move) (r : Row) → option_map (row_of plan p) (then_some b m) ≡ Some r → row_of plan p m ≡ r
  given true m r e = cc
  given false m r e = no_some r e

  go : (d : Hand) → p.hand ≡ d → option_map (row_of plan p) (elim d as (λ _. Option Move)
      [ Filling y u n ↦ then_some (nat_le (length u) n) (move.Publish y u) | _ ↦ None ])
      ≡ Some (publish plan p x v) → Fills p (State x.page x.slot)
  go (Filling y u n) is e = (
    y,
    u,
    n,
    is,
    sym (ap (λ (r : Row). r.place) (given (nat_le (length u) n) (move.Publish y u) (publish plan p x v) e)),
  )
  go _ is e = no_some (publish plan p x v) e
