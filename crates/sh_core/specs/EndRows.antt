-- Tables that differ from the right one in what leads to an end, or in the end.
use Rattle.std.specs.Prelude.{◌+◌, ◌≡◌, ◌==◌, ◌&&◌, cond, Some, None}
use Rattle.sh_shape.specs.declared.places.Place.TheVariants.{Length}
use Rattle.sh_slots.specs.declared.hand.Hand.TheVariants.{Idle, Leaving, Finishing}
use Rattle.sh_slots.specs.declared.hand.KeyRef.{KeyRef}
use Rattle.sh_slots.specs.declared.hand.Sight.TheVariants.{Bare, Classed}
use Rattle.sh_step.specs.declared.action.Action.TheVariants.{Drop, ReadEnding, Finish}
use Rattle.sh_step.specs.declared.action.Event.{Event}
use Rattle.sh_step.specs.declared.operation.Operation.TheVariants.{Load}
use Rattle.sh_step.specs.Collections.{if1}
use Rattle.sh_word.specs.Fields.{fields_of}
use Rattle.sh_step.specs.Moves.{row}
use Rattle.sh_step.specs.Plans.{Plan}
use Rattle.sh_step.specs.Rows.{hand, drop_hand, read_ending, finish}
use Rattle.sh_core.specs.KeyEnds.{has_ended, ending_of, is_end_of}
use Rattle.sh_core.specs.Variants.{Table, step_by}
use Rattle.sh_core.specs.Worlds.{World}

-- a remover is to end the generation though others are on the slot
unfoldable pub ends_under_holds : Table
ends_under_holds plan p Drop = elim (p.hand) [
  | Leaving x ↦ Some (record (drop_hand p x) {
    part = λ n. hand p (cond ((fields_of n).present && (fields_of n).marked)
        (Finishing x (fields_of n).generation Bare) Idle);
  })
  | _ ↦ None
]
ends_under_holds plan p x = row plan p x

-- the last pass on a marked slot is to end another key than the slot's
unfoldable pub ends_another_key : Table
ends_another_key plan p Drop = elim (p.hand) [
  | Leaving x ↦ Some (record (drop_hand p x) {
    part = λ n. hand p (cond ((fields_of n).present && (fields_of n).marked && ((fields_of n).count == 1))
        (Finishing x ((fields_of n).generation + 1) Bare) Idle);
  })
  | _ ↦ None
]
ends_another_key plan p x = row plan p x

-- the length that is read is of the value in the next slot
unfoldable pub reads_next_value : Table
reads_next_value plan p ReadEnding = elim (p.hand) [
  | Finishing x g (Classed c) ↦ Some (record (read_ending p x g (Classed c)) { place = Length x.page (x.slot + 1) })
  | _ ↦ row plan p ReadEnding
]
reads_next_value plan p x = row plan p x

-- the word of a key that ends stays, so it is found again
unfoldable pub leaves_marked_word : Table
leaves_marked_word plan p Finish = elim (p.hand) [
  | Finishing x g s ↦ Some (record (finish plan p x g) { operation = Load })
  | _ ↦ None
]
leaves_marked_word plan p x = row plan p x

-- by this table, an event ends a key exactly if the key had not ended before and has after
abbrev pub EndsOnceBy : Table → Plan → World → Type 0
EndsOnceBy rows plan w = (e : Event) (n : KeyRef)
    → if1 (has_ended (step_by rows plan w e) n) ≡ if1 (has_ended w n) + if1 (is_end_of n (ending_of w e))
