-- More tables that differ from the right one in one action: each breaks a clause that the tables of WrongRows keep.
use Rattle.std.specs.Prelude.{◌+◌, ◌==◌, nat_lt, false, ◌&&◌, Some, None, length}
use Rattle.std.specs.Bool.{then_some}
use Rattle.sh_shape.specs.declared.places.Place.TheVariants.{Head, Link}
use Rattle.sh_slots.specs.declared.hand.Hand.TheVariants.{Leaving, Finishing, RingTying, Ringing, Filling}
use Rattle.sh_slots.specs.declared.reply.Reply.TheVariants as reply
use Rattle.sh_slots.specs.Slots.{slot_ref_of, name_at, after_drop, marked_word, reusable_word, retired_word}
use Rattle.sh_step.specs.declared.action.Action.TheVariants.{EnterGet, EnterRemove, Drop, DropHold, Finish, FillSlot}
use Rattle.sh_step.specs.declared.action.Action.TheVariants.{Publish, ReadClass, ReadLength, Adopt, Leave, Ring}
use Rattle.sh_step.specs.declared.action.Action.TheVariants.{RingTie}
use Rattle.sh_step.specs.declared.operation.Operation.TheVariants.{Swap, Store, CompareExchange, Load}
use Rattle.sh_step.specs.Collections.{has}
use Rattle.sh_step.specs.Moves.{row, named, slotted}
use Rattle.sh_step.specs.Plans.{local}
use Rattle.sh_step.specs.Rows.{hand, idle, own, enter_get, enter_remove, drop_hand, drop_key, fill_slot, publish}
use Rattle.sh_step.specs.Rows.{read_class, read_length, adopt, leave, ring, ring_tie, class_word_noted}
use Rattle.sh_stack.specs.Stack.{top_word}
use Rattle.sh_word.specs.Fields.{fields_of}
use Rattle.sh_core.specs.Variants.{Table}
use Rattle.sh_core.specs.WrongRows.{finish_by}
use Rattle.sh_slots.specs.declared.hand.Sight.TheVariants.{Bare}

-- each generation counts as the last
unfoldable pub retires_early : Table
retires_early plan p Finish = elim (p.hand) [
  | Finishing x g s ↦ Some (finish_by plan p x (CompareExchange (marked_word g) (retired_word g)) (λ n. false))
  | _ ↦ None
]
retires_early plan p x = row plan p x

-- one generation is skipped
unfoldable pub skips_generation : Table
skips_generation plan p Finish = elim (p.hand) [
  | Finishing x g s ↦ Some (finish_by plan p x (CompareExchange (marked_word g) (reusable_word (g + 1)))
      (λ n. n == marked_word g))
  | _ ↦ None
]
skips_generation plan p x = row plan p x

-- a shard that has an owner is adopted
unfoldable pub adopts_taken : Table
adopts_taken plan p (Adopt n) = elim (p.owned) [
  | None ↦ then_some (idle p && nat_lt n plan.shards)
      (record (adopt p n) { part = λ m. record p { owned = Some n } })
  | _ ↦ None
]
adopts_taken plan p x = row plan p x

-- an owner leaves although there are links to follow
unfoldable pub leaves_cursors : Table
leaves_cursors plan p Leave = elim (p.owned) [
  | Some n ↦ then_some (idle p && (length p.mine == 0) && (length p.armed == 0)) (leave p n)
  | None ↦ None
]
leaves_cursors plan p x = row plan p x

-- the key of the next generation is returned for a value
unfoldable pub publishes_next : Table
publishes_next plan p Publish = elim (p.hand) [
  | Filling x v n ↦ Some (record (publish plan p x v) {
    reply = λ m. Some (reply.Insert (plan.keys.pack (name_at x ((fields_of m).generation + 1))) v);
  })
  | _ ↦ None
]
publishes_next plan p x = row plan p x

-- a hold remains although it was released
unfoldable pub keeps_hold : Table
keeps_hold plan p (DropHold k) = named plan k (λ x. then_some (idle p && has (λ j. j == k) p.holds)
    (record (drop_key p k x) { part = λ n. hand p (after_drop (slot_ref_of x) n) }))
keeps_hold plan p x = row plan p x

-- a slot is filled that is not the pass's to fill
unfoldable pub fills_any_slot : Table
fills_any_slot plan p (FillSlot y v) = slotted plan y (λ x. then_some (idle p && own plan p x.page) (fill_slot p x v))
fills_any_slot plan p x = row plan p x

-- the class word of a key is read from another word, and so is its length
unfoldable pub reads_wrong_class : Table
reads_wrong_class plan p (ReadClass k) = named plan k (λ x. then_some (idle p && has (λ j. j == k) p.holds)
    (record (read_class p k x) { place = Head x.page }))
reads_wrong_class plan p x = row plan p x

unfoldable pub reads_wrong_length : Table
reads_wrong_length plan p (ReadLength k) = named plan k (λ x. then_some (idle p && has (λ j. j == k) p.holds)
    (record (read_length p k x) { place = Link x.page x.slot }))
reads_wrong_length plan p x = row plan p x

-- a get enters without a count
unfoldable pub enters_uncounted : Table
enters_uncounted plan p (EnterGet k) = named plan k (λ x. then_some (idle p && nat_lt (length p.holds) 16)
    (record (enter_get plan p k x) { operation = Load }))
enters_uncounted plan p x = row plan p x

-- a value is stored whatever its length
unfoldable pub fits_any_length : Table
fits_any_length plan p (FillSlot y v) = slotted plan y
    (λ x. then_some (idle p && own plan p x.page && nat_lt 0 (class_word_noted p x.page)) (fill_slot p x v))
fits_any_length plan p x = row plan p x

-- the bell names a page that the heap does not have
unfoldable pub rings_far : Table
rings_far plan p Ring = elim (p.hand) [
  | Ringing q ↦ Some (record (ring plan p q) { operation = Swap (top_word (local plan q + 100)) })
  | _ ↦ None
]
rings_far plan p x = row plan p x

-- a removal that comes too late leaves another slot than it entered
unfoldable pub leaves_elsewhere : Table
leaves_elsewhere plan p (EnterRemove k) = named plan k (λ x. then_some (idle p)
    (record (enter_remove plan p k x) { part = λ n. hand p (Leaving (record { page = 100; slot = 0 })) }))
leaves_elsewhere plan p x = row plan p x

-- each page on a bell is linked as if it were the last
unfoldable pub ties_ring_as_end : Table
ties_ring_as_end plan p RingTie = elim (p.hand) [
  | RingTying q l ↦ Some (record (ring_tie p q l) { operation = Store 1 })
  | _ ↦ None
]
ties_ring_as_end plan p x = row plan p x

-- a pass that leaves a slot takes the whole word found there for the number of the generation that it ends
unfoldable pub ends_whole_word : Table
ends_whole_word plan p Drop = elim (p.hand) [
  | Leaving x ↦ Some (record (drop_hand p x) { part = λ n. hand p (Finishing x n Bare) })
  | _ ↦ None
]
ends_whole_word plan p x = row plan p x
