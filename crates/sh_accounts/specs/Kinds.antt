-- What one slot of a page's class is, by its state word and what the passes have of their own.
use Rattle.std.specs.Prelude.{◌+◌, Bool, true, false, cond, List}
use Rattle.std.specs.List.{list_any}
use Rattle.sh_word.specs.declared.slot_state.Kind.{Kind}
use Rattle.sh_word.specs.declared.slot_state.Kind.TheVariants as state
use Rattle.sh_slots.specs.declared.hand.Hand.TheVariants.{ToPut, Filling}
use Rattle.sh_slots.specs.declared.hand.SlotRef.{SlotRef}
use Rattle.sh_slots.specs.Slots.{same_slot}
use Rattle.sh_step.specs.Collections.{has, if1}
use Rattle.sh_step.specs.declared.body.Body.{Body}
use Rattle.sh_core.specs.declared.accounts.Accounts.{Accounts}
use Rattle.sh_accounts.specs.declared.kinds.SlotKind.{SlotKind}
use Rattle.sh_accounts.specs.declared.kinds.SlotKind.TheVariants.{Live, Marked, Retired, Mine, Hand, Queued}

-- the pass has the empty slot in its hand
abbrev pub has_in_hand : SlotRef → Body → Bool
has_in_hand x p = elim (p.hand) [ ToPut y ↦ same_slot x y | Filling y v n ↦ same_slot x y | _ ↦ false ]

-- an empty slot is with a pass, or otherwise queued
unfoldable pub empty_kind : List Body → SlotRef → SlotKind
empty_kind ps x = cond (list_any (λ p. has (same_slot x) p.mine) ps) Mine
    (cond (list_any (has_in_hand x) ps) Hand Queued)

abbrev pub slot_kind_by : Kind → List Body → SlotRef → SlotKind
slot_kind_by state.Live ps x = Live
slot_kind_by state.Marked ps x = Marked
slot_kind_by state.Retired ps x = Retired
slot_kind_by state.Empty ps x = empty_kind ps x

-- the two are the same kind
abbrev pub is : SlotKind → SlotKind → Bool
is Live Live = true
is Marked Marked = true
is Retired Retired = true
is Mine Mine = true
is Hand Hand = true
is Queued Queued = true
is _ _ = false

-- the accounts with one slot more, of this kind
abbrev pub with_one : Accounts → SlotKind → Accounts
with_one a kind = record {
  class = a.class;
  live = a.live + if1 (is Live kind);
  marked = a.marked + if1 (is Marked kind);
  retired = a.retired + if1 (is Retired kind);
  mine = a.mine + if1 (is Mine kind);
  hand = a.hand + if1 (is Hand kind);
  queued = a.queued + if1 (is Queued kind);
}
