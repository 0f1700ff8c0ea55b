-- Passes that step by hand: each call does one event.
use Rattle.std.specs.Prelude.{◌≡◌, ◌≢◌, ℕ, Bool, true, false, List, Some, None, Result, Ok, Err}
use Rattle.atomic_table.specs.declared.shared.Seat.{Seat}
use Rattle.sh_key.specs.Layout.{Layout}
use Rattle.sh_slots.specs.declared.hand.Hand.{Hand}
use Rattle.sh_slots.specs.declared.hand.Hand.TheVariants.{Idle}
use Rattle.sh_step.specs.declared.action.Action.{Action}
use Rattle.sh_step.specs.declared.kind.ActionKind.{ActionKind}
use Rattle.sh_step.specs.declared.kind.ActionKind.TheVariants as kind
use Rattle.sh_step.specs.declared.moves.Move.{Move}
use Rattle.sh_step.specs.Fits.{RowFits}
use Rattle.sh_step.specs.Operations.{answer}
use Rattle.sh_step.specs.Kinds.{kind_of_action}
use Rattle.sh_step.specs.Plans.{plan_of}
use Rattle.sh_step.specs.Moves.{row}
use Rattle.sh_table.specs.declared.view.View.{View}
use Rattle.sh_table.specs.Seats.{Heap, IsSeat}
use Rattle.sh_table.specs.Steps.{MayDo, did, row_by}
use Rattle.sh_pass.specs.Growing.{is_of_call}
use Rattle.sh_pass.specs.Passes.{Caller, HoldsKept, IsTally}

-- the kinds of step that a busy pass does: all that the calls of a pass consist of, except reads
abbrev pub is_by_hand : ActionKind → Bool
is_by_hand kind.Read = false
is_by_hand x = is_of_call x

-- The call returns whether the action is of one of these kinds and its condition holds. If so, it was that one event,
-- for the word that it found; if the row's operation returns that word, the word fits the row. If not, nothing changed.
abbrev pub Acts : Layout → Action → View → Bool → View → Type 0
Acts layout x v true w = (is_by_hand (kind_of_action x) ≡ true) ×
    ((m : Move) × (n : ℕ) × MayDo layout v x m × (w ≡ did layout x m v n)
    × (answer (row_by layout v m).operation n ≡ Some n → RowFits v.shape (plan_of layout v.shape) (row_by layout v m)
    n))
Acts layout x v false w = (is_by_hand (kind_of_action x) ≡ true → row (plan_of layout v.shape) v.own.body x ≡ None)
    × (w ≡ v)

-- the pass comes back if its hand is idle, and the busy pass otherwise; both are as the busy pass was
abbrev pub Ends : Caller → Result Caller Caller → Type 0
Ends v (Ok w) = (v.view.own.body.hand ≡ Idle) × (w ≡ v)
Ends v (Err w) = (v.view.own.body.hand ≢ Idle) × (w ≡ v)

-- a seat that owns no shard, and what is kept of it: its holds, in some order, the bits of its tale, its hand, and its
-- number
pub record IsBusy (layout : Layout) (heap : Heap) (t : Seat (Unit {0}) View) (held : List ℕ) (bits : ℕ) (begun : Hand)
    (number : ℕ) : Type 0 where
  pub seat : IsSeat layout heap t
  pub hand : t.me.0.own.body.hand ≡ begun
  pub left : t.me.0.own.body.owned ≡ None
  pub kept : HoldsKept held t.me.0.own.body.holds
  pub tally : IsTally bits t.me.0
  pub own_number : number ≡ t.me.0.pass
