-- Legal orders that keep to the times of the calls.
use Rattle.std.specs.Prelude.{◌≡◌, ℕ, ◌≤◌, false, List, ◌++◌, All, Some, slice_get}
use Rattle.std.specs.List.{AllZip}
use Rattle.std.specs.List.Sorted.{IsPermutation}
use Rattle.sh_history.specs.History.{Legal}
use Rattle.sh_history.specs.declared.entry.Entry.{Entry}
use Rattle.history_timed.specs.declared.call.Call.{Call}
use Rattle.history_timed.specs.Calls.{MayBe}
use Rattle.history_timed.specs.Times.{is_ended, ends_before}

-- a call that ended before another began comes before it
abbrev pub KeepsTimes : List Call → Type 0
KeepsTimes ordered = (i j : ℕ) (first last : Call) → i ≤ j → slice_get ordered i ≡ Some first
    → slice_get ordered j ≡ Some last → ends_before last.times first.times ≡ false

-- the calls in an order that keeps to their times, without some that never ended
pub record IsOrder (calls ordered : List Call) : Type 0 where
  pub left_out : List Call
  pub each_once : IsPermutation calls (ordered ++ left_out)
  pub unended : All (λ (c : Call). is_ended c.times ≡ false) left_out
  pub keeps_times : KeepsTimes ordered

-- the history is what the calls say, in such an order, and it is legal
pub record IsLegalOrder (passes guard_max : ℕ) (calls ordered : List Call) (history : List Entry) : Type 0 where
  pub order : IsOrder calls ordered
  pub says : AllZip (λ (c : Call). MayBe c.said) ordered history
  pub legal : Legal passes guard_max history

abbrev pub HasLegalOrder : (passes guard_max : ℕ) → List Call → Type 0
HasLegalOrder passes guard_max calls =
    (ordered : List Call) × (history : List Entry) × IsLegalOrder passes guard_max calls ordered history
