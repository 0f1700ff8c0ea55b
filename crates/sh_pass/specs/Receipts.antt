-- Receipts: what one pass gives, and another heeds.
use Rattle.std.specs.Prelude.{◌≡◌, ℕ, Result, Ok, Err}
use Rattle.sh_key.specs.Layout.{Layout}
use Rattle.sh_value.specs.declared.hold.Hold.{Hold}
use Rattle.sh_value.specs.declared.refusal.Refusal.{Refusal}
use Rattle.sh_value.specs.declared.refusal.Refusal.TheVariants as refusal
use Rattle.sh_table.specs.Views.{receipt_of, heeded_view}
use Rattle.sh_pass.specs.Passes.{Caller, GetDoes, RemoveDoes}

-- the receipt that a pass gives
abbrev pub receipt_by : Caller → Caller
receipt_by v = record { heap = v.heap; view = receipt_of v.view }

-- the pass, once it heeded the receipt
abbrev pub heeded : Caller → Caller → Caller
heeded v r = record { heap = v.heap; view = heeded_view v.view r.view }

-- a get did not find its key: it took no hold, and was not refused for the number of holds
abbrev pub FindsNone : Result Hold Refusal → Type 0
FindsNone (Ok _) = ⊥
FindsNone (Err refusal.Crowded) = ⊥
FindsNone (Err _) = Unit {0}

-- if the removal is refused, the call ends there
pub record RemovalRefused (layout : Layout) (key : ℕ) (one other : Caller) (answer : Result Hold Refusal)
    (one' other' : Caller) : Type 0 where
  pub why : Refusal
  pub answer_is : answer ≡ Err why
  pub removes : RemoveDoes layout key one (Err why) one'
  pub other_is : other' ≡ other

-- the other pass heeds the receipt of the removal, and then its get does not find the key
pub record GetsAfterRemoval (layout : Layout) (key : ℕ) (one other : Caller) (answer : Result Hold Refusal)
    (one' other' : Caller) : Type 0 where
  pub removes : RemoveDoes layout key one (Ok tt) one'
  pub gets : GetDoes layout key (heeded other (receipt_by one')) answer other'
  pub finds_none : FindsNone answer
