-- Keys that go from one thread to another with a receipt of their insert.
use Rattle.std.specs.Prelude.{◌≡◌, ℕ, List, Result, Ok, Err}
use Rattle.std.specs.List.{Contains}
use Rattle.sh_history.specs.declared.entry.Entry.{Entry}
use Rattle.sh_history.specs.declared.entry.Entry.TheVariants.{Insert, Gone}
use Rattle.sh_history.specs.declared.log.LogEntry.TheVariants.{Known}
use Rattle.sh_history.specs.Laws.{HasRemoval}
use Rattle.sh_key.specs.Layout.{Layout}
use Rattle.sh_value.specs.declared.refusal.Refusal.{Refusal}
use Rattle.sh_value.specs.declared.refusal.Refusal.TheVariants as refusal
use Rattle.sh_table.specs.declared.view.Heard.{Heard}
use Rattle.sh_table.specs.Orders.{StandsAfter}
use Rattle.sh_table.specs.Tales.{IsTale}
use Rattle.sh_table.specs.Views.{heard_in}
use Rattle.sh_pass.specs.Passes.{Caller}
use Rattle.sh_member.specs.declared.told_keys.ToldKey.{ToldKey}

-- the receipt covers an insert of this value that returned this key
pub record CoversInsert (key : ℕ) (value : List ℕ) (receipt : Caller) : Type 0 where
  pub heard : Heard
  pub among : Contains (heard_in receipt.view) heard
  pub pass : ℕ
  pub insert : Contains heard.log (Known (Insert pass key value))

-- the receipt covers an insert that returned this key
abbrev pub TellsOfInsert : ℕ → Caller → Type 0
TellsOfInsert key receipt = (value : List ℕ) × CoversInsert key value receipt

-- if the receipt covers an insert that returned this key, then this value was inserted
abbrev pub IsAsInserted : ℕ → List ℕ → Caller → Type 0
IsAsInserted key value receipt = (inserted : List ℕ) → CoversInsert key inserted receipt → value ≡ inserted

-- in each history of its tale the pass gets Gone for the key after a removal of the key
abbrev pub GoneAfterRemoval : Layout → ℕ → Caller → Type 0
GoneAfterRemoval layout key v = (history : List Entry) → IsTale layout v.view history
    → (early : List Entry) × StandsAfter history early (Known (Gone v.view.pass key)) × HasRemoval early key

-- if this was the last result, the key is Gone only if it was removed
abbrev pub GoneIfRemoved : {T : Type 0} → Layout → ℕ → Result T Refusal → Caller → Type 0
GoneIfRemoved layout key (Err refusal.Gone) v = GoneAfterRemoval layout key v
GoneIfRemoved layout key (Err _) v = Unit {0}
GoneIfRemoved layout key (Ok _) v = Unit {0}

-- the key that was returned with its receipt
abbrev pub key_told : Result ToldKey Refusal → Result ℕ Refusal
key_told (Ok told) = Ok told.key
key_told (Err refusal) = Err refusal
