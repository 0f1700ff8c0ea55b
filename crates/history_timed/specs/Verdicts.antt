-- What was found of calls with times.
use Rattle.std.specs.Prelude.{◌≡◌, ◌⊎◌, ℕ, List, [], ◌∷◌, ◌++◌, length, Option}
use Rattle.std.specs.List.{All, AllZip, Contains}
use Rattle.sh_history.specs.FirstFault.{IsWhy}
use Rattle.sh_history.specs.History.{insert_count, Legal}
use Rattle.sh_history.specs.declared.entry.Entry.{Entry}
use Rattle.sh_history.specs.declared.checker.Why.{Why}
use Rattle.history_audit.specs.declared.clash.Clash.{Clash}
use Rattle.history_timed.specs.declared.call.Call.{Call}
use Rattle.history_timed.specs.declared.verdict.Verdict.{Verdict}
use Rattle.history_timed.specs.declared.verdict.Verdict.TheVariants as verdict
use Rattle.history_timed.specs.declared.finding.Finding.{Finding}
use Rattle.history_timed.specs.Calls.{MayBe, entry_said}
use Rattle.history_timed.specs.Orders.{IsOrder, HasLegalOrder}
use Rattle.history_timed.specs.Placing.{IsTried}
use Rattle.history_timed.specs.Clashes.{IsClash, ClashesWithNone}

-- a legal history is what the calls say, in their order, with this number of inserted keys
pub record HasLegalHistory (passes guard_max : ℕ) (ordered : List Call) (keys : ℕ) : Type 0 where
  pub history : List Entry
  pub says : AllZip (λ (c : Call). MayBe c.said) ordered history
  pub legal : Legal passes guard_max history
  pub keys_are : keys ≡ insert_count history

-- the order that was tried keeps to the times and is legal, with this number of entries and of inserted keys
pub record IsLegalVerdict (passes guard_max : ℕ) (calls : List Call) (entries keys : ℕ) : Type 0 where
  pub ordered : List Call
  pub tried : IsTried calls ordered
  pub order : IsOrder calls ordered
  pub legal : HasLegalHistory passes guard_max ordered keys
  pub entries_are : entries ≡ length ordered

-- no order that keeps to the times is legal; the call of this line clashes in each
pub record IsBrokenVerdict (passes guard_max : ℕ) (calls : List Call) (line : ℕ) (clash : Clash) : Type 0 where
  pub call : Call
  pub is_in : Contains calls call
  pub line_is : line ≡ call.line
  pub clashes : IsClash passes guard_max calls call clash.why clash.by
  pub none : ¬ HasLegalOrder passes guard_max calls

-- The audit took in what the calls of a front say, which is a legal history. For this reason the next call may not
-- follow it
pub record IsRefusedAt (passes guard_max : ℕ) (ordered : List Call) (call : Call) (why : Why) : Type 0 where
  pub front : List Call
  pub back : List Call
  pub ordered_is : ordered ≡ front ++ call ∷ back
  pub history : List Entry
  pub says : AllZip (λ (c : Call). MayBe c.said) front history
  pub legal : Legal passes guard_max history
  pub is_why : IsWhy passes guard_max history (entry_said history call.said) why

-- no call clashes with one of its key, and the order that was tried is refused at the call of this line
pub record IsUndecidedVerdict (passes guard_max : ℕ) (calls : List Call) (line : ℕ) (why : Why) : Type 0 where
  pub none : All (ClashesWithNone passes guard_max calls) calls
  pub ordered : List Call
  pub tried : IsTried calls ordered
  pub order : IsOrder calls ordered
  pub call : Call
  pub line_is : line ≡ call.line
  pub refused : IsRefusedAt passes guard_max ordered call why

-- what was found is so
abbrev pub IsVerdictOn : (passes guard_max : ℕ) → List Call → Verdict → Type 0
IsVerdictOn passes guard_max calls (verdict.Legal entries keys) = IsLegalVerdict passes guard_max calls entries keys
IsVerdictOn passes guard_max calls (verdict.Broken line clash) = IsBrokenVerdict passes guard_max calls line clash
IsVerdictOn passes guard_max calls (verdict.Undecided line why) =
    IsUndecidedVerdict passes guard_max calls line why

-- if one of the calls clashes, none of their orders that keep to the times is legal
abbrev pub ClashesForbid : Type 0
ClashesForbid =
    (passes guard_max : ℕ) (calls : List Call) (call : Call) (why : Why) (by : Option ℕ) → Contains calls call
    → IsClash passes guard_max calls call why by → ¬ HasLegalOrder passes guard_max calls

-- these are the findings on some of the calls, in the order of the calls: one for each that clashes
abbrev pub AreFindings : (passes guard_max : ℕ) → (all calls : List Call) → List Finding → Type 0
AreFindings passes guard_max all [] found = found ≡ []
AreFindings passes guard_max all (call ∷ calls) found =
    (ClashesWithNone passes guard_max all call × AreFindings passes guard_max all calls found)
    ⊎ ((clash : Clash) × (later : List Finding) × (found ≡ record { line = call.line; clash = clash } ∷ later)
    × IsClash passes guard_max all call clash.why clash.by × AreFindings passes guard_max all calls later)
