-- Names come first: what a pass did up to the line that binds a name precedes what a pass does once it needs the name.
use Rattle.std.specs.Prelude.{◌≡◌, ℕ, ◌<◌, ◌≤◌, suc, true, cond, List, [], ◌∷◌, ◌++◌, take, length, slice_get}
use Rattle.std.specs.Prelude.{Option, Some}
use Rattle.std.specs.List.{Contains}
use Rattle.sh_history.specs.declared.entry.Entry.{Entry}
use Rattle.sh_table.specs.declared.view.Heard.{Heard}
use Rattle.sh_table.specs.declared.view.Order.{Order}
use Rattle.sh_script.specs.BoundNames.{name_needed, names_in}
use Rattle.sh_script.specs.declared.calls.Call.{Call}
use Rattle.sh_script.specs.declared.calls.CallLine.{CallLine}
use Rattle.script_output.specs.declared.answer.Answer.{Answer}
use Rattle.script_calls.specs.Calls.{binds, number_told}
use Rattle.script_calls.specs.InOrder.{Precedes, entries_added}

-- for each name that these lines bind, the number that it is bound to, if its insert returned one
abbrev pub numbers_told : List CallLine → List Answer → List (Option ℕ)
numbers_told [] answers = []
numbers_told (l ∷ lines) [] = []
numbers_told (l ∷ lines) (a ∷ answers) = cond (binds l.call) (number_told a ∷ []) [] ++ numbers_told lines answers

-- line j is this one, and binds the name that the call is on, or that it waits for
pub record BindsNeeded (lines : List CallLine) (j : ℕ) (binder : CallLine) (c : Call) : Type 0 where
  pub at : slice_get lines j ≡ Some binder
  pub binds_name : binds binder.call ≡ true
  pub needed : name_needed c ≡ Some (names_in (take j lines))

-- Let line i need a name that line j bound before. All entries of the pass of line j up to that line come before all
-- that the pass of line i has from its line on.
abbrev pub NamesComeFirst : List CallLine → List Answer → List Entry → Type 0
NamesComeFirst lines answers history = (j i : ℕ) (binder l : CallLine) → j < i → slice_get lines i ≡ Some l
    → BindsNeeded lines j binder l.call
    → Precedes history binder.pass (entries_added binder.pass (take (suc j) lines) answers)
    l.pass (entries_added l.pass (take i lines) answers)

-- ---- how it is found

-- if there are such entries, the pass had heard of the first `done` ones of pass p when it had `first` itself
abbrev pub HeardOfEntries : List Order → (p done pass first : ℕ) → Type 0
HeardOfEntries orders p done pass first = 0 < done → (h : Heard) × (steps : ℕ)
    × Contains orders (record { heard = h; carrier = pass; length = first; steps = steps })
    × (h.pass ≡ p) × (done ≤ length h.log)

-- before each line that needs a name, its pass had heard of all entries of the binder's pass up to the binder
abbrev pub NamesWereHeard : List CallLine → List Answer → List Order → Type 0
NamesWereHeard lines answers orders = (j i : ℕ) (binder l : CallLine) → j < i → slice_get lines i ≡ Some l
    → BindsNeeded lines j binder l.call
    → HeardOfEntries orders binder.pass (entries_added binder.pass (take (suc j) lines) answers)
    l.pass (entries_added l.pass (take i lines) answers)
