-- The names of a script, by the order in which inserts and posts bind them: each is bound before it is needed.
use Rattle.std.specs.Prelude.{◌≡◌, ℕ, ◌<◌, Bool, true, false, List, length, filter, take, slice_get, Option, Some, None}
use Rattle.std.specs.Prelude.{IfSome}
use Rattle.sh_script.specs.declared.calls.Reference.{Reference}
use Rattle.sh_script.specs.declared.calls.Reference.TheVariants as reference
use Rattle.sh_script.specs.declared.calls.Call.{Call}
use Rattle.sh_script.specs.declared.calls.Call.TheVariants as call
use Rattle.sh_script.specs.declared.calls.CallLine.{CallLine}

-- the name that a call is on, by the order in which the names are bound
abbrev pub name_referred : Reference → Option ℕ
name_referred (reference.Key number) = None
name_referred (reference.Name i) = Some i

abbrev pub name_used : Call → Option ℕ
name_used (call.Get r) = name_referred r
name_used (call.Read r) = name_referred r
name_used (call.Remove r) = name_referred r
name_used (call.Release r) = name_referred r
name_used _ = None

-- the name that a call uses or waits for
abbrev pub name_needed : Call → Option ℕ
name_needed (call.Wait i) = Some i
name_needed c = name_used c

-- the call binds the next name
abbrev pub binds : Call → Bool
binds (call.Insert words) = true
binds call.Post = true
binds _ = false

-- the number of names that the lines bind
abbrev pub names_in : List CallLine → ℕ
names_in lines = length (filter (λ l. binds l.call) lines)

-- the name that a line's call needs is one that the lines before it bind
abbrev pub NamesAreBound : List CallLine → Type 0
NamesAreBound lines = (j : ℕ) (l : CallLine) → slice_get lines j ≡ Some l
    → IfSome (name_needed l.call) (λ i. i < names_in (take j lines))
