-- Steps that may fail, and what a function that also takes memory says of them.
use Rattle.std.specs.Prelude.{◌≡◌, ℕ, Option, Some, None, Result, Ok, Err}
use Rattle.sh_script.specs.declared.fault.Cause.{Cause}
use Rattle.sh_script.specs.declared.trouble.Trouble.{Trouble}
use Rattle.sh_script.specs.declared.trouble.Trouble.TheVariants as trouble
use Rattle.sh_script.specs.declared.fault.Fault.{Fault}
use Rattle.sh_script.specs.declared.fault.Fault.TheVariants as fault

infixl 10 ◌>>=◌
abbrev pub ◌>>=◌ : {A B E : Type 0} → Result A E → (A → Result B E) → Result B E
(Ok x) >>= f = f x
(Err e) >>= f = Err e

-- what is there, or this trouble
abbrev pub or_trouble : {A : Type 0} → Trouble → Option A → Result A Trouble
or_trouble why None = Err why
or_trouble why (Some x) = Ok x

abbrev pub or_cause : {A : Type 0} → Cause → Option A → Result A Trouble
or_cause cause o = or_trouble (trouble.Because cause) o

-- What a function returned, seen by view, is what reading gives, unless memory ran out.
abbrev pub Fails : {Y : Type 0} → Trouble → Result Y Trouble → Type 0
Fails trouble.Memory read = Unit {0}
Fails trouble.BadShape read = read ≡ Err trouble.BadShape
Fails (trouble.Because cause) read = read ≡ Err (trouble.Because cause)

abbrev pub Gives : {X Y : Type 0} → (X → Y) → Result X Trouble → Result Y Trouble → Type 0
Gives view (Ok x) read = read ≡ Ok (view x)
Gives view (Err e) read = Fails e read

-- trouble with a line, by the line's number
abbrev pub at_line : ℕ → Trouble → Fault
at_line n trouble.Memory = fault.Memory
at_line n trouble.BadShape = fault.BadShape
at_line n (trouble.Because cause) = fault.Script n cause

abbrev pub placed : {A : Type 0} → ℕ → Result A Trouble → Result A Fault
placed n (Ok x) = Ok x
placed n (Err e) = Err (at_line n e)

-- the same for a whole script
abbrev pub FailsWith : {Y : Type 0} → Fault → Result Y Fault → Type 0
FailsWith fault.Memory read = Unit {0}
FailsWith f read = read ≡ Err f

abbrev pub GivesScript : {X Y : Type 0} → (X → Y) → Result X Fault → Result Y Fault → Type 0
GivesScript view (Ok x) read = read ≡ Ok (view x)
GivesScript view (Err e) read = FailsWith e read

-- what is there after a step that may change it, unless memory ran out
abbrev pub GivesNext : {S : Type 0} → Result S Trouble → S → Result (Unit {0}) Trouble → Type 0
GivesNext read new (Ok _) = read ≡ Ok new
GivesNext read new (Err e) = Fails e read

-- the same for the line of this number
abbrev pub GivesLine : {S : Type 0} → Result S Trouble → ℕ → S → Result (Unit {0}) Fault → Type 0
GivesLine read n new (Ok _) = placed n read ≡ Ok new
GivesLine read n new (Err e) = FailsWith e (placed n read)
