-- The words of a line, taken one after the other.
use Rattle.std.specs.Prelude.{ℕ, ◌==◌, nat_lt, List, [], ◌∷◌, ◌++◌, length, Option, Some, None, Result, Ok, Err}
use Rattle.std.specs.Prelude.{if◌then◌else◌}
use Rattle.sh_script.specs.Words.{Word, number_of}
use Rattle.sh_script.specs.Trouble.{◌>>=◌, or_cause}
use Rattle.sh_script.specs.declared.fault.Cause.{Cause}
use Rattle.sh_script.specs.declared.fault.Cause.TheVariants as cause
use Rattle.sh_script.specs.declared.trouble.Trouble.{Trouble}
use Rattle.sh_script.specs.declared.trouble.Trouble.TheVariants as trouble

-- the next word, and those after it
abbrev pub next_of : Cause → List Word → Result (Word × List Word) Trouble
next_of c [] = Err (trouble.Because c)
next_of c (w ∷ ws) = Ok (w, ws)

-- the next word, which is a number
abbrev pub number_at : Cause → List Word → Result (ℕ × List Word) Trouble
number_at c ws = next_of c ws >>= λ w. or_cause c (number_of w.0) >>= λ n. Ok (n, w.1)

-- the next word, which is the number of a pass
abbrev pub pass_at : ℕ → List Word → Result (ℕ × List Word) Trouble
pass_at passes ws = number_at cause.Number ws >>= λ p. if nat_lt p.0 passes then Ok p else Err
    (trouble.Because cause.Pass)

-- the one word that there is
abbrev pub only_of : List Word → Result Word Trouble
only_of ws = next_of cause.Count ws >>= λ w. if length w.1 == 0 then Ok w.0 else Err (trouble.Because cause.Count)

-- the two words that there are
abbrev pub after_first : Word → List Word → Option (Word × Word)
after_first a [] = None
after_first a (b ∷ ws) = if length ws == 0 then Some (a, b) else None

abbrev pub two_of : List Word → Option (Word × Word)
two_of [] = None
two_of (a ∷ ws) = after_first a ws

-- no word
abbrev pub none_of : List Word → Result (Unit {0}) Trouble
none_of ws = if length ws == 0 then Ok tt else Err (trouble.Because cause.Count)

-- numbers up to the end of the line, after those before them
abbrev pub numbers_from : List ℕ → List Word → Result (List ℕ) Trouble
numbers_from front [] = Ok front
numbers_from front (w ∷ ws) = or_cause cause.Number (number_of w) >>= λ n. numbers_from (front ++ n ∷ []) ws
