-- Answers of all passes, put in the order of the script's lines.
use Rattle.std.specs.Prelude.{◌≡◌, ℕ, suc, true, List, Option, Some, None, slice_get, length, map, take, drop}
use Rattle.sh_script.specs.BoundNames.{binds, name_needed, names_in}
use Rattle.sh_script.specs.declared.calls.Call.{Call}
use Rattle.sh_script.specs.declared.calls.CallLine.{CallLine}
use Rattle.script_output.specs.declared.answer.Answer.{Answer}
use Rattle.script_calls.specs.Parts.{RunTerms, SeenPass}
use Rattle.script_output.specs.Replies.{replies_text}
use Rattle.script_calls.specs.Runs.{CallsRun, LinesAnswered, opening_calls}
use Rattle.script_calls.specs.Alone.{AnsweredSoFar}
use Rattle.script_calls.specs.Meeting.{orders_of}
use Rattle.script_calls.specs.Named.{NamesWereHeard}
use Rattle.script_calls.specs.InOrder.{entries_added}
use Rattle.script_workers.specs.declared.board.Bound.{Bound}
use Rattle.script_workers.specs.declared.worker.Made.{Made}
use Rattle.script_workers.specs.Works.{IsWork}
use Rattle.sh_table.specs.Seats.{Heap}

-- what the name is bound to, among those that are bound
abbrev pub bound_at : List Bound → Option ℕ → Option Bound
bound_at names None = None
bound_at names (Some i) = slice_get names i

-- what the name that the call needs is bound to
abbrev pub bound_needed : List Bound → Call → Option Bound
bound_needed names c = bound_at names (name_needed c)

abbrev pub number_in : Bound → Option ℕ
number_in bound = bound.number

-- these are the names that the lines bind: each with its pass, and how many entries that had then
pub record AreNames (lines : List CallLine) (answers : List Answer) (names : List Bound) : Type 0 where
  pub all : length names ≡ names_in lines
  pub each : (j : ℕ) (l : CallLine) → slice_get lines j ≡ Some l → binds l.call ≡ true → (bound : Bound)
      × (slice_get names (names_in (take j lines)) ≡ Some bound) × (bound.pass ≡ l.pass)
      × (bound.entries ≡ entries_added l.pass (take (suc j) lines) answers)

-- The first i lines have answers, and the calls of the other lines are left. By these calls, these are the passes.
pub record MergedSoFar (heap : Option Heap) (terms : RunTerms) (tag : Option ℕ) (lines : List CallLine) (i : ℕ)
    (names : List Bound) (sides : List SeenPass) (rests : List (List Made)) (output : List ℕ) : Type 0 where
  pub answers : List Answer
  pub run : CallsRun
  pub ran : LinesAnswered terms tag (opening_calls heap) (take i lines) answers run
  pub numbers_are : map number_in names ≡ run.numbers
  pub names_are : AreNames (take i lines) answers names
  pub text : output ≡ replies_text (take i lines) answers
  pub sides_all : length sides ≡ terms.shape.passes
  pub rests_all : length rests ≡ terms.shape.passes
  pub each : (p : ℕ) (side : SeenPass) (made : List Made) → slice_get sides p ≡ Some side
      → slice_get rests p ≡ Some made → IsWork heap terms tag (drop i lines) p (run.parts p) side made
  pub heard : NamesWereHeard (take i lines) answers (orders_of sides)

-- all lines have answers, and these are the passes then
abbrev pub AllAnswered : Option Heap → RunTerms → Option ℕ → List CallLine → List SeenPass → List ℕ → Type 0
AllAnswered heap terms tag lines sides output =
    (numbers : List (Option ℕ)) × AnsweredSoFar heap terms tag lines (length lines) numbers sides output
