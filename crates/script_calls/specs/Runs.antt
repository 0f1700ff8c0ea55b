-- A run of lines of several passes: the answer to each.
use Rattle.std.specs.Prelude.{◌≡◌, ℕ, ◌+◌, ◌<◌, ◌≤◌, ◌⊎◌, ◌==◌, true, cond, length, List, [], ◌∷◌, ◌++◌}
use Rattle.std.specs.Prelude.{slice_get, Option, Some, None}
use Rattle.sh_script.specs.declared.calls.Call.{Call}
use Rattle.sh_script.specs.declared.calls.CallLine.{CallLine}
use Rattle.script_output.specs.declared.answer.Answer.{Answer}
use Rattle.script_output.specs.Replies.{reply_line}
use Rattle.sh_table.specs.Seats.{Heap}
use Rattle.script_calls.specs.Parts.{RunTerms, PassPart, new_part}
use Rattle.script_calls.specs.Receipts.{MayHeed}
use Rattle.script_calls.specs.Calls.{CallAnswers, name_used, binds, number_told}

-- for each name that is bound, the number that it is bound to, if its insert returned one; for each pass, its part
pub record CallsRun : Type 0 where
  pub numbers : List (Option ℕ)
  pub parts : ℕ → PassPart

-- no name is bound, and no pass of the heap has done anything
abbrev pub opening_calls : Option Heap → CallsRun
opening_calls heap = record { numbers = []; parts = new_part heap }

abbrev pub number_bound : List (Option ℕ) → Option ℕ → Option ℕ
number_bound numbers None = None
number_bound numbers (Some i) = elim (slice_get numbers i) [ Some number ↦ number | None ↦ None ]

-- the number that the name of the call is bound to
abbrev pub number_meant : List (Option ℕ) → Call → Option ℕ
number_meant numbers c = number_bound numbers (name_used c)

abbrev pub with_number : List (Option ℕ) → Call → Answer → List (Option ℕ)
with_number numbers c a = cond (binds c) (numbers ++ number_told a ∷ []) numbers

abbrev pub with_part : (ℕ → PassPart) → ℕ → PassPart → ℕ → PassPart
with_part parts pass part p = cond (p == pass) part (parts p)

abbrev pub next_run : CallsRun → CallLine → Answer → PassPart → CallsRun
next_run run line a part = record {
  numbers = with_number run.numbers line.call a;
  parts = with_part run.parts line.pass
      part;
}

-- The line, with this answer, ends a run: its reply finds no room behind the output, or its name finds none behind the
-- names that are bound. An answer alone ends none.
abbrev pub EndsAt : (room name_room : ℕ) → (output : List ℕ) → (names : ℕ) → CallLine → Answer → Type 0
EndsAt room name_room output names line a =
    (room < length output + length (reply_line line a)) ⊎ ((binds line.call ≡ true) × (name_room ≤ names))

-- The line has this answer. It sees the part of its own pass alone, and the numbers of the names bound before. If the
-- lines run one after the other, the pass may have heeded a receipt of the line before.
pub record LineAnswered (terms : RunTerms) (tag : Option ℕ) (run : CallsRun) (line : CallLine)
    (a : Answer) (next : CallsRun) : Type 0 where
  pub begins : PassPart
  pub heeds : MayHeed (run.parts line.pass) begins
  pub part : PassPart
  pub does : CallAnswers terms tag line.pass begins line.call (number_meant run.numbers line.call) a part
  pub next_is : next ≡ next_run run line a part

-- these lines have these answers
abbrev pub LinesAnswered : RunTerms → Option ℕ → CallsRun → List CallLine → List Answer → CallsRun
    → Type 0
LinesAnswered terms tag run [] [] after = after ≡ run
LinesAnswered terms tag run [] (a ∷ answers) after = ⊥
LinesAnswered terms tag run (l ∷ lines) [] after = ⊥
LinesAnswered terms tag run (l ∷ lines) (a ∷ answers) after = (next : CallsRun)
    × LineAnswered terms tag run l a next × LinesAnswered terms tag next lines answers after
