-- A run in one thread: each line's pass heeds the receipt of the line before, so the last receipt has all entries.
use Rattle.std.specs.Prelude.{◌≡◌, ℕ, ◌≤◌, List, [], Option, Some, None, slice_get, length, take}
use Rattle.sh_script.specs.declared.calls.CallLine.{CallLine}
use Rattle.script_output.specs.declared.answer.Answer.{Answer}
use Rattle.script_calls.specs.Parts.{RunTerms, PassPart, SeenPass, new_pass}
use Rattle.script_output.specs.Replies.{replies_text}
use Rattle.script_calls.specs.Runs.{CallsRun, LinesAnswered, opening_calls}
use Rattle.sh_pass.specs.Passes.{Caller}
use Rattle.script_calls.specs.Receipts.{Heeds, seen_of_receipt}
use Rattle.script_calls.specs.InOrder.{times, adding_passes, LastHeard}
use Rattle.script_calls.specs.Meeting.{orders_of}
use Rattle.script_calls.specs.Named.{NamesWereHeard}
use Rattle.script_calls.specs.Stepping.{LinesHeard, LastHasSteps}
use Rattle.sh_table.specs.Seats.{Heap}

-- the last receipt, if there is one, is of this heap
abbrev pub IsLastOf : Option Heap → Option Caller → Type 0
IsLastOf heap None = Unit {0}
IsLastOf heap (Some r) = (seen_of_receipt r).heap ≡ heap

-- the pass heeded the last receipt, if there is one
abbrev pub HeedsLast : Option Caller → SeenPass → SeenPass → Type 0
HeedsLast None s t = t ≡ s
HeedsLast (Some r) s t = Heeds r s t

-- what is seen of pass p, with its part among these
abbrev pub seen_with_part : Option Heap → RunTerms → (ℕ → PassPart) → ℕ → SeenPass
seen_with_part heap terms parts p = record (new_pass heap terms p) { part = parts p }

-- the first i lines have run with these answers, and these are the passes
pub record AnsweredSoFar (heap : Option Heap) (terms : RunTerms) (tag : Option ℕ)
    (lines : List CallLine) (i : ℕ) (numbers : List (Option ℕ)) (sides : List SeenPass) (output : List ℕ) : Type 0 where
  pub answers : List Answer
  pub run : CallsRun
  pub ran : LinesAnswered terms tag (opening_calls heap) (take i lines) answers run
  pub numbers_are : numbers ≡ run.numbers
  pub text : output ≡ replies_text (take i lines) answers
  pub all : length sides ≡ terms.shape.passes
  pub each : (p : ℕ) (s : SeenPass) → slice_get sides p ≡ Some s
      → s ≡ record (seen_with_part heap terms run.parts p) { orders = s.orders }
  pub heard : NamesWereHeard (take i lines) answers (orders_of sides)

-- the same, and the last receipt contains all entries and all steps
pub record OrderedSoFar (heap : Option Heap) (terms : RunTerms) (tag : Option ℕ) (lines : List CallLine) (i : ℕ)
    (numbers : List (Option ℕ)) (sides : List SeenPass) (output : List ℕ) (last : Option Caller) : Type 0 where
  pub so_far : AnsweredSoFar heap terms tag lines i numbers sides output
  pub counts : (p : ℕ) → length (times p (adding_passes (take i lines) so_far.answers))
      ≡ length (so_far.run.parts p).log
  pub few : (p : ℕ) → terms.shape.passes ≤ p → times p (adding_passes (take i lines) so_far.answers) ≡ []
  pub last_heard : LastHeard heap (adding_passes (take i lines) so_far.answers) last
  pub heard_steps : LinesHeard (orders_of sides) terms tag (opening_calls heap) (take i lines) so_far.answers so_far.run
  pub last_steps : LastHasSteps so_far.run.parts last
