-- What the lines of a text add up to.
use Rattle.std.specs.Prelude.{ℕ, ◌+◌, nat_lt, if◌then◌else◌, List, [], ◌∷◌, ◌++◌, length, Option, Some, None, Result}
use Rattle.std.specs.Prelude.{Ok, Err}
use Rattle.sh_script.specs.Trouble.{◌>>=◌}
use Rattle.sh_history.specs.declared.entry.Entry.{Entry}
use Rattle.history_audit.specs.Lines.{entries_in}
use Rattle.history_timed.specs.declared.call.Call.{Call}
use Rattle.history_timed.specs.declared.call.Said.{Said}
use Rattle.history_timed.specs.Calls.{entry_said}
use Rattle.history_timed.specs.Times.{Times}
use Rattle.history_lines.specs.declared.fault.Cause.{Cause}
use Rattle.history_lines.specs.declared.fault.Cause.TheVariants.{Mixed, Overlap}
use Rattle.history_lines.specs.declared.line.Answer.{Answer}
use Rattle.history_lines.specs.declared.line.Limits.{Limits}
use Rattle.history_lines.specs.Line.{header_line, answer_line}
use Rattle.history_lines.specs.Calls.{overlaps_last}

-- the header, once it is read, the entries so far without times, each with the number of its line, and the calls so far
-- with times
pub record Book : Type 0 where
  pub limits : Option Limits
  pub lines : List (ℕ × Entry)
  pub calls : List Call

abbrev pub blank : Book
blank = record { limits = None; lines = []; calls = [] }

-- the book after a line that says a header, or nothing
abbrev pub opened : Book → Option Limits → Book
opened book None = book
opened book (Some limits) = record book { limits = Some limits }

-- the book after an answer without times, which no answer with times comes before
abbrev pub with_entry : Book → ℕ → Said → Result Book Cause
with_entry book n said =
    if nat_lt 0 (length book.calls) then Err Mixed
    else Ok (record book { lines = book.lines ++ (n, entry_said (entries_in book.lines) said) ∷ [] })

-- the book after a call, which no answer without times comes before
abbrev pub with_call : Book → Call → Result Book Cause
with_call book call =
    if nat_lt 0 (length book.lines) then Err Mixed
    else if overlaps_last book.calls call then Err Overlap
    else Ok (record book { calls = book.calls ++ call ∷ [] })

abbrev pub with_answer : Book → ℕ → Option Times → Said → Result Book Cause
with_answer book n None said = with_entry book n said
with_answer book n (Some times) said = with_call book (record { line = n; times = times; said = said })

-- the book after the line of this number says an answer, or nothing
abbrev pub answered : Book → ℕ → Option Answer → Result Book Cause
answered book n None = Ok book
answered book n (Some answer) = with_answer book n answer.times answer.said

-- the book after the line of this number, or the fault of the line
abbrev pub after_under : Option Limits → Book → ℕ → List ℕ → Result Book Cause
after_under None book n text = header_line text >>= λ l. Ok (opened book l)
after_under (Some limits) book n text = answer_line limits.passes text >>= λ a. answered book n a

abbrev pub book_after : Book → ℕ → List ℕ → Result Book Cause
book_after book n text = after_under book.limits book n text

-- the book after these lines, the first of which has the number n, or the first fault
abbrev pub book_from : ℕ → Book → List (List ℕ) → Result Book Cause
book_from n book [] = Ok book
book_from n book (text ∷ more) = book_after book n text >>= λ next. book_from (n + 1) next more

abbrev pub book_of : List (List ℕ) → Result Book Cause
book_of lines = book_from 1 blank lines
