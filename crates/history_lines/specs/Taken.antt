-- What a reading has taken in.
use Rattle.std.specs.Prelude.{◌≡◌, ℕ, List, [], length, Option, Some, None, Result, Ok, Err}
use Rattle.history_audit.specs.declared.audit.Audit.{Audit}
use Rattle.history_audit.specs.declared.clash.Clash.{Clash}
use Rattle.history_audit.specs.Lines.{entries_in}
use Rattle.history_audit.specs.Noted.{IsClash}
use Rattle.history_audit.specs.Followed.{Follows}
use Rattle.history_lines.specs.declared.fault.Trouble.{Trouble}
use Rattle.history_lines.specs.declared.fault.Trouble.TheVariants.{Memory, Because}
use Rattle.history_lines.specs.declared.line.Limits.{Limits}
use Rattle.history_lines.specs.declared.line.Answer.{Answer}
use Rattle.history_lines.specs.declared.reading.Reading.{Reading}
use Rattle.history_lines.specs.Line.{answer_line}
use Rattle.history_lines.specs.Book.{Book, blank, answered, book_after}
use Rattle.history_lines.specs.Calls.{HasCalls}
use Rattle.history_timed.specs.Calls.{entry_said}

-- the audit is of a map with these limits
abbrev pub limits_of : Audit → Limits
limits_of audit = record { passes = audit.passes; guard_max = audit.guard_max }

-- the audit follows the lines of the book; before the header there is none
abbrev pub HasFollowed : Option Audit → Book → Type 0
HasFollowed None book = book ≡ blank
HasFollowed (Some audit) book = (book.limits ≡ Some (limits_of audit)) × Follows audit book.lines

-- the reading has taken in the lines of this book, which are legal
pub record HasTakenIn (reading : Reading) (book : Book) : Type 0 where
  pub audit : HasFollowed reading.audit book
  pub entries : reading.entries ≡ length book.lines
  pub calls : HasCalls reading.calls book.calls

-- the answer has no times, and clashes with the book, in which no answer has, under these limits
pub record Clashes (limits : Limits) (book : Book) (answer : Answer) (clash : Clash) : Type 0 where
  pub untimed : answer.times ≡ None
  pub all_untimed : book.calls ≡ []
  pub is_clash :
      IsClash limits.passes limits.guard_max book.lines (entry_said (entries_in book.lines) answer.said) clash

-- the line says an answer that is not allowed after the book, under its limits, as the clash says
abbrev pub BreaksUnder : Option Limits → Book → List ℕ → Clash → Type 0
BreaksUnder None book text clash = ⊥
BreaksUnder (Some limits) book text clash =
    (answer : Answer) × (answer_line limits.passes text ≡ Ok (Some answer)) × Clashes limits book answer clash

abbrev pub Breaks : Book → List ℕ → Clash → Type 0
Breaks book text clash = BreaksUnder book.limits book text clash

-- what came of an answer: it is taken in, or it clashes and is left out, or it has a fault, or memory was refused
abbrev pub CameOfAnswer : Limits → Book → ℕ → Answer → Reading → Result (Option Clash) Trouble → Type 0
CameOfAnswer limits book n answer now (Ok None) =
    (next : Book) × (answered book n (Some answer) ≡ Ok next) × HasTakenIn now next
CameOfAnswer limits book n answer now (Ok (Some clash)) = Clashes limits book answer clash × HasTakenIn now book
CameOfAnswer limits book n answer now (Err Memory) = Unit {0}
CameOfAnswer limits book n answer now (Err (Because cause)) = answered book n (Some answer) ≡ Err cause

-- what came of the line of this number: it is taken in, or it clashes and is left out, or it has a fault, or memory was refused
abbrev pub CameOfLine : Book → ℕ → List ℕ → Reading → Result (Option Clash) Trouble → Type 0
CameOfLine book n text now (Ok None) = (next : Book) × (book_after book n text ≡ Ok next) × HasTakenIn now next
CameOfLine book n text now (Ok (Some clash)) = Breaks book text clash × HasTakenIn now book
CameOfLine book n text now (Err Memory) = Unit {0}
CameOfLine book n text now (Err (Because cause)) = book_after book n text ≡ Err cause
