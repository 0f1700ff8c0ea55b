-- The verdict on a text.
use Rattle.std.specs.Prelude.{◌≡◌, ◌≢◌, ℕ, ◌+◌, ◌⊎◌, nat_lt, List, [], ◌∷◌, ◌++◌, length, Option, Some, None, Result}
use Rattle.std.specs.Prelude.{Ok, Err, if◌then◌else◌}
use Rattle.std.specs.List.{All}
use Rattle.std.specs.Io.BufRead.{drop_through}
use Rattle.sh_script.specs.Grammar.{spelling, IsLine}
use Rattle.sh_history.specs.History.{insert_count, Legal}
use Rattle.history_audit.specs.declared.clash.Clash.{Clash}
use Rattle.history_audit.specs.Lines.{entries_in}
use Rattle.history_lines.specs.declared.fault.Cause.{Cause}
use Rattle.history_lines.specs.declared.fault.Cause.TheVariants.{Size, Cut, Header}
use Rattle.history_lines.specs.declared.fault.Fault.{Fault}
use Rattle.history_lines.specs.declared.fault.Fault.TheVariants.{Memory, History, Io}
use Rattle.history_timed.specs.declared.verdict.Verdict.{Verdict}
use Rattle.history_timed.specs.declared.verdict.Verdict.TheVariants as verdict
use Rattle.history_timed.specs.Verdicts.{IsVerdictOn}
use Rattle.history_lines.specs.declared.line.Limits.{Limits}
use Rattle.history_lines.specs.Book.{Book, book_of, book_after}
use Rattle.history_lines.specs.declared.reading.Reading.{Reading}
use Rattle.history_lines.specs.Taken.{HasTakenIn, Breaks}

-- the entries of the book are a legal history under these limits, if there are any
abbrev pub LegalUnder : Option Limits → Book → Type 0
LegalUnder None book = book.lines ≡ []
LegalUnder (Some limits) book = Legal limits.passes limits.guard_max (entries_in book.lines)

-- the text begins with these lines, which have no fault and say the book, and its entries are legal; this is the rest
pub record BeginsLegal (text : List ℕ) (lines : List (List ℕ)) (rest : List ℕ) (book : Book) : Type 0 where
  pub spelled : text ≡ spelling lines rest
  pub lines_are : All IsLine lines
  pub book_is : book_of lines ≡ Ok book
  pub legal : LegalUnder book.limits book

-- the whole text says this book, under these limits
pub record IsWholeText (text : List ℕ) (limits : Limits) (book : Book) : Type 0 where
  pub lines : List (List ℕ)
  pub begins : BeginsLegal text lines [] book
  pub headed : book.limits ≡ Some limits

-- the verdict at the end of a text. Without times its entries are counted; with times it is what was found of its calls
abbrev pub EndsWith : Limits → Book → Verdict → Type 0
EndsWith limits book v =
    ((book.calls ≡ []) × (v ≡ verdict.Legal (length book.lines) (insert_count (entries_in book.lines))))
    ⊎ ((book.calls ≢ []) × IsVerdictOn limits.passes limits.guard_max book.calls v)

abbrev pub IsEndVerdict : List ℕ → Verdict → Type 0
IsEndVerdict text v = (limits : Limits) × (book : Book) × IsWholeText text limits book × EndsWith limits book v

-- the line of this number is the first that is not allowed, for this reason
pub record IsBrokenText (text : List ℕ) (n : ℕ) (clash : Clash) : Type 0 where
  pub lines : List (List ℕ)
  pub bad : List ℕ
  pub rest : List ℕ
  pub book : Book
  pub begins : BeginsLegal text lines (bad ++ 10 ∷ rest) book
  pub bad_is : IsLine bad
  pub number : n ≡ length lines + 1
  pub breaks : Breaks book bad clash

-- a line without times is the first that is not allowed, and the verdict says so, or it is the verdict at the end
abbrev pub IsVerdict : List ℕ → Verdict → Type 0
IsVerdict text v =
    ((n : ℕ) × (clash : Clash) × (v ≡ verdict.Broken n clash) × IsBrokenText text n clash) ⊎ IsEndVerdict text v

-- what is wrong with a last line that has no newline
abbrev pub cut_of : List ℕ → Cause
cut_of bytes = if nat_lt 512 (length bytes) then Size else Cut

-- ---- the first fault, behind lines that are legal

-- a line with a fault
pub record HasBadLine (n : ℕ) (rest : List ℕ) (book : Book) (cause : Cause) : Type 0 where
  pub bad : List ℕ
  pub more : List ℕ
  pub rest_is : rest ≡ bad ++ 10 ∷ more
  pub bad_is : IsLine bad
  pub fault : book_after book n bad ≡ Err cause

-- an end with a fault: no header came, or the last line has no newline
abbrev pub HasBadEnd : List ℕ → Book → Cause → Type 0
HasBadEnd [] book cause = (book.limits ≡ None) × (cause ≡ Header)
HasBadEnd (b ∷ bs) book cause = IsLine (b ∷ bs) × (cause ≡ cut_of (b ∷ bs))

pub record IsFaultyText (text : List ℕ) (n : ℕ) (cause : Cause) : Type 0 where
  pub lines : List (List ℕ)
  pub rest : List ℕ
  pub book : Book
  pub begins : BeginsLegal text lines rest book
  pub number : n ≡ length lines + 1
  pub fault : HasBadLine n rest book cause ⊎ HasBadEnd rest book cause

-- nothing is said of refused memory and of a read that failed
abbrev pub IsFaultOf : List ℕ → Fault → Type 0
IsFaultOf text (History n cause) = IsFaultyText text n cause
IsFaultOf text Memory = Unit {0}
IsFaultOf text Io = Unit {0}

-- ---- one line

-- the rest begins with this line
pub record FirstLine (rest line : List ℕ) : Type 0 where
  pub in_front : rest ≡ line ++ 10 ∷ drop_through 10 rest
  pub is_line : IsLine line

-- what came of the first line of the rest, which has this number: it is taken in, or there is a verdict or a fault
abbrev pub CameOfRest : Book → ℕ → List ℕ → Reading → Result (Option Verdict) Fault → Type 0
CameOfRest book n rest now (Ok None) =
    (line : List ℕ) × (next : Book) × FirstLine rest line × (book_after book n line ≡ Ok next) × HasTakenIn now next
CameOfRest book n rest now (Ok (Some v)) =
    ((clash : Clash) × (v ≡ verdict.Broken n clash)
    × ((line : List ℕ) × FirstLine rest line × Breaks book line clash))
    ⊎ ((rest ≡ []) × ((limits : Limits) × (book.limits ≡ Some limits) × EndsWith limits book v))
CameOfRest book n rest now (Err (History m cause)) =
    (m ≡ n) × (HasBadLine n rest book cause ⊎ HasBadEnd rest book cause)
CameOfRest book n rest now (Err Memory) = Unit {0}
CameOfRest book n rest now (Err Io) = Unit {0}

-- as much of the text is read: these lines, which have no fault, are taken in, and this is the rest
pub record HasRead (text : List ℕ) (n : ℕ) (reading : Reading) (rest : List ℕ) : Type 0 where
  pub lines : List (List ℕ)
  pub book : Book
  pub spelled : text ≡ spelling lines rest
  pub lines_are : All IsLine lines
  pub book_is : book_of lines ≡ Ok book
  pub taken : HasTakenIn reading book
  pub number : n ≡ length lines + 1
