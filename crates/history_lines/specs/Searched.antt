-- What a search through a whole text finds.
use Rattle.std.specs.Prelude.{◌≡◌, ◌⊎◌, ℕ, ◌+◌, ◌==◌, not, Bool, true, false, List, [], ◌∷◌, ◌++◌, length, Option, Some}
use Rattle.std.specs.Prelude.{None, is_some, map, Result, Ok, Err, if◌then◌else◌}
use Rattle.std.specs.List.{All}
use Rattle.sh_script.specs.Grammar.{spelling, IsLine}
use Rattle.history_audit.specs.declared.clash.Clash.{Clash}
use Rattle.history_timed.specs.declared.finding.Finding.{Finding}
use Rattle.history_timed.specs.Verdicts.{AreFindings}
use Rattle.history_lines.specs.declared.fault.Cause.{Cause}
use Rattle.history_lines.specs.declared.fault.Fault.{Fault}
use Rattle.history_lines.specs.declared.fault.Fault.TheVariants as fault
use Rattle.history_lines.specs.declared.fault.Trouble.{Trouble}
use Rattle.history_lines.specs.declared.fault.Trouble.TheVariants as trouble
use Rattle.history_lines.specs.declared.line.Limits.{Limits}
use Rattle.history_lines.specs.declared.searching.Recorded.{Recorded}
use Rattle.history_lines.specs.declared.searching.Found.{Found}
use Rattle.history_lines.specs.declared.searching.Search.{Search}
use Rattle.history_lines.specs.Line.{key_line}
use Rattle.history_lines.specs.Book.{Book, blank, book_after}
use Rattle.history_lines.specs.Taken.{HasTakenIn, Breaks}
use Rattle.history_lines.specs.Judged.{EndsWith, FirstLine, HasBadEnd}

-- the book of the lines that were taken in, those that say an answer, and those that are not allowed
pub record Trail : Type 0 where
  pub book : Book
  pub lines : List (ℕ × List ℕ)
  pub findings : List Finding

abbrev pub no_trail : Trail
no_trail = record { book = blank; lines = []; findings = [] }

-- the line says an answer on another key than the one that is searched
abbrev pub is_on_other : Option ℕ → Option ℕ → Bool
is_on_other (Some key) (Some said) = not (said == key)
is_on_other _ _ = false

-- the lines with one more, if it says an answer
abbrev pub with_line : List (ℕ × List ℕ) → ℕ → List ℕ → Option ℕ → List (ℕ × List ℕ)
with_line lines n text said = if is_some said then lines ++ (n, text) ∷ [] else lines

-- the findings with one more, if the line clashes
abbrev pub with_finding : List Finding → ℕ → Option Clash → List Finding
with_finding findings n None = findings
with_finding findings n (Some clash) = findings ++ record { line = n; clash = clash } ∷ []

-- the line of this number is taken in, or it is not allowed and is left out
abbrev pub IsTaken : Trail → ℕ → List ℕ → Option ℕ → Trail → Type 0
IsTaken before n text said after =
    (after.lines ≡ with_line before.lines n text said)
    × (((book_after before.book n text ≡ Ok after.book) × (after.findings ≡ before.findings))
    ⊎ ((clash : Clash) × Breaks before.book text clash × (after.book ≡ before.book)
    × (after.findings ≡ with_finding before.findings n (Some clash))))

-- the line of this number is passed over, since it says an answer on another key; or it is taken in, or left out
pub record IsNext (only : Option ℕ) (before : Trail) (n : ℕ) (text : List ℕ) (after : Trail) : Type 0 where
  pub said : Option ℕ
  pub says : key_line before.book.limits text ≡ Ok said
  pub came : ((is_on_other only said ≡ true) × (after ≡ before))
      ⊎ ((is_on_other only said ≡ false) × IsTaken before n text said after)

-- these lines, the first of which has the number n, make one trail of the other
abbrev pub AreSearched : Option ℕ → ℕ → List (List ℕ) → Trail → Trail → Type 0
AreSearched only n [] before after = after ≡ before
AreSearched only n (text ∷ more) before after =
    (next : Trail) × IsNext only before n text next × AreSearched only (n + 1) more next after

-- so the text begins, and this is the rest
pub record BeginsSearched (only : Option ℕ) (text : List ℕ) (lines : List (List ℕ)) (rest : List ℕ) (trail : Trail)
    : Type 0 where
  pub spelled : text ≡ spelling lines rest
  pub lines_are : All IsLine lines
  pub searched : AreSearched only 1 lines no_trail trail

abbrev pub line_of : Recorded → ℕ × List ℕ
line_of line = (line.number, line.text.items)

-- what is found at the end of a trail: its lines, what is not allowed of them, and the verdict on the others. Calls with
-- times are judged together
pub record EndsTrail (trail : Trail) (found : Found) : Type 0 where
  pub limits : Limits
  pub headed : trail.book.limits ≡ Some limits
  pub lines_are : map line_of found.lines.items ≡ trail.lines
  pub clashing : List Finding
  pub are : AreFindings limits.passes limits.guard_max trail.book.calls trail.book.calls clashing
  pub findings_are : found.findings.items ≡ trail.findings ++ clashing
  pub verdict : EndsWith limits trail.book found.verdict

-- this is found in the whole text
abbrev pub IsFound : Option ℕ → List ℕ → Found → Type 0
IsFound only text found =
    (lines : List (List ℕ)) × (trail : Trail) × BeginsSearched only text lines [] trail × EndsTrail trail found

-- the line of this number has a fault
pub record HasBadNext (only : Option ℕ) (n : ℕ) (rest : List ℕ) (trail : Trail) (cause : Cause) : Type 0 where
  pub bad : List ℕ
  pub more : List ℕ
  pub rest_is : rest ≡ bad ++ 10 ∷ more
  pub bad_is : IsLine bad
  pub fault : (key_line trail.book.limits bad ≡ Err cause) ⊎ (book_after trail.book n bad ≡ Err cause)

-- the first line with a fault has this number
pub record IsFaultySearch (only : Option ℕ) (text : List ℕ) (n : ℕ) (cause : Cause) : Type 0 where
  pub lines : List (List ℕ)
  pub rest : List ℕ
  pub trail : Trail
  pub begins : BeginsSearched only text lines rest trail
  pub number : n ≡ length lines + 1
  pub fault : HasBadNext only n rest trail cause ⊎ HasBadEnd rest trail.book cause

-- nothing is said of refused memory and of a read that failed
abbrev pub IsFaultOfSearch : Option ℕ → List ℕ → Fault → Type 0
IsFaultOfSearch only text (fault.History n cause) = IsFaultySearch only text n cause
IsFaultOfSearch only text fault.Memory = Unit {0}
IsFaultOfSearch only text fault.Io = Unit {0}

-- the search for this key, or for all, has followed this trail
pub record HasFollowedTrail (only : Option ℕ) (search : Search) (trail : Trail) : Type 0 where
  pub only_is : search.only ≡ only
  pub taken : HasTakenIn search.reading trail.book
  pub lines_are : map line_of search.lines.items ≡ trail.lines
  pub findings_are : search.findings.items ≡ trail.findings

-- what came of a line that is not passed over, and of the next line: the search has followed, or the line has a fault, or
-- memory was refused
abbrev pub CameOfTaken : Option ℕ → Trail → ℕ → List ℕ → Option ℕ → Search → Result (Unit {0}) Trouble → Type 0
CameOfTaken only trail n text said now (Ok _) =
    (after : Trail) × IsTaken trail n text said after × HasFollowedTrail only now after
CameOfTaken only trail n text said now (Err trouble.Memory) = Unit {0}
CameOfTaken only trail n text said now (Err (trouble.Because cause)) = book_after trail.book n text ≡ Err cause

abbrev pub CameOfNext : Option ℕ → Trail → ℕ → List ℕ → Search → Result (Unit {0}) Trouble → Type 0
CameOfNext only trail n text now (Ok _) =
    (after : Trail) × IsNext only trail n text after × HasFollowedTrail only now after
CameOfNext only trail n text now (Err trouble.Memory) = Unit {0}
CameOfNext only trail n text now (Err (trouble.Because cause)) =
    (key_line trail.book.limits text ≡ Err cause) ⊎ (book_after trail.book n text ≡ Err cause)

-- what came of the first line of the rest: the search has followed, or there is none, or it has a fault
abbrev pub CameOfTurn : Option ℕ → Trail → ℕ → List ℕ → Search → Result Bool Fault → Type 0
CameOfTurn only trail n rest now (Ok true) =
    (line : List ℕ) × (after : Trail) × FirstLine rest line × IsNext only trail n line after
    × HasFollowedTrail only now after
CameOfTurn only trail n rest now (Ok false) = (rest ≡ []) × HasFollowedTrail only now trail
CameOfTurn only trail n rest now (Err (fault.History m cause)) =
    (m ≡ n) × (HasBadNext only n rest trail cause ⊎ HasBadEnd rest trail.book cause)
CameOfTurn only trail n rest now (Err fault.Memory) = Unit {0}
CameOfTurn only trail n rest now (Err fault.Io) = Unit {0}

-- what came of the end before the line of this number
abbrev pub CameOfEnd : Trail → ℕ → Result Found Fault → Type 0
CameOfEnd trail n (Ok found) = EndsTrail trail found
CameOfEnd trail n (Err (fault.History m cause)) = (m ≡ n) × HasBadEnd [] trail.book cause
CameOfEnd trail n (Err fault.Memory) = Unit {0}
CameOfEnd trail n (Err fault.Io) = Unit {0}
