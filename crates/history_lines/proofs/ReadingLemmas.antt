-- A reading and its book.
use Rattle.std.proofs.Common.{◌≡◌, ℕ, ◌+◌, false, List, [], ◌∷◌, ◌++◌, Option, Some, None, length, refl, ap}
use Rattle.std.proofs.Common.{◌∙◌, arith, length-append, subst, sym}
use Rattle.std.specs.Prelude.{nat_lt, Result, Ok, Err}
use Rattle.history_audit.specs.declared.audit.Audit.{Audit}
use Rattle.history_audit.specs.declared.clash.Clash.{Clash}
use Rattle.history_audit.specs.Lines.{entries_in}
use Rattle.history_audit.specs.Followed.{Follows}
use Rattle.history_timed.specs.declared.call.Said.{Said}
use Rattle.history_timed.specs.Calls.{entry_said}
use Rattle.history_timed.specs.Times.{Times}
use Rattle.history_lines.specs.declared.calls.Calls.{Calls}
use Rattle.history_lines.specs.declared.fault.Trouble.{Trouble}
use Rattle.history_lines.specs.declared.fault.Trouble.TheVariants.{Memory, Because}
use Rattle.history_lines.specs.declared.line.Answer.{Answer}
use Rattle.history_lines.specs.declared.line.Limits.{Limits}
use Rattle.history_lines.specs.declared.reading.Reading.{Reading}
use Rattle.history_lines.specs.Line.{header_line, answer_line, Gives}
use Rattle.history_lines.specs.Calls.{HasCalls, CameOfCall}
use Rattle.history_lines.specs.Book.{Book, blank, opened, answered, after_under, book_after}
use Rattle.history_lines.specs.Taken.{limits_of, HasFollowed, HasTakenIn, BreaksUnder, CameOfLine, CameOfAnswer}

-- the book before the header, and under it
pub book_is_blank : (r : Reading) (book : Book) → HasTakenIn r book → r.audit ≡ None → book ≡ blank
book_is_blank r book is none = rw none at is.audit

pub followed : (r : Reading) (book : Book) (a : Audit) → HasTakenIn r book → r.audit ≡ Some a
    → HasFollowed (Some a) book
followed r book a is some = rw some at is.audit

-- a header, or nothing, before the header has come
pub opens : (r now : Reading) (book : Book) (n : ℕ) (text : List ℕ) (said : Option Limits) → HasTakenIn r book
    → r.audit ≡ None → header_line text ≡ Ok said → HasTakenIn now (opened blank said)
    → CameOfLine book n text now (Ok None)
opens r now book n text said is none reads taken =
    let e = book_is_blank r book is none in
    rw e (opened blank said, rw reads refl, taken)

-- under a header with these limits
module _ (r now : Reading) (book : Book) (n : ℕ) (text : List ℕ) (a : Audit) (is : HasTakenIn r book)
    (some : r.audit ≡ Some a) where
  under : book.limits ≡ Some (limits_of a)
  under = (followed r book a is some).0

  pub answer_fails : (e : Trouble) → Gives (λ (s : Option Answer). s) (answer_line a.passes text) (Err e)
      → CameOfLine book n text now (Err e)
  answer_fails Memory fails = tt
  answer_fails (Because c) fails = rw (under, fails) refl

  -- what a line says makes the next book
  said_next : (said : Option Answer) → answer_line a.passes text ≡ Ok said
      → book_after book n text ≡ answered book n said
  said_next said reads = ap (λ (o : Option Limits). after_under o book n text) under ∙ next where
    next : after_under (Some (limits_of a)) book n text ≡ answered book n said
    next = rw reads refl

  pub answer_silent : answer_line a.passes text ≡ Ok None → CameOfLine book n text r (Ok None)
  answer_silent reads = (book, said_next None reads, is)

  pub answer_came : (s : Answer) (result : Result (Option Clash) Trouble)
      → answer_line a.passes text ≡ Ok (Some s) → CameOfAnswer (limits_of a) book n s now result
      → CameOfLine book n text now result
  answer_came s (Ok None) reads came = (came.0, said_next (Some s) reads ∙ came.1, came.2)
  answer_came s (Ok (Some clash)) reads came =
      (subst (λ (o : Option Limits). BreaksUnder o book text clash) (sym under) (s, reads, came.0), came.1)
  answer_came s (Err Memory) reads came = tt
  answer_came s (Err (Because c)) reads came = said_next (Some s) reads ∙ came

-- a list without an element
none_there : {X : Type 0} (xs : List X) → xs ≡ [] → nat_lt 0 (length xs) ≡ false
none_there xs none = rw none refl

none_below : (k : ℕ) → k ≡ 0 → nat_lt 0 k ≡ false
none_below k h = rw h refl

-- an answer without times that is taken in
pub entry_taken : (a b : Audit) (calls : Calls) (book : Book) (n e more : ℕ) (s : Said) → HasFollowed (Some a) book
    → b.passes ≡ a.passes → b.guard_max ≡ a.guard_max
    → Follows b (book.lines ++ (n, entry_said (entries_in book.lines) s) ∷ []) → e ≡ length book.lines → more ≡ e + 1
    → HasCalls calls book.calls → book.calls ≡ []
    → CameOfAnswer (limits_of a) book n (record { times = None; said = s })
    (record { audit = Some b; entries = more; calls = calls }) (Ok None)
entry_taken a b calls book n e more s is p g follows e_is more_is has none = (
  record book { lines = book.lines ++ (n, entry_said (entries_in book.lines) s) ∷ [] },
  rw (none_there book.calls none) refl,
  record {
    audit = (is.0 ∙ rw (p, g) refl, follows);
    entries = simp length-append (omega arith);
    calls = has;
  },
)

-- a call that is taken in
pub call_taken : (r : Reading) (a : Audit) (calls : Calls) (book : Book) (n : ℕ) (times : Times) (s : Said)
    → HasTakenIn r book → r.audit ≡ Some a → length book.lines ≡ 0
    → CameOfCall book.calls (record { line = n; times = times; said = s }) calls (Ok tt)
    → CameOfAnswer (limits_of a) book n (record { times = Some times; said = s }) (record r { calls = calls }) (Ok None)
call_taken r a calls book n times s is some none came = (
  record book { calls = book.calls ++ record { line = n; times = times; said = s } ∷ [] },
  rw (none_below (length book.lines) none, came.0) refl,
  record { audit = rw some (followed r book a is some); entries = is.entries; calls = came.1 },
)
