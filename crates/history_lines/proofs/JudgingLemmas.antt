-- A text that is read line by line.
use Rattle.std.proofs.Common.{◌≡◌, ℕ, ◌+◌, List, [], ◌∷◌, ◌++◌, Option, Some, None, length, refl, sym, ◌∙◌, ap, arith}
use Rattle.std.proofs.Common.{length-append, inl, inr}
use Rattle.std.specs.Prelude.{Ok, Err}
use Rattle.std.specs.Io.BufRead.{drop_through}
use Rattle.std.proofs.lemmas.List.Elements.{All-nil, All-push}
use Rattle.sh_script.specs.Grammar.{spelling, IsLine}
use Rattle.history_audit.specs.declared.audit.Audit.{Audit}
use Rattle.history_timed.specs.declared.verdict.Verdict.{Verdict}
use Rattle.history_lines.specs.declared.fault.Fault.{Fault}
use Rattle.history_lines.specs.declared.fault.Fault.TheVariants.{Memory, History, Io}
use Rattle.history_lines.specs.declared.reading.Reading.{Reading}
use Rattle.history_lines.specs.Book.{Book, blank}
use Rattle.history_lines.specs.Taken.{HasTakenIn, HasFollowed}
use Rattle.history_lines.specs.Judged.{LegalUnder, BeginsLegal, CameOfRest, HasRead, IsVerdict, IsFaultOf}
use Rattle.history_lines.proofs.TextLemmas.{spelling_more, book_more}

-- what a reading has taken in is legal
legal_under : (r : Reading) (book : Book) → HasTakenIn r book → LegalUnder book.limits book
legal_under r book is = go r.audit is.audit where
  go : (o : Option Audit) → HasFollowed o book → LegalUnder book.limits book
  go None same = rw same refl
  go (Some a) follows = rw follows.0 follows.1.legal

begins : (text : List ℕ) (n : ℕ) (r : Reading) (rest : List ℕ) → (read : HasRead text n r rest)
    → BeginsLegal text read.lines rest read.book
begins text n r rest read = record {
  spelled = read.spelled;
  lines_are = read.lines_are;
  book_is = read.book_is;
  legal = legal_under r read.book read.taken;
}

pub nothing_read : (text : List ℕ) (r : Reading) → HasTakenIn r blank → HasRead text 1 r text
nothing_read text r is = record {
  lines = [];
  book = blank;
  spelled = refl;
  lines_are = All-nil IsLine;
  book_is = refl;
  taken = is;
  number = refl;
}

module _ (text : List ℕ) (n : ℕ) (r now : Reading) (rest : List ℕ) (read : HasRead text n r rest) where
  pub read_more : CameOfRest read.book n rest now (Ok None) → HasRead text (n + 1) now (drop_through 10 rest)
  read_more came = record {
    lines = read.lines ++ came.0 ∷ [];
    book = came.1;
    spelled =
        read.spelled ∙ ap (spelling read.lines) came.2.in_front
        ∙ sym (spelling_more read.lines came.0 (drop_through 10 rest));
    lines_are = All-push IsLine read.lines came.0 read.lines_are came.2.is_line;
    book_is =
        let e : n ≡ 1 + length read.lines = let k = read.number in omega arith in
        book_more read.lines came.0 1 blank read.book came.1 read.book_is (rw e at came.3);
    taken = came.4;
    number = let k = read.number in simp length-append (omega arith);
  }

  -- the line after those that are read is not allowed, or the text ends
  pub is_verdict : (v : Verdict) → CameOfRest read.book n rest now (Ok (Some v)) → IsVerdict text v
  is_verdict v (inl broken) = inl (
    n,
    broken.0,
    broken.1,
    record {
      lines = read.lines;
      bad = broken.2.0;
      rest = drop_through 10 rest;
      book = read.book;
      begins = rw broken.2.1.in_front at (begins text n r rest read);
      bad_is = broken.2.1.is_line;
      number = read.number;
      breaks = broken.2.2;
    },
  )
  is_verdict v (inr ends) = inr (
    ends.1.0,
    read.book,
    record {
      lines = read.lines;
      begins = rw ends.0 at (begins text n r rest read);
      headed = ends.1.1;
    },
    ends.1.2,
  )

  pub is_fault : (f : Fault) → CameOfRest read.book n rest now (Err f) → IsFaultOf text f
  is_fault (History m cause) came = record {
    lines = read.lines;
    rest = rest;
    book = read.book;
    begins = begins text n r rest read;
    number = came.0 ∙ read.number;
    fault = rw came.0 came.1;
  }
  is_fault Memory came = tt
  is_fault Io came = tt
