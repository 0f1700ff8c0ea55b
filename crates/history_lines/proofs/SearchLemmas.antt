-- A text that is searched line by line.
use Rattle.std.proofs.Common.{◌≡◌, ℕ, ◌+◌, true, false, List, [], ◌∷◌, ◌++◌, Option, Some, None, length, map, refl, sym}
use Rattle.std.proofs.Common.{◌∙◌, ap, subst, arith, length-append, add-zero, inl, inr}
use Rattle.std.specs.Prelude.{Result, Ok, Err, MatchResult}
use Rattle.std.specs.Io.BufRead.{drop_through}
use Rattle.std.proofs.lemmas.List.Elements.{All-nil, All-push}
use Rattle.sh_script.specs.Grammar.{spelling, IsLine}
use Rattle.history_audit.specs.declared.clash.Clash.{Clash}
use Rattle.history_lines.specs.declared.fault.Fault.{Fault}
use Rattle.history_lines.specs.declared.fault.Fault.TheVariants.{Memory, History, Io}
use Rattle.history_lines.specs.declared.fault.Trouble.{Trouble}
use Rattle.history_lines.specs.declared.fault.Trouble.TheVariants as trouble
use Rattle.history_lines.specs.declared.reading.Reading.{Reading}
use Rattle.history_lines.specs.declared.searching.Found.{Found}
use Rattle.history_lines.specs.declared.searching.Search.{Search}
use Rattle.history_lines.specs.Line.{key_line, Gives}
use Rattle.history_lines.specs.Taken.{CameOfLine}
use Rattle.history_lines.specs.Searched.{Trail, no_trail, is_on_other, line_of, with_line, with_finding, IsTaken}
use Rattle.history_lines.specs.Searched.{IsNext, AreSearched, BeginsSearched, IsFound, IsFaultOfSearch}
use Rattle.history_lines.specs.Searched.{HasFollowedTrail, CameOfTaken, CameOfNext, CameOfTurn, CameOfEnd}
use Rattle.history_lines.proofs.TextLemmas.{spelling_more}

-- one line more
searched_more : (only : Option ℕ) (lines : List (List ℕ)) (line : List ℕ) (n : ℕ) (start trail after : Trail)
    → AreSearched only n lines start trail → IsNext only trail (n + length lines) line after
    → AreSearched only n (lines ++ line ∷ []) start after
searched_more only [] line n start trail after is next = (
  after,
  subst (λ (t : Trail). IsNext only t n line after) is
      (subst (λ (k : ℕ). IsNext only trail k line after) (add-zero n) next),
  refl,
)
searched_more only (l ∷ ls) line n start trail after is next =
    let e : n + length (l ∷ ls) ≡ (n + 1) + length ls = omega arith in (
      is.0,
      is.1,
      searched_more only ls line (n + 1) is.0 trail after is.2
          (subst (λ (k : ℕ). IsNext only trail k line after) e next),
    )

-- as much of the text is searched: these lines, and this is the rest
pub record HasSearched (only : Option ℕ) (text : List ℕ) (n : ℕ) (search : Search) (rest : List ℕ) : Type 0 where
  pub lines : List (List ℕ)
  pub trail : Trail
  pub begins : BeginsSearched only text lines rest trail
  pub number : n ≡ length lines + 1
  pub follows : HasFollowedTrail only search trail

pub nothing_searched : (only : Option ℕ) (text : List ℕ) (search : Search) → HasFollowedTrail only search no_trail
    → HasSearched only text 1 search text
nothing_searched only text search follows = record {
  lines = [];
  trail = no_trail;
  begins = record { spelled = refl; lines_are = All-nil IsLine; searched = refl };
  number = refl;
  follows = follows;
}

module _ (only : Option ℕ) (text : List ℕ) (n : ℕ) (search now : Search) (rest : List ℕ)
    (has : HasSearched only text n search rest) where
  pub search_more : CameOfTurn only has.trail n rest now (Ok true)
      → HasSearched only text (n + 1) now (drop_through 10 rest)
  search_more came = record {
    lines = has.lines ++ came.0 ∷ [];
    trail = came.1;
    begins = record {
      spelled =
          has.begins.spelled ∙ ap (spelling has.lines) came.2.in_front
          ∙ sym (spelling_more has.lines came.0 (drop_through 10 rest));
      lines_are = All-push IsLine has.lines came.0 has.begins.lines_are came.2.is_line;
      searched =
          let e : n ≡ 1 + length has.lines = let k = has.number in omega arith in
          searched_more only has.lines came.0 1 no_trail has.trail came.1 has.begins.searched (rw e at came.3);
    };
    number = let k = has.number in simp length-append (omega arith);
    follows = came.4;
  }

  pub search_ends : (r : Result Found Fault) → rest ≡ [] → CameOfEnd has.trail n r
      → MatchResult r (IsFound only text) (IsFaultOfSearch only text)
  search_ends (Ok found) none ends =
      (has.lines, has.trail, subst (λ (xs : List ℕ). BeginsSearched only text has.lines xs has.trail) none has.begins, ends)
  search_ends (Err (History m cause)) none ends = record {
    lines = has.lines;
    rest = [];
    trail = has.trail;
    begins = subst (λ (xs : List ℕ). BeginsSearched only text has.lines xs has.trail) none has.begins;
    number = ends.0 ∙ has.number;
    fault = inr ends.1;
  }
  search_ends (Err Memory) none ends = tt
  search_ends (Err Io) none ends = tt

  pub search_fails : (f : Fault) → CameOfTurn only has.trail n rest now (Err f) → IsFaultOfSearch only text f
  search_fails (History m cause) came = record {
    lines = has.lines;
    rest = rest;
    trail = has.trail;
    begins = has.begins;
    number = came.0 ∙ has.number;
    fault = rw came.0 came.1;
  }
  search_fails Memory came = tt
  search_fails Io came = tt

-- ---- one line

-- a line is taken in, or left out, and noted
pub taken_trail : (only : Option ℕ) (search now : Search) (trail : Trail) (n : ℕ) (text : List ℕ) (said : Option ℕ)
    (clash : Option Clash) → HasFollowedTrail only search trail → now.only ≡ search.only → CameOfLine trail.book n text now.reading (Ok clash)
    → map line_of now.lines.items ≡ with_line (map line_of search.lines.items) n text said
    → now.findings.items ≡ with_finding search.findings.items n clash
    → (after : Trail) × IsTaken trail n text said after × HasFollowedTrail only now after
taken_trail only search now trail n text said None has same came lines findings = (
  record { book = came.0; lines = with_line trail.lines n text said; findings = trail.findings },
  (refl, inl (came.1, refl)),
  record {
    only_is = same ∙ has.only_is;
    taken = came.2;
    lines_are = lines ∙ ap (λ (xs : List (ℕ × List ℕ)). with_line xs n text said) has.lines_are;
    findings_are = findings ∙ has.findings_are;
  },
)
taken_trail only search now trail n text said (Some clash) has same came lines findings = (
  record {
    book = trail.book;
    lines = with_line trail.lines n text said;
    findings = with_finding trail.findings n (Some clash);
  },
  (refl, inr (clash, came.0, refl, refl)),
  record {
    only_is = same ∙ has.only_is;
    taken = came.1;
    lines_are = lines ∙ ap (λ (xs : List (ℕ × List ℕ)). with_line xs n text said) has.lines_are;
    findings_are = rw (← has.findings_are) findings;
  },
)

module _ (only : Option ℕ) (trail : Trail) (n : ℕ) (text : List ℕ) (now : Search) where
  pub taken_fails : (said : Option ℕ) (after : Reading) (e : Trouble) → CameOfLine trail.book n text after (Err e)
      → CameOfTaken only trail n text said now (Err e)
  taken_fails said after trouble.Memory came = tt
  taken_fails said after (trouble.Because c) came = came

  pub key_fails : (e : Trouble) → Gives (λ (k : Option ℕ). k) (key_line trail.book.limits text) (Err e)
      → CameOfNext only trail n text now (Err e)
  key_fails trouble.Memory fails = tt
  key_fails (trouble.Because c) fails = inl fails

  pub passed_over : (said : Option ℕ) → key_line trail.book.limits text ≡ Ok said → is_on_other only said ≡ true
      → HasFollowedTrail only now trail → CameOfNext only trail n text now (Ok tt)
  passed_over said says other has = (trail, record { said = said; says = says; came = inl (other, refl) }, has)

  pub taken_next : (said : Option ℕ) (result : Result (Unit {0}) Trouble) → key_line trail.book.limits text ≡ Ok said
      → is_on_other only said ≡ false → CameOfTaken only trail n text said now result
      → CameOfNext only trail n text now result
  taken_next said (Ok u) says same came =
      (came.0, record { said = said; says = says; came = inr (same, came.1) }, came.2)
  taken_next said (Err trouble.Memory) says same came = tt
  taken_next said (Err (trouble.Because c)) says same came = inr came
