-- The first line of a text, as it is read, and the lines before it.
use Rattle.std.proofs.Common.{◌≡◌, ◌≢◌, ℕ, ◌+◌, Bool, true, false, cond, List, [], ◌∷◌, ◌++◌, length, refl, sym, ◌∙◌}
use Rattle.std.proofs.Common.{ap}
use Rattle.std.proofs.Common.{append_assoc, add-zero, arith, eq-eqb, eqb-true}
use Rattle.std.specs.Prelude.{◌==◌, Result, Ok, Err}
use Rattle.std.specs.Io.BufRead.{take_through, drop_through}
use Rattle.std.proofs.lemmas.List.Elements.{All-cons}
use Rattle.sh_script.specs.Grammar.{spelling, IsLine}
use Rattle.sh_script.specs.Trouble.{◌>>=◌}
use Rattle.sh_script.proofs.TextLemmas.{empty_line}
use Rattle.history_lines.specs.declared.fault.Cause.{Cause}
use Rattle.history_lines.specs.Book.{Book, book_after, book_from}
use Rattle.history_lines.specs.Judged.{FirstLine, HasBadEnd, cut_of}

no_newline : (b : ℕ) → (b == 10) ≡ false → b ≢ 10
no_newline b apart same = let here = eq-eqb b 10 same in cc

longer : (b : ℕ) (bs : List ℕ) → b ≢ 10 → IsLine bs → IsLine (b ∷ bs)
longer b bs ne h = All-cons (λ x. x ≢ 10) b bs ne h

no_end : (front : List ℕ) (last : ℕ) → [] ≡ front ++ last ∷ [] → ⊥
no_end [] last e = cc
no_end (c ∷ cs) last e = cc

-- the bytes through the first newline, and those behind it
pub through_all : (text : List ℕ) → take_through 10 text ++ drop_through 10 text ≡ text
through_all [] = refl
through_all (b ∷ bs) = go (b == 10) (through_all bs) where
  go : (here : Bool) → take_through 10 bs ++ drop_through 10 bs ≡ bs
      → cond here (b ∷ []) (b ∷ take_through 10 bs) ++ cond here bs (drop_through 10 bs) ≡ b ∷ bs
  go true later = refl
  go false later = ap (λ xs. b ∷ xs) later

-- nothing is read at the end alone
pub through_none : (text : List ℕ) → take_through 10 text ≡ [] → text ≡ []
through_none [] e = refl
through_none (b ∷ bs) e = go (b == 10) e where
  go : (here : Bool) → cond here (b ∷ []) (b ∷ take_through 10 bs) ≡ [] → b ∷ bs ≡ []
  go true e = absurd (let no : ⊥ = cc in no)
  go false e = absurd (let no : ⊥ = cc in no)

-- what is read with a newline at its end is a line
pub is_line : (text line : List ℕ) → take_through 10 text ≡ line ++ 10 ∷ [] → IsLine line
is_line [] line e = absurd (no_end line 10 e)
is_line (b ∷ bs) line e = go (b == 10) refl (is_line bs) line e where
  go : (here : Bool) → (b == 10) ≡ here
      → ((line : List ℕ) → take_through 10 bs ≡ line ++ 10 ∷ [] → IsLine line) → (line : List ℕ)
      → cond here (b ∷ []) (b ∷ take_through 10 bs) ≡ line ++ 10 ∷ [] → IsLine line
  go true same later [] e = empty_line
  go true same later (c ∷ cs) e = absurd (no_end cs 10 (let rest : [] ≡ cs ++ 10 ∷ [] = cc in rest))
  go false apart later [] e = empty_line
  go false apart later (c ∷ cs) e =
      let first : b ≡ c = cc in
      let rest : take_through 10 bs ≡ cs ++ 10 ∷ [] = cc in
      longer c cs (λ is. no_newline b apart (first ∙ is)) (later cs rest)

pub line_in_front : (text line : List ℕ) → take_through 10 text ≡ line ++ 10 ∷ []
    → text ≡ line ++ 10 ∷ drop_through 10 text
line_in_front text line e =
    sym (through_all text) ∙ ap (λ xs. xs ++ drop_through 10 text) e
    ∙ append_assoc line (10 ∷ []) (drop_through 10 text)

pub empty : (xs : List ℕ) → length xs ≡ 0 → xs ≡ []
empty [] e = refl
empty (x ∷ xs) e = absurd (let no : ⊥ = cc in no)

-- a line that was read with its newline
pub newline_last : (text line : List ℕ) (last : ℕ) → text ≡ line ++ last ∷ [] → last ≡ 10 → text ≡ line ++ 10 ∷ []
newline_last text line last e same = e ∙ ap (λ (b : ℕ). line ++ b ∷ []) same

-- what is read with another byte at its end is the whole rest, which has no newline
pub is_last : (text front : List ℕ) (last : ℕ) → take_through 10 text ≡ front ++ last ∷ [] → last ≢ 10 → IsLine text
is_last [] front last e ne = empty_line
is_last (b ∷ bs) front last e ne = go (b == 10) refl (λ cs rest. is_last bs cs last rest ne) front e where
  go : (here : Bool) → (b == 10) ≡ here
      → ((cs : List ℕ) → take_through 10 bs ≡ cs ++ last ∷ [] → IsLine bs) → (front : List ℕ)
      → cond here (b ∷ []) (b ∷ take_through 10 bs) ≡ front ++ last ∷ [] → IsLine (b ∷ bs)
  go true same later [] e =
      let newline : b ≡ 10 = eqb-true b 10 same in
      let only : b ≡ last = cc in
      absurd (ne (sym only ∙ newline))
  go true same later (c ∷ cs) e = absurd (no_end cs last (let rest : [] ≡ cs ++ last ∷ [] = cc in rest))
  go false apart later [] e =
      let none : take_through 10 bs ≡ [] = cc in
      longer b bs (no_newline b apart) (rw (through_none bs none) empty_line)
  go false apart later (c ∷ cs) e =
      let rest : take_through 10 bs ≡ cs ++ last ∷ [] = cc in
      longer b bs (no_newline b apart) (later cs rest)

pub reads_all : (text front : List ℕ) (last : ℕ) → take_through 10 text ≡ front ++ last ∷ [] → last ≢ 10
    → take_through 10 text ≡ text
reads_all [] front last e ne = refl
reads_all (b ∷ bs) front last e ne = go (b == 10) refl (λ cs rest. reads_all bs cs last rest ne) front e where
  go : (here : Bool) → (b == 10) ≡ here
      → ((cs : List ℕ) → take_through 10 bs ≡ cs ++ last ∷ [] → take_through 10 bs ≡ bs) → (front : List ℕ)
      → cond here (b ∷ []) (b ∷ take_through 10 bs) ≡ front ++ last ∷ []
      → cond here (b ∷ []) (b ∷ take_through 10 bs) ≡ b ∷ bs
  go true same later [] e =
      let newline : b ≡ 10 = eqb-true b 10 same in
      let only : b ≡ last = cc in
      absurd (ne (sym only ∙ newline))
  go true same later (c ∷ cs) e = absurd (no_end cs last (let rest : [] ≡ cs ++ last ∷ [] = cc in rest))
  go false apart later [] e =
      let none : take_through 10 bs ≡ [] = cc in ap (λ xs. b ∷ xs) (none ∙ sym (through_none bs none))
  go false apart later (c ∷ cs) e =
      let rest : take_through 10 bs ≡ cs ++ last ∷ [] = cc in ap (λ xs. b ∷ xs) (later cs rest)

-- what is wrong with a last line that has no newline
pub bad_end : (rest front : List ℕ) (last : ℕ) (book : Book) → take_through 10 rest ≡ front ++ last ∷ [] → last ≢ 10
    → HasBadEnd rest book (cut_of (take_through 10 rest))
bad_end [] front last book e ne = absurd (no_end front last e)
bad_end (b ∷ bs) front last book e ne =
    (is_last (b ∷ bs) front last e ne, ap cut_of (reads_all (b ∷ bs) front last e ne))

pub first_line : (rest line : List ℕ) → take_through 10 rest ≡ line ++ 10 ∷ [] → FirstLine rest line
first_line rest line e = record { in_front = line_in_front rest line e; is_line = is_line rest line e }

-- one more line in front of the rest
pub spelling_more : (lines : List (List ℕ)) (line rest : List ℕ) → spelling (lines ++ line ∷ []) rest
    ≡ spelling lines (line ++ 10 ∷ rest)
spelling_more [] line rest = refl
spelling_more (l ∷ ls) line rest = ap (λ xs. l ++ 10 ∷ xs) (spelling_more ls line rest)

-- the book after one more line
pub book_more : (lines : List (List ℕ)) (line : List ℕ) (n : ℕ) (start book next : Book)
    → book_from n start lines ≡ Ok book → book_after book (n + length lines) line ≡ Ok next
    → book_from n start (lines ++ line ∷ []) ≡ Ok next
book_more [] line n start book next is after =
    let same : start ≡ book = cc in
    let here : book_after book n line ≡ Ok next = rw (add-zero n) at after in
    rw (same, here) refl
book_more (l ∷ ls) line n start book next is after = go (book_after start n l) is (λ b is.
    let e : n + length (l ∷ ls) ≡ (n + 1) + length ls = omega arith in
    book_more ls line (n + 1) b book next is (rw e at after)) where
      go : (r : Result Book Cause) → (r >>= λ b. book_from (n + 1) b ls) ≡ Ok book
          → ((b : Book) → book_from (n + 1) b ls ≡ Ok book → book_from (n + 1) b (ls ++ line ∷ []) ≡ Ok next)
          → (r >>= λ b. book_from (n + 1) b (ls ++ line ∷ [])) ≡ Ok next
      go (Ok b) is later = later b is
      go (Err c) is later = absurd (let no : ⊥ = cc in no)
