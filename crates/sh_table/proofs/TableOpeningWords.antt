-- The opening list of the table has, at each place, the word with which the place opens.
use Rattle.std.proofs.Common.{◌≡◌, ◌≢◌, ℕ, zero, suc, ◌+◌, ◌-◌, ◌*◌, ◌/◌, ◌%◌, ◌^◌, ◌<◌, ◌≤◌, ◌&&◌, ◌==◌, Bool}
use Rattle.std.proofs.Common.{true, false}
use Rattle.std.proofs.Common.{cond, [], ◌∷◌, ◌++◌, length, get_or, refl, sym, ◌∙◌, arith, length-append, lt-ltb, le-ltb}
use Rattle.std.proofs.Common.{le-leb, eq-eqb, ne_eqb}
use Rattle.std.specs.Prelude.{nat_lt, nat_le}
use Rattle.std.proofs.lemmas.Bool.Decides.{nat_tests}
use Rattle.std.proofs.lemmas.Bool.{lt-leb}
use Rattle.std.proofs.lemmas.List.{get_or_append_left, get_or-append_right}
use Rattle.sh_shape.specs.declared.places.Place.{Place}
use Rattle.sh_shape.specs.declared.places.Place.TheVariants.{Class, Head, PageLink, State, Link, Length, Payload, Owner}
use Rattle.sh_shape.specs.declared.places.Place.TheVariants.{Bell}
use Rattle.sh_shape.specs.Shape.{Numbers}
use Rattle.sh_shape.specs.Places.{IsPlace, words_of, all_pages}
use Rattle.sh_core.specs.Words.{opening, read}
use Rattle.sh_table.specs.TableNumbers.{table_number, HoldsInTable}
use Rattle.sh_table.specs.TableOpening.{opening_word, opening_words}
use Rattle.sh_table.proofs.TableNumberLaws.{numbers_are_words}

pub opening_none : (pages : ℕ) → opening_words pages 0 ≡ []
unfolding opening_words
opening_none pages = refl

pub opening_more : (pages n : ℕ) → opening_words pages (n + 1) ≡ opening_words pages n ++ opening_word pages n ∷ []
unfolding opening_words
opening_more pages n = let e : n + 1 ≡ suc n = omega arith in rw e refl

opening_length : (pages n : ℕ) → length (opening_words pages n) ≡ n
unfolding opening_words
opening_length pages zero = refl
opening_length pages (suc n) = let e = opening_length pages n in let l = length-append (opening_words pages n)
    (opening_word pages n ∷ []) in omega arith

opening_at : (pages n i : ℕ) → i < n → get_or (opening_words pages n) i 0 ≡ opening_word pages i
unfolding opening_words
opening_at pages zero i h = absurd (omega arith)
opening_at pages (suc n) i h = go (nat_lt i n) refl (λ k. opening_at pages n i k) where
  go : (b : Bool) → nat_lt i n ≡ b → (i < n → get_or (opening_words pages n) i 0 ≡ opening_word pages i)
      → get_or (opening_words pages n ++ opening_word pages n ∷ []) i 0 ≡ opening_word pages i
  go true e rest =
      let small : i < n = grind (arith, nat_tests) in
      let l = opening_length pages n in get_or_append_left (opening_words pages n) (opening_word pages n ∷ []) 0 i
      (omega arith) ∙ rest small
  go false e rest =
      let past : n ≤ i = grind (arith, nat_tests) in
      let same : i ≡ n = omega arith in
      let zero_is : n - n ≡ 0 = omega arith in
      rw (
        same,
        get_or-append_right (opening_words pages n) (opening_word pages n ∷ []) n n 0 (opening_length pages n)
            (omega arith),
        zero_is,
      ) refl

-- how the list is filled
pub ruleset opening_words_by_number = (opening_none, opening_more)

none1 : (a : Bool) → cond (a && false) (2 ^ 32) 0 ≡ 0
none1 true = refl
none1 false = refl

-- a word that is no state word: one of a page behind its states,
late : (pages n : ℕ) → 48 ≤ n % 192 → opening_word pages n ≡ 0
late pages n h = rw (le-ltb (n % 192) 48 h) (none1 (nat_lt n (192 * pages)))

-- or one behind those of slots
behind : (pages n : ℕ) → 192 * pages ≤ n → opening_word pages n ≡ 0
behind pages n h = rw (le-ltb n (192 * pages) h) refl

state_word : (pages n : ℕ) → n < 192 * pages → n % 192 < 48 → opening_word pages n ≡ 2 ^ 32
state_word pages n a b = rw (lt-ltb n (192 * pages) a, lt-ltb (n % 192) 48 b) refl

opening_reads : (shape : Numbers) (p : Place) → IsPlace shape p → opening_word (all_pages shape) (table_number shape p)
    ≡ read opening p
opening_reads shape (Class q) h = behind (all_pages shape) (table_number shape (Class q)) (omega arith)
opening_reads shape (Head q) h = behind (all_pages shape) (table_number shape (Head q)) (omega arith)
opening_reads shape (PageLink q) h = behind (all_pages shape) (table_number shape (PageLink q)) (omega arith)
opening_reads shape (State q s) h = let a = h.0 in let b = h.1 in state_word (all_pages shape)
    (table_number shape (State q s)) (omega arith) (omega arith)
opening_reads shape (Link q s) h = let a = h.0 in let b = h.1 in late (all_pages shape) (table_number shape (Link q s))
    (omega arith)
opening_reads shape (Length q s) h = let a = h.0 in let b = h.1 in late (all_pages shape)
    (table_number shape (Length q s)) (omega arith)
opening_reads shape (Payload q i) h = let a = h.0 in let b = h.1 in late (all_pages shape)
    (table_number shape (Payload q i)) (omega arith)
opening_reads shape (Owner n) h = behind (all_pages shape) (table_number shape (Owner n)) (omega arith)
opening_reads shape (Bell n) h = behind (all_pages shape) (table_number shape (Bell n)) (omega arith)

pub opening_holds : (shape : Numbers) → HoldsInTable shape (opening_words (all_pages shape) (words_of shape)) opening
opening_holds shape = record {
  count = opening_length (all_pages shape) (words_of shape);
  at = λ p within. opening_at (all_pages shape) (words_of shape) (table_number shape p)
      (numbers_are_words shape p within) ∙ opening_reads shape p within;
}
