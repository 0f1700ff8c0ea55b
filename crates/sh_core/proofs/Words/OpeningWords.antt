-- The opening list has, at each place, the word with which the place opens.
use Rattle.std.proofs.Common.{◌≡◌, ℕ, zero, suc, ◌+◌, ◌-◌, ◌*◌, ◌%◌, ◌^◌, ◌<◌, ◌≤◌, ◌&&◌, Bool, true, false, cond, []}
use Rattle.std.proofs.Common.{◌∷◌, ◌++◌, length, get_or, refl, ◌∙◌, arith, length-append, lt-ltb, le-ltb, le-leb}
use Rattle.std.specs.Prelude.{nat_lt, nat_le}
use Rattle.std.proofs.lemmas.Bool.Decides.{nat_tests}
use Rattle.std.proofs.lemmas.List.{get_or_append_left, get_or-append_right}
use Rattle.sh_shape.specs.declared.places.Place.{Place}
use Rattle.sh_shape.specs.declared.places.Place.TheVariants.{Class, Head, PageLink, State, Link, Length, Payload, Owner}
use Rattle.sh_shape.specs.declared.places.Place.TheVariants.{Bell}
use Rattle.sh_shape.specs.Shape.{Numbers}
use Rattle.sh_shape.specs.Places.{IsPlace, number, words_of, all_pages, page_words}
use Rattle.sh_shape.proofs.PlaceLaws.{places_are_words}
use Rattle.sh_core.specs.Words.{opening, read}
use Rattle.sh_core.specs.Opening.{opening_word, opening_words}
use Rattle.sh_core.specs.Kept.{HoldsWords}
use Rattle.std.proofs.lemmas.Bool.{lt-leb}

pub opening_none : (pages : ℕ) → opening_words pages 0 ≡ []
unfolding opening_words
opening_none pages = refl

pub opening_more : (pages n : ℕ) → opening_words pages (n + 1) ≡ opening_words pages n ++ opening_word pages n ∷ []
unfolding opening_words
opening_more pages n = let e : n + 1 ≡ suc n = omega arith in rw e refl

opening_length : (pages n : ℕ) → length (opening_words pages n) ≡ n
unfolding opening_words
opening_length pages zero = refl
opening_length pages (suc n) = let e = opening_length pages n in let l = length-append (opening_words pages n)
    (opening_word pages n ∷ []) in omega arith

opening_at : (pages n i : ℕ) → i < n → get_or (opening_words pages n) i 0 ≡ opening_word pages i
unfolding opening_words
opening_at pages zero i h = absurd (omega arith)
opening_at pages (suc n) i h = go (nat_lt i n) refl (λ k. opening_at pages n i k) where
  go : (b : Bool) → nat_lt i n ≡ b → (i < n → get_or (opening_words pages n) i 0 ≡ opening_word pages i)
      → get_or (opening_words pages n ++ opening_word pages n ∷ []) i 0 ≡ opening_word pages i
  go true e rest =
      let small : i < n = grind (arith, nat_tests) in
      let l = opening_length pages n in get_or_append_left (opening_words pages n) (opening_word pages n ∷ []) 0 i
      (omega arith) ∙ rest small
  go false e rest =
      let past : n ≤ i = grind (arith, nat_tests) in
      let same : i ≡ n = omega arith in
      let zero_is : n - n ≡ 0 = omega arith in
      rw (
        same,
        get_or-append_right (opening_words pages n) (opening_word pages n ∷ []) n n 0 (opening_length pages n)
            (omega arith),
        zero_is,
      ) refl

-- how the list is filled
pub ruleset opening_words_by_number = (opening_none, opening_more)

-- a word that is no state word
early : (pages n : ℕ) → n % page_words < 3 → opening_word pages n ≡ 0
early pages n h = rw (lt-leb 3 (n % page_words) h) (go (nat_lt n (page_words * pages))) where
  go : (b : Bool) → cond (b && false) (2 ^ 32) 0 ≡ 0
  go true = refl
  go false = refl

late : (pages n : ℕ) → 51 ≤ n % page_words → opening_word pages n ≡ 0
late pages n h = rw (le-ltb (n % page_words) 51 h) (go (nat_lt n (page_words * pages)) (nat_le 3 (n % page_words)))
  where
    go : (b c : Bool) → cond (b && (c && false)) (2 ^ 32) 0 ≡ 0
    go true true = refl
    go true false = refl
    go false c = refl

behind : (pages n : ℕ) → page_words * pages ≤ n → opening_word pages n ≡ 0
behind pages n h = rw (le-ltb n (page_words * pages) h) refl

state_word : (pages n : ℕ) → n < page_words * pages → 3 ≤ n % page_words → n % page_words < 51 → opening_word pages n
    ≡ 2 ^ 32
state_word pages n a b c = rw (
  lt-ltb n (page_words * pages) a,
  le-leb 3 (n % page_words) b,
  lt-ltb (n % page_words) 51 c,
) refl

opening_reads : (shape : Numbers) (p : Place) → IsPlace shape p → opening_word (all_pages shape) (number shape p)
    ≡ read opening p
opening_reads shape (Class q) h = early (all_pages shape) (number shape (Class q)) (omega arith)
opening_reads shape (Head q) h = early (all_pages shape) (number shape (Head q)) (omega arith)
opening_reads shape (PageLink q) h = early (all_pages shape) (number shape (PageLink q)) (omega arith)
opening_reads shape (State q s) h = let a = h.0 in let b = h.1 in state_word (all_pages shape)
    (number shape (State q s)) (omega arith) (omega arith) (omega arith)
opening_reads shape (Link q s) h = let a = h.0 in let b = h.1 in late (all_pages shape) (number shape (Link q s))
    (omega arith)
opening_reads shape (Length q s) h = let a = h.0 in let b = h.1 in late (all_pages shape) (number shape (Length q s))
    (omega arith)
opening_reads shape (Payload q i) h = let a = h.0 in let b = h.1 in late (all_pages shape) (number shape (Payload q i))
    (omega arith)
opening_reads shape (Owner n) h = behind (all_pages shape) (number shape (Owner n)) (omega arith)
opening_reads shape (Bell n) h = behind (all_pages shape) (number shape (Bell n)) (omega arith)

pub opening_holds : (shape : Numbers) → HoldsWords shape (opening_words (all_pages shape) (words_of shape)) opening
opening_holds shape = record {
  count = opening_length (all_pages shape) (words_of shape);
  at = λ p within. opening_at (all_pages shape) (words_of shape) (number shape p) (places_are_words shape p within)
      ∙ opening_reads shape p within;
}
