-- The payload words of different slots are different words.
use Rattle.std.proofs.Common.{◌≡◌, ◌≢◌, ℕ, zero, suc, ◌+◌, ◌*◌, ◌<◌, ◌≤◌, ◌==◌, ⊎_elim, false, List, [], ◌∷◌, ◌++◌}
use Rattle.std.proofs.Common.{length, get_or, take, sym, refl, ap, ◌∙◌, arith}
use Rattle.std.proofs.Math.Nat.{mul-le-mul_left}
use Rattle.std.proofs.lemmas.Bool.{cases_lt}
use Rattle.std.proofs.lemmas.List.{take_more}
use Rattle.std.proofs.lemmas.Bool.Decides.{nat_tests}
use Rattle.sh_core.specs.Words.{put}
use Rattle.sh_core.specs.Worlds.{words_from}
use Rattle.sh_core.proofs.Sums.Writes.{put_same, put_other}

-- rows of one width do not meet
pub rows_apart : (s t w i j : ℕ) → s ≢ t → i < w → j < w → s * w + i ≢ t * w + j
rows_apart s t w i j n a b e = ⊎_elim (λ (c : s < t). absurd (below s t w i j c a e))
    (λ (c : t ≤ s). absurd (below t s w j i (omega arith) b (sym e))) (cases_lt s t) where
      below : (s t w i j : ℕ) → s < t → i < w → s * w + i ≡ t * w + j → ⊥
      below s t w i j c a e = let h : w * (s + 1) ≤ w * t = mul-le-mul_left w (let d : s + 1 ≤ t = omega arith in d)
          in omega arith

pub words_other : (f : ℕ → ℕ) (k v i n : ℕ) → ((j : ℕ) → j < n → i + j ≢ k) → words_from (put f k v) i n
    ≡ words_from f i n
words_other f k v i zero h = refl
words_other f k v i (suc n) h =
    let t : (i == k) ≡ false = let z : i ≢ k = λ e. h 0 (omega arith) (omega arith) in grind (arith, nat_tests) in
    rw (put_other f k i v t, words_other f k v (i + 1) n (λ j l e. h (j + 1) (omega arith) (omega arith))) refl

-- one word more
pub words_more : (f : ℕ → ℕ) (i n : ℕ) → words_from f i (suc n) ≡ words_from f i n ++ f (i + n) ∷ []
words_more f i zero = let e : i + 0 ≡ i = omega arith in rw e refl
words_more f i (suc n) = let e : i + suc n ≡ i + 1 + n = omega arith
    in rw e (ap (λ xs. f i ∷ xs) (words_more f (i + 1) n))

-- Fill: the words so far are the value's first words
pub fill_words : (f : ℕ → ℕ) (s w i : ℕ) (v : List ℕ) → words_from f (s * w) i ≡ take i v → i < length v
    → words_from (put f (s * w + i) (get_or v i 0)) (s * w) (i + 1) ≡ take (i + 1) v
fill_words f s w i v old less =
    let e : i + 1 ≡ suc i = omega arith in
    ap (words_from (put f (s * w + i) (get_or v i 0)) (s * w)) e
    ∙ words_more (put f (s * w + i) (get_or v i 0)) (s * w) i
    ∙ (let a = words_other f (s * w + i) (get_or v i 0) (s * w) i (λ j l e. absurd (omega arith))
    in rw (a, put_same f (s * w + i) (get_or v i 0), old) (sym (take_more v i 0 less)))
