-- What the words of states say of the numbers in them.
use Rattle.std.proofs.Common.{◌≡◌, ℕ, ◌+◌, ◌^◌, ◌<◌, ◌==◌, ◌&&◌, ◌||◌, ◌≢◌, Bool, cond, true, false, refl, arith}
use Rattle.std.specs.Prelude.{not, nat_lt}
use Rattle.std.proofs.lemmas.Bool.Decides.{nat_tests}
use Rattle.sh_word.specs.Fields.{fields_of, word_of}
use Rattle.sh_slots.specs.Slots.{live_at, past_at, reusable_word, retired_word}

reusable_fits : (g : ℕ) → reusable_word g < 2 ^ 64 → g + 1 < 2 ^ 32
unfolding word_of
reusable_fits g h = omega arith

-- if the word after a generation that is not the last one fits, there is a number for the next generation
pub next_generation_fits : (g m n : ℕ) → cond (g == m) (retired_word g) (reusable_word g) < 2 ^ 64 → n ≡ m → g ≢ n
    → g + 1 < 2 ^ 32
next_generation_fits g m n fits same other =
    let differs : (g == m) ≡ false = grind (arith, nat_tests) in
    reusable_fits g (rw differs at fits)

live_excludes : (p m less same : Bool) → (less ≡ true → same ≡ false) → (p && not m && same) ≡ true
    → (less || (same && m)) ≡ false
live_excludes p m true true other live = absurd (let z : true ≡ false = other refl in cc)
live_excludes true true less false other live = absurd (let z : false ≡ true = live in cc)
live_excludes true false less false other live = absurd (let z : false ≡ true = live in cc)
live_excludes false m less false other live = absurd (let z : false ≡ true = live in cc)
live_excludes true true false true other live = absurd (let z : false ≡ true = live in cc)
live_excludes true false false true other live = refl
live_excludes false m false true other live = absurd (let z : false ≡ true = live in cc)

-- a word that is live in a generation is not past it
pub live_not_past : (g n : ℕ) → live_at g n ≡ true → past_at g n ≡ false
live_not_past g n live = live_excludes (fields_of n).present (fields_of n).marked (nat_lt g (fields_of n).generation)
    ((fields_of n).generation == g) (λ less. grind (arith, nat_tests, less)) live
