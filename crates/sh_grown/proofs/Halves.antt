-- Each chunk is at most half as large as those before it together.
use Rattle.std.proofs.Common.{◌≡◌, ℕ, zero, suc, ◌+◌, ◌-◌, ◌*◌, ◌/◌, ◌<◌, ◌≤◌, ◌⊎◌, inl, inr, ⊎_elim, ap, arith, refl}
use Rattle.std.proofs.Common.{subst, sym, ◌∙◌}
use Rattle.std.specs.Prelude.{◌==◌, ◌^◌, ◌%◌, Bool, false, if◌then◌else◌, min}
use Rattle.std.proofs.Math.Nat.{div-add-mod, min-eq_left, min-eq_right, mod-lt, pow-succ'}
use Rattle.std.proofs.lemmas.Bool.{cases_lt, ne_eqb}
use Rattle.sh_shape.specs.Places.{page_words, words_of}
use Rattle.sh_shape.specs.Shape.{segment_pages}
use Rattle.sh_shard.specs.Pages.{sum_below}
use Rattle.sh_grown.specs.declared.growing.Growing.{Growing}
use Rattle.sh_grown.specs.ChunkShapes.{doublings}
use Rattle.sh_grown.specs.Sizes.{FewInAll, HalfAsLarge, words_in}

-- ---- words by shards and segments

-- from some words to others, which are at least as many and at most twice as many
record Grows (w v : ℕ) : Type 0 where
  more : w ≤ v
  most : v ≤ 2 * w

same_grows : (w : ℕ) → Grows w w
same_grows w = record { more = omega arith; most = omega arith }

abbrev words_by : (shards segments : ℕ) → ℕ
words_by shards segments = page_words * (shards * (segment_pages * segments)) + 2 * shards

more_shards : (x y : ℕ) → Grows (words_by x y) (words_by (2 * x) y)
more_shards x y = record { more = omega arith; most = omega arith }

more_segments : (x y : ℕ) → Grows (words_by x y) (words_by x (2 * y))
more_segments x y = record { more = omega arith; most = omega arith }

-- ---- by the number of doublings

abbrev words_at : ℕ → ℕ
words_at d = words_by (2 ^ min d 6) (2 ^ (d - 6))

power : (m k : ℕ) → k ≡ suc m → 2 ^ k ≡ 2 * 2 ^ m
power m k is = ap (λ (n : ℕ). 2 ^ n) is ∙ pow-succ' 2 m

shards_doubled : (d : ℕ) → d < 6 → Grows (words_at d) (words_at (d + 1))
shards_doubled d less =
    let here : min d 6 ≡ d = min-eq_left {n = d} {m = 6} (omega (arith, less)) in
    let next : min (d + 1) 6 ≡ d + 1 = min-eq_left {n = d + 1} {m = 6} (omega (arith, less)) in
    let same : (d + 1) - 6 ≡ d - 6 = omega (arith, less) in
    let twice : 2 ^ min (d + 1) 6 ≡ 2 * 2 ^ min d 6 = power (min d 6) (min (d + 1) 6) (omega (arith, here, next)) in
    subst (λ (x : ℕ). Grows (words_at d) (words_by x (2 ^ ((d + 1) - 6)))) (sym twice)
    (subst (λ (k : ℕ). Grows (words_at d) (words_by (2 * 2 ^ min d 6) (2 ^ k))) (sym same)
    (more_shards (2 ^ min d 6) (2 ^ (d - 6))))

segments_doubled : (d : ℕ) → 6 ≤ d → Grows (words_at d) (words_at (d + 1))
segments_doubled d past =
    let here : min d 6 ≡ 6 = min-eq_right {n = 6} {m = d} past in
    let next : min (d + 1) 6 ≡ 6 = min-eq_right {n = 6} {m = d + 1} (omega (arith, past)) in
    let more : (d + 1) - 6 ≡ suc (d - 6) = omega (arith, past) in
    let twice : 2 ^ ((d + 1) - 6) ≡ 2 * 2 ^ (d - 6) = power (d - 6) ((d + 1) - 6) more in
    subst (λ (y : ℕ). Grows (words_at d) (words_by (2 ^ min (d + 1) 6) y)) (sym twice)
    (subst (λ (k : ℕ). Grows (words_at d) (words_by (2 ^ k) (2 * 2 ^ (d - 6)))) (here ∙ sym next)
    (more_segments (2 ^ min d 6) (2 ^ (d - 6))))

doubled : (d : ℕ) → Grows (words_at d) (words_at (d + 1))
doubled d = ⊎_elim (λ (less : d < 6). shards_doubled d less) (λ (past : 6 ≤ d). segments_doubled d past) (cases_lt d 6)

-- as many, or one more
abbrev Follows : (a b : ℕ) → Type 0
Follows a b = (b ≡ a) ⊎ (b ≡ a + 1)

by_follows : (a b : ℕ) → Follows a b → Grows (words_at a) (words_at b)
by_follows a b (inl same) = subst (λ (k : ℕ). Grows (words_at a) (words_at k)) (sym same) (same_grows (words_at a))
by_follows a b (inr more) = subst (λ (k : ℕ). Grows (words_at a) (words_at k)) (sym more) (doubled a)

least_follows : (a b : ℕ) → Follows a b → Follows (min a 15) (min b 15)
least_follows a b (inl same) = inl (ap (λ (k : ℕ). min k 15) same)
least_follows a b (inr more) =
    ⊎_elim
    (λ (less : a < 15).
    let here : min a 15 ≡ a = min-eq_left {n = a} {m = 15} (omega (arith, less)) in
    let next : min b 15 ≡ b = min-eq_left {n = b} {m = 15} (omega (arith, less, more)) in
    inr (omega (arith, here, next, more)))
    (λ (past : 15 ≤ a).
    let here : min a 15 ≡ 15 = min-eq_right {n = 15} {m = a} past in
    let next : min b 15 ≡ 15 = min-eq_right {n = 15} {m = b} (omega (arith, past, more)) in
    inl (next ∙ sym here))
    (cases_lt a 15)

halves : (n : ℕ) → 2 * (n / 2) + n % 2 ≡ n
halves n = div-add-mod n 2

less_two : (n : ℕ) → n % 2 < 2
less_two n = mod-lt n {m = 2} (omega arith)

next_half : (n : ℕ) → Follows (n / 2) (suc n / 2)
next_half n =
    let p = halves n in
    let q = halves (suc n) in
    let r = less_two n in
    let s = less_two (suc n) in
    ⊎_elim (λ (less : suc n / 2 < n / 2 + 1). inl (omega (arith, p, q, r, s, less)))
    (λ (past : n / 2 + 1 ≤ suc n / 2). inr (omega (arith, p, q, r, s, past)))
    (cases_lt (suc n / 2) (n / 2 + 1))

half_after : (n : ℕ) → Follows (n / 2) (suc (suc n) / 2)
half_after n =
    let p = halves n in
    let q = halves (suc (suc n)) in
    let r = less_two n in
    let s = less_two (suc (suc n)) in inr (omega (arith, p, q, r, s))

-- ---- the sum

module _ (growing : Growing) where
  -- the words of a chunk, by whether it is the first one and the number of doublings
  abbrev words_if : (first : Bool) (d : ℕ) → ℕ
  words_if first d = words_of (if first then growing.first else record {
    shards = if first then 2 else 2 ^ min d 6;
    segments = 2 ^ (d - 6);
    passes = growing.passes;
  })

  words_later : (n : ℕ) → words_in growing (suc n) ≡ words_at (min (n / 2) 15)
  words_later n =
      let later : (suc n == 0) ≡ false = ne_eqb (suc n) 0 (λ e. omega (arith, e)) in
      let before : suc n - 1 ≡ n = omega arith in
      ap (λ (b : Bool). words_if b (doublings (suc n))) later ∙ ap (λ (k : ℕ). words_if false (min (k / 2) 15)) before

  later : (m n : ℕ) → Follows (m / 2) (n / 2) → Grows (words_in growing (suc m)) (words_in growing (suc n))
  later m n follows =
      subst (λ (w : ℕ). Grows w (words_in growing (suc n))) (sym (words_later m))
      (subst (λ (w : ℕ). Grows (words_at (min (m / 2) 15)) w) (sym (words_later n))
      (by_follows (min (m / 2) 15) (min (n / 2) 15) (least_follows (m / 2) (n / 2) follows)))

  some_shard : (s g : ℕ) → 2 ≤ s * g → 1 ≤ s
  some_shard zero g large = absurd (omega (arith, large))
  some_shard (suc s) g large = omega arith

  first_half : 2 ≤ growing.first.shards * growing.first.segments → 2 * words_in growing 1 ≤ words_in growing 0 + 2
  first_half large =
      let some : 1 ≤ growing.first.shards = some_shard growing.first.shards growing.first.segments large in
      omega (arith, large, some)

  sum_step : (a b c s : ℕ) → 2 * a ≤ s + 2 → a ≤ b → c ≤ 2 * a → 2 * c ≤ b + (a + s) + 2
  sum_step a b c s few more twice = omega arith

  half : 2 ≤ growing.first.shards * growing.first.segments → (n : ℕ)
      → 2 * words_in growing (suc n) ≤ sum_below (words_in growing) (suc n) + 2
  half large zero = let first = first_half large in omega (arith, first)
  half large (suc zero) = let first = first_half large in omega (arith, first)
  half large (suc (suc n)) =
      sum_step (words_in growing (suc n)) (words_in growing (suc (suc n))) (words_in growing (suc (suc (suc n))))
      (sum_below (words_in growing) (suc n))
      (half large n) (later n (suc n) (next_half n)).more (later n (suc (suc n)) (half_after n)).most

pub half_as_large : HalfAsLarge
half_as_large growing number large = half growing large number

with_half : (w s : ℕ) → 2 * w ≤ s + 2 → 2 * (w + s) ≤ 3 * s + 2
with_half w s few = omega (arith, few)

pub few_in_all : FewInAll
few_in_all growing number large =
    with_half (words_in growing (suc number)) (sum_below (words_in growing) (suc number))
    (half growing large number)
