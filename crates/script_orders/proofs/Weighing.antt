-- Sums of counts with weights, up to the greatest count.
use Rattle.std.proofs.Common.{◌≡◌, ℕ, zero, suc, ◌+◌, ◌*◌, ◌-◌, ◌^◌, ◌≤◌, min, List, [], ◌∷◌, ◌++◌, length}
use Rattle.std.proofs.Common.{map}
use Rattle.std.proofs.Common.{refl, sym, ap, ◌∙◌, arith, Some, None, slice_get, inl, inr}
use Rattle.std.specs.Prelude.{slice_set}
use Rattle.std.specs.List.{sum_by, flat_map}
use Rattle.std.proofs.lemmas.Bool.{cases_lt}
use Rattle.std.proofs.lemmas.List.Sums.{sum_by-cons, sum_by-append}
use Rattle.std.proofs.lemmas.Nat.{mul-le}
use Rattle.script_orders.specs.Weights.{capped, weigh}

-- ---- up to a greatest number

module _ (top : ℕ) where
  pub top_add : (a b : ℕ) → min (min a top + b) top ≡ min (a + b) top
  top_add a b = omega arith

  pub top_both : (a b c d : ℕ) → min a top ≡ min c top → min b top ≡ min d top → min (a + b) top ≡ min (c + d) top
  top_both a b c d h k = omega arith

  -- a number of times what is cut at the top
  pub top_times : (a k b : ℕ) → min (min a top * k + b) top ≡ min (a * k + b) top
  top_times a zero b = let e : min a top * 0 ≡ 0 = omega arith in let f : a * 0 ≡ 0 = omega arith in omega arith
  top_times a (suc k) b = elim (cases_lt top a) [
    | inl over ↦
        let e : min a top ≡ top = omega arith in
        let f : top * 1 ≤ top * suc k = mul-le top 1 top (suc k) (omega arith) (omega arith) in
        let g : top * 1 ≤ a * suc k = mul-le top 1 a (suc k) (omega arith) (omega arith) in
        ap (λ (n : ℕ). min (n * suc k + b) top) e ∙ omega (arith, f, g)
    | inr le ↦ let e : min a top ≡ a = omega arith in ap (λ (n : ℕ). min (n * suc k + b) top) e
  ]

pub add_comm : (a b : ℕ) → a + b ≡ b + a
add_comm a b = omega arith

pub times_add : (a b k : ℕ) → (a + b) * k ≡ a * k + b * k
times_add a b k = omega arith

-- ---- one count more, and one count changed

pub weigh_push : (cs : List ℕ) (c : ℕ) (w : ℕ → ℕ) → weigh (cs ++ c ∷ []) w ≡ weigh cs w + c * w (length cs)
unfolding weigh
weigh_push [] c w = omega arith
weigh_push (d ∷ cs) c w =
    let rest = weigh_push cs c (λ place. w (place + 1)) in
    let e : length cs + 1 ≡ length (d ∷ cs) = omega arith in
    let f : c * w (length cs + 1) ≡ c * w (length (d ∷ cs)) = ap (λ (n : ℕ). c * w n) e in
    omega (arith, rest, f)

-- what the other counts weigh
pub weigh_set : (cs : List ℕ) (i c d : ℕ) (w : ℕ → ℕ) → slice_get cs i ≡ Some c → (others : ℕ)
    × (weigh cs w ≡ others + c * w i) × (weigh (slice_set cs i d) w ≡ others + d * w i)
unfolding weigh
weigh_set [] i c d w h = absurd (let z : None ≡ Some c = h in cc)
weigh_set (b ∷ cs) zero c d w h =
    let e : b ≡ c = let z : Some b ≡ Some c = h in cc in
    let f : b * w 0 ≡ c * w 0 = ap (λ (n : ℕ). n * w 0) e in
    (weigh cs (λ place. w (place + 1)), omega (arith, f), omega arith)
weigh_set (b ∷ cs) (suc i) c d w h =
    let rest = weigh_set cs i c d (λ place. w (place + 1)) h in
    let e : i + 1 ≡ suc i = omega arith in
    let f : c * w (i + 1) ≡ c * w (suc i) = ap (λ (n : ℕ). c * w n) e in
    let g : d * w (i + 1) ≡ d * w (suc i) = ap (λ (n : ℕ). d * w n) e in
    let one = rest.1 in
    let two = rest.2 in
    (b * w 0 + rest.0, omega (arith, one, f), omega (arith, two, g))

-- a count grows, up to the top
pub weigh_grown : (cs : List ℕ) (i c more : ℕ) (w : ℕ → ℕ) → slice_get cs i ≡ Some c
    → capped (weigh (slice_set cs i (capped (c + more))) w) ≡ capped (weigh cs w + more * w i)
weigh_grown cs i c more w h =
    let both = weigh_set cs i c (capped (c + more)) w h in
    let one = both.1 in
    let two = both.2 in
    let top : ℕ = 2 ^ 128 - 1 in
    let times = top_times top (c + more) (w i) both.0 in
    let apart : (c + more) * w i ≡ c * w i + more * w i = times_add c more (w i) in
    ap capped (two ∙ add_comm both.0 (capped (c + more) * w i)) ∙ times
    ∙ ap capped (let e : (c + more) * w i + both.0 ≡ weigh cs w + more * w i = omega (arith, one, apart) in e)

-- ---- counts and weights of one list

pub weigh_ext : (cs : List ℕ) (v w : ℕ → ℕ) → ((place : ℕ) → v place ≡ w place) → weigh cs v ≡ weigh cs w
unfolding weigh
weigh_ext [] v w h = refl
weigh_ext (c ∷ cs) v w h =
    let here = h 0 in
    let rest = weigh_ext cs (λ place. v (place + 1)) (λ place. w (place + 1)) (λ place. h (place + 1)) in
    λ i. c * here i + rest i

-- what f makes of the element at a place, if there is one
abbrev pub weight_at : {A B : Type 0} (none : B) (f : A → B) → List A → (place : ℕ) → B
weight_at {A} {B} none f xs place = elim (slice_get xs place) as (λ _. B) [ Some x ↦ f x | None ↦ none ]

pub weigh_by : {A : Type 0} (count weight : A → ℕ) (xs : List A) → sum_by (λ x. count x * weight x) xs
    ≡ weigh (map count xs) (weight_at 0 weight xs)
unfolding weigh
weigh_by count weight [] = refl
weigh_by count weight (x ∷ xs) =
    sum_by-cons (λ y. count y * weight y) x xs
    ∙ ap (λ (n : ℕ). count x * weight x + n) (weigh_by count weight xs
    ∙ weigh_ext (map count xs) (weight_at 0 weight xs) (λ place. weight_at 0 weight (x ∷ xs) (place + 1)) (λ place.
    let e : suc place ≡ place + 1 = omega arith in ap (weight_at 0 weight (x ∷ xs)) e))

pub sum_ext : {A : Type 0} (f g : A → ℕ) → ((x : A) → f x ≡ g x) → (xs : List A) → sum_by f xs ≡ sum_by g xs
sum_ext f g h [] = refl
sum_ext f g h (x ∷ xs) =
    let here = h x in
    let rest = sum_ext f g h xs in
    sum_by-cons f x xs ∙ (λ i. here i + rest i) ∙ sym (sum_by-cons g x xs)

-- one more
pub sum_more : {A : Type 0} (f : A → ℕ) (xs : List A) (x : A) → sum_by f (xs ++ x ∷ []) ≡ sum_by f xs + f x
sum_more f xs x =
    sum_by-append f xs (x ∷ []) ∙ (let e : sum_by f xs + (0 + f x) ≡ sum_by f xs + f x = omega arith in e)

-- ---- sums over lists of lists

pub sum_flat : {A B : Type 0} (f : B → ℕ) (g : A → List B) (xs : List A) → sum_by f (flat_map g xs)
    ≡ sum_by (λ x. sum_by f (g x)) xs
sum_flat f g [] = refl
sum_flat f g (x ∷ xs) =
    sum_by-append f (g x) (flat_map g xs)
    ∙ ap (λ (n : ℕ). sum_by f (g x) + n) (sum_flat f g xs)
    ∙ sym (sum_by-cons (λ y. sum_by f (g y)) x xs)

-- ---- a sum over a list of which one element changed

pub sum_set : {A : Type 0} (f : A → ℕ) (xs : List A) (i : ℕ) (x y : A) → slice_get xs i ≡ Some x → (others : ℕ)
    × (sum_by f xs ≡ others + f x) × (sum_by f (slice_set xs i y) ≡ others + f y)
sum_set f [] i x y h = absurd (let z : None ≡ Some x = h in cc)
sum_set f (z ∷ xs) zero x y h =
    let e : f z ≡ f x = ap f (let u : Some z ≡ Some x = h in cc) in
    let one = sum_by-cons f z xs in
    let two = sum_by-cons f y xs in
    (sum_by f xs, omega (arith, e, one), omega (arith, two))
sum_set f (z ∷ xs) (suc i) x y h =
    let rest = sum_set f xs i x y h in
    let one = rest.1 in
    let two = rest.2 in
    let three = sum_by-cons f z xs in
    let four = sum_by-cons f z (slice_set xs i y) in
    (f z + rest.0, omega (arith, one, three), omega (arith, two, four))

-- of one element alone, if the others count nothing
pub sum_none : {A : Type 0} (f : A → ℕ) (xs : List A) → ((j : ℕ) (y : A) → slice_get xs j ≡ Some y → f y ≡ 0)
    → sum_by f xs ≡ 0
sum_none f [] h = refl
sum_none f (x ∷ xs) h =
    let one = sum_by-cons f x xs in
    let here = h 0 x refl in
    let rest = sum_none f xs (λ j y at. h (suc j) y at) in
    omega (arith, one, here, rest)

pub sum_one : {A : Type 0} (f : A → ℕ) (xs : List A) (i : ℕ) (x : A) → slice_get xs i ≡ Some x
    → ((j : ℕ) (y : A) → slice_get xs j ≡ Some y → (j ≡ i → ⊥) → f y ≡ 0) → sum_by f xs ≡ f x
sum_one f [] i x at h = absurd (let z : None ≡ Some x = at in cc)
sum_one f (z ∷ xs) zero x at h =
    let e : f z ≡ f x = ap f (let u : Some z ≡ Some x = at in cc) in
    let one = sum_by-cons f z xs in
    let rest = sum_none f xs (λ j y there. h (suc j) y there (λ (k : suc j ≡ 0). omega (arith, k))) in
    omega (arith, one, rest, e)
sum_one f (z ∷ xs) (suc i) x at h =
    let one = sum_by-cons f z xs in
    let here = h 0 z refl (λ (k : 0 ≡ suc i). omega (arith, k)) in
    let rest = sum_one f xs i x at (λ j y there ne. h (suc j) y there (λ (k : suc j ≡ suc i). ne (omega (arith, k)))) in
    omega (arith, one, here, rest)
