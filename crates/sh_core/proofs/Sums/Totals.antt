-- Sums over the passes after a change of one of them.
use Rattle.std.proofs.Common.{◌≡◌, ◌≢◌, ℕ, zero, suc, ◌+◌, ◌<◌, ◌≤◌, Bool, true, false, cond, List, [], ◌∷◌, ◌++◌, ◌||◌}
use Rattle.std.proofs.Common.{◌⊎◌, set, refl, ap, arith, Some, None, slice_get, inl, inr, ⊎_elim, length, ◌*◌}
use Rattle.sh_step.specs.Collections.{total, without, has}

pub total_set : {A : Type 0} (f : A → ℕ) (xs : List A) (i : ℕ) (v w : A) → slice_get xs i ≡ Some v
    → total f (set xs i w) + f v ≡ total f xs + f w
unfolding total
total_set f [] i v w e = cc
total_set f (x ∷ xs) zero v w e = let h : x ≡ v = cc in let g : f x ≡ f v = ap f h in omega arith
total_set f (x ∷ xs) (suc i) v w e = omega (arith, total_set f xs i v w e)

pub total_same : {A : Type 0} (f : A → ℕ) (xs : List A) (i : ℕ) (v w : A) → slice_get xs i ≡ Some v → f w ≡ f v
    → total f (set xs i w) ≡ total f xs
total_same f xs i v w e h = let s = total_set f xs i v w e in omega arith

pub total_append : {A : Type 0} (f : A → ℕ) (xs ys : List A) → total f (xs ++ ys) ≡ total f xs + total f ys
unfolding total
total_append f [] ys = omega arith
total_append f (x ∷ xs) ys = omega (arith, total_append f xs ys)

pub total_le : {A : Type 0} (f g : A → ℕ) → ((x : A) → f x ≤ g x) → (xs : List A) → total f xs ≤ total g xs
unfolding total
total_le f g h [] = omega arith
total_le f g h (x ∷ xs) = let here = h x in omega (arith, total_le f g h xs)

pub total_plus : {A : Type 0} (f g : A → ℕ) → (xs : List A) → total (λ x. f x + g x) xs ≡ total f xs + total g xs
unfolding total
total_plus f g [] = omega arith
total_plus f g (x ∷ xs) = omega (arith, total_plus f g xs)

pub total_at : {A : Type 0} (f : A → ℕ) (xs : List A) (i : ℕ) (v : A) → slice_get xs i ≡ Some v → f v ≤ total f xs
unfolding total
total_at f [] i v e = cc
total_at f (x ∷ xs) zero v e = let h : x ≡ v = cc in let g : f x ≡ f v = ap f h in omega arith
total_at f (x ∷ xs) (suc i) v e = omega (arith, total_at f xs i v e)

-- without an item that passes, the sum is less by what one item that passes adds
pub total_without : {A : Type 0} (f : A → ℕ) (p : A → Bool) (n : ℕ) → ((x : A) → p x ≡ true → f x ≡ n) → (xs : List A)
    → has p xs ≡ true → total f (without p xs) + n ≡ total f xs
unfolding total without has
total_without f p n h [] e = cc
total_without f p n h (x ∷ xs) e = go (p x) refl e (λ e'. total_without f p n h xs e') where
  go : (b : Bool) → p x ≡ b → (b || has p xs) ≡ true → (has p xs ≡ true → total f (without p xs) + n ≡ total f xs)
      → total f (cond b xs (x ∷ without p xs)) + n ≡ f x + total f xs
  go true is _ rest = omega (arith, h x is)
  go false is e' rest = omega (arith, rest e')

pub get_set : {A : Type 0} (xs : List A) (i j : ℕ) (w u : A) → slice_get (set xs i w) j ≡ Some u → ((j ≡ i) × (w ≡ u))
    ⊎ ((j ≢ i) × (slice_get xs j ≡ Some u))
get_set [] i j w u e = absurd (let z : None ≡ Some u = e in cc)
get_set (x ∷ xs) zero zero w u e = inl (refl, cc)
get_set (x ∷ xs) zero (suc j) w u e = inr ((λ h. cc), e)
get_set (x ∷ xs) (suc i) zero w u e = inr ((λ h. cc), e)
get_set (x ∷ xs) (suc i) (suc j) w u e = ⊎_elim (λ h. inl (ap suc h.0, h.1)) (λ h. inr ((λ k. h.0 (cc)), h.1))
    (get_set xs i j w u e)

pub get_set_here : {A : Type 0} (xs : List A) (i : ℕ) (v w : A) → slice_get xs i ≡ Some v → slice_get (set xs i w) i
    ≡ Some w
get_set_here [] i v w e = absurd (let z : None ≡ Some v = e in cc)
get_set_here (x ∷ xs) zero v w e = refl
get_set_here (x ∷ xs) (suc i) v w e = get_set_here xs i v w e

-- the items at two different positions add at most the total
pub total_two : {A : Type 0} (f : A → ℕ) (xs : List A) (i j : ℕ) (v w : A) → i ≢ j → slice_get xs i ≡ Some v
    → slice_get xs j ≡ Some w → f v + f w ≤ total f xs
unfolding total
total_two f [] i j v w n e d = absurd (let z : None ≡ Some v = e in cc)
total_two f (x ∷ xs) zero zero v w n e d = absurd (n refl)
total_two f (x ∷ xs) zero (suc j) v w n e d = let s : x ≡ v = cc in let t : f x ≡ f v = ap f s
    in let r = total_at f xs j w d in omega arith
total_two f (x ∷ xs) (suc i) zero v w n e d = let s : x ≡ w = cc in let t : f x ≡ f w = ap f s
    in let r = total_at f xs i v e in omega arith
total_two f (x ∷ xs) (suc i) (suc j) v w n e d = let r = total_two f xs i j v w (λ h. n (ap suc h)) e d in omega arith

-- a total above 0 has an item that adds something
pub some_part : {A : Type 0} (f : A → ℕ) (xs : List A) → 0 < total f xs → (i : ℕ) × (x : A) × (slice_get xs i ≡ Some x)
    × (0 < f x)
unfolding total
some_part f [] h = absurd (omega arith)
some_part {A = A} f (x ∷ xs) h = go (f x) refl (λ k. some_part f xs k) where
  go : (n : ℕ) → f x ≡ n → (0 < total f xs → (i : ℕ) × (y : A) × (slice_get xs i ≡ Some y) × (0 < f y)) → (i : ℕ)
      × (y : A) × (slice_get (x ∷ xs) i ≡ Some y) × (0 < f y)
  go (suc n) e rest = (0, x, refl, omega arith)
  go zero e rest = let r = rest (omega arith) in (suc r.0, r.1, r.2, r.3)

-- few enough passes and holds that a count has room
pub total_few : {A : Type 0} (f : A → ℕ) (m : ℕ) (xs : List A) → ((a : ℕ) (x : A) → slice_get xs a ≡ Some x → f x ≤ m)
    → total f xs ≤ length xs * m
unfolding total
total_few f m [] h = omega arith
total_few f m (x ∷ xs) h = let one = h 0 x refl in let rest = total_few f m xs (λ a y e. h (suc a) y e) in omega arith

pub total_length : {A : Type 0} (f : A → ℕ) → ((x : A) → f x ≤ 1) → (xs : List A) → total f xs ≤ length xs
unfolding total
total_length f h [] = omega arith
total_length f h (x ∷ xs) = let one = h x in let rest = total_length f h xs in omega arith

-- if only owners have something, the total is 0 without an owner, and with one owner it is what that one has
pub zero_all : {A : Type 0} (f g : A → ℕ) → (xs : List A) → ((j : ℕ) (x : A) → slice_get xs j ≡ Some x → g x ≡ 0 → f x
    ≡ 0) → total g xs ≡ 0 → total f xs ≡ 0
unfolding total
zero_all f g [] h e = refl
zero_all f g (x ∷ xs) h e = let a = h 0 x refl (omega arith) in let b = zero_all f g xs (λ j y at. h (suc j) y at)
    (omega arith) in omega arith

pub total_alone : {A : Type 0} (f g : A → ℕ) (xs : List A) (i : ℕ) (v : A)
    → ((j : ℕ) (x : A) → slice_get xs j ≡ Some x → g x ≡ 0 → f x ≡ 0) → slice_get xs i ≡ Some v → total g xs ≤ 1
    → 0 < g v → total f xs ≡ f v
unfolding total
total_alone f g [] i v h e one some = absurd (let z : None ≡ Some v = e in cc)
total_alone f g (x ∷ xs) zero v h e one some =
    let s : x ≡ v = cc in
    let t : g x ≡ g v = ap g s in
    let u : f x ≡ f v = ap f s in
    let r = zero_all f g xs (λ j y at. h (suc j) y at) (omega arith) in omega arith
total_alone f g (x ∷ xs) (suc i) v h e one some =
    let at = total_at g xs i v e in
    let r = total_alone f g xs i v (λ j y at. h (suc j) y at) e (omega arith) some in
    let z = h 0 x refl (omega arith) in omega arith
