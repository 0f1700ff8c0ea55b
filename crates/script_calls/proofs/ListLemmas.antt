-- Lists by their numbers, and the beginnings of lists.
use Rattle.std.proofs.Common.{◌≡◌, ℕ, zero, suc, ◌<◌, ◌≤◌, ◌⊎◌, List, [], ◌∷◌, ◌++◌, length, map, take}
use Rattle.std.proofs.Common.{slice_get, Some, refl, ap, sym, ◌∙◌, inl, inr, ⊎_elim, arith, length-append}
use mathlib.Core.Logic.{dite}
use native.Mathlib.Decide.{ℕ_discrete}
use Rattle.sh_history.proofs.ByPlace.{get_front, get_last}
use Rattle.sh_table.specs.Views.{Each}
use Rattle.std.proofs.lemmas.Option.{none-some, same_Some}
use Rattle.script_calls.specs.Parts.{passes_below}

pub get_some : {A : Type 0} (xs : List A) (k : ℕ) → k < length xs → (x : A) × (slice_get xs k ≡ Some x)
get_some [] k lt = absurd (omega (arith, lt))
get_some (x ∷ xs) zero lt = (x, refl)
get_some (x ∷ xs) (suc k) lt = get_some xs k (omega (arith, lt))

pub take_at : {A : Type 0} (xs : List A) (i : ℕ) (x : A) → slice_get xs i ≡ Some x → take (suc i) xs ≡ take i xs
    ++ x ∷ []
take_at [] i x e = absurd (none-some x e)
take_at (y ∷ ys) zero x e = ap (λ z. z ∷ []) (same_Some y x e)
take_at (y ∷ ys) (suc i) x e = ap (λ z. y ∷ z) (take_at ys i x e)

pub get_snoc : {A : Type 0} (l : List A) (a b : A) (j : ℕ) → slice_get (l ++ a ∷ []) j ≡ Some b
    → (slice_get l j ≡ Some b) ⊎ ((j ≡ length l) × (a ≡ b))
get_snoc [] a b zero e = inr (refl, same_Some a b e)
get_snoc [] a b (suc j) e = absurd (none-some b e)
get_snoc (x ∷ xs) a b zero e = inl e
get_snoc (x ∷ xs) a b (suc j) e = ⊎_elim inl (λ (t : (j ≡ length xs) × (a ≡ b)). inr (ap suc t.0, t.1))
    (get_snoc xs a b j e)

pub up_length : (n : ℕ) → length (passes_below n) ≡ n
up_length zero = refl
up_length (suc n) = let h = up_length n in omega (arith, length-append (passes_below n) (n ∷ []))

pub take_past : {A : Type 0} (xs : List A) (n : ℕ) → length xs ≤ n → take n xs ≡ xs
take_past [] zero h = refl
take_past [] (suc n) h = refl
take_past (x ∷ xs) zero h = absurd (omega arith)
take_past (x ∷ xs) (suc n) h = ap (λ z. x ∷ z) (take_past xs n (omega arith))

pub map_more : {A B : Type 0} (f : A → B) (xs : List A) (x : A) → map f (xs ++ x ∷ []) ≡ map f xs ++ f x ∷ []
map_more f [] x = refl
map_more f (y ∷ ys) x = ap (λ l. f y ∷ l) (map_more f ys x)

pub each_left : {A : Type 0} (P : A → Type 0) (xs ys : List A) → Each P (xs ++ ys) → Each P xs
each_left P [] ys h = tt
each_left P (x ∷ xs) ys h = (h.0, each_left P xs ys h.1)

pub each_right : {A : Type 0} (P : A → Type 0) (xs ys : List A) → Each P (xs ++ ys) → Each P ys
each_right P [] ys h = h
each_right P (x ∷ xs) ys h = each_right P xs ys h.1

pub up_get : (n p : ℕ) → p < n → slice_get (passes_below n) p ≡ Some p
up_get zero p l = absurd (omega arith)
up_get (suc n) p l = dite (ℕ_discrete p n)
    (λ e. ap (slice_get (passes_below n ++ n ∷ [])) (e ∙ sym (up_length n))
    ∙ (get_last (passes_below n) n ∙ ap (λ (z : ℕ). Some z) (sym e)))
    (λ ne. get_front (passes_below n) (n ∷ []) p p (up_get n p (omega arith)))
