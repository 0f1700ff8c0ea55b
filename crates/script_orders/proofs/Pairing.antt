-- Lists that go together.
use Rattle.std.proofs.Common.{◌≡◌, ℕ, ◌+◌, List, [], ◌∷◌, ◌++◌, map, refl, sym, ◌∙◌}
use Rattle.std.specs.List.{sum_by, flat_map}
use Rattle.std.proofs.lemmas.List.Sums.{sum_by-cons}
use Rattle.script_orders.specs.Steps.{is_empty}
use Rattle.script_orders.specs.Weights.{Pairs}

pub pairs_none : {A B : Type 0} (R : A → B → Type 0) → Pairs R [] []
unfolding Pairs
pairs_none R = tt

pub pairs_one : {A B : Type 0} (R : A → B → Type 0) (x : A) (y : B) → R x y → Pairs R (x ∷ []) (y ∷ [])
unfolding Pairs
pairs_one R x y h = (h, tt)

pub pairs_append : {A B : Type 0} (R : A → B → Type 0) (xs us : List A) (ys vs : List B) → Pairs R xs ys → Pairs R us vs
    → Pairs R (xs ++ us) (ys ++ vs)
unfolding Pairs
pairs_append R [] us [] vs h k = k
pairs_append R [] us (y ∷ ys) vs h k = absurd h
pairs_append R (x ∷ xs) us [] vs h k = absurd h
pairs_append R (x ∷ xs) us (y ∷ ys) vs h k = (h.0, pairs_append R xs us ys vs h.1 k)

pub pairs_also : {A B : Type 0} (R Q : A → B → Type 0) → ((x : A) (y : B) → R x y → Q x y) → (xs : List A) (ys : List B)
    → Pairs R xs ys → Pairs Q xs ys
unfolding Pairs
pairs_also R Q f [] [] h = tt
pairs_also R Q f [] (y ∷ ys) h = absurd h
pairs_also R Q f (x ∷ xs) [] h = absurd h
pairs_also R Q f (x ∷ xs) (y ∷ ys) h = (f x y h.0, pairs_also R Q f xs ys h.1)

pub pairs_map : {A B C : Type 0} (R : C → B → Type 0) (f : A → C) (xs : List A) (ys : List B)
    → Pairs (λ x y. R (f x) y) xs ys → Pairs R (map f xs) ys
unfolding Pairs
pairs_map R f [] [] h = tt
pairs_map R f [] (y ∷ ys) h = absurd h
pairs_map R f (x ∷ xs) [] h = absurd h
pairs_map R f (x ∷ xs) (y ∷ ys) h = (h.0, pairs_map R f xs ys h.1)

pub pairs_flat : {A B C D : Type 0} (R : A → B → Type 0) (Q : C → D → Type 0) (f : A → List C) (g : B → List D)
    → ((x : A) (y : B) → R x y → Pairs Q (f x) (g y)) → (xs : List A) (ys : List B) → Pairs R xs ys
    → Pairs Q (flat_map f xs) (flat_map g ys)
unfolding Pairs
pairs_flat R Q f g h [] [] k = tt
pairs_flat R Q f g h [] (y ∷ ys) k = absurd k
pairs_flat R Q f g h (x ∷ xs) [] k = absurd k
pairs_flat R Q f g h (x ∷ xs) (y ∷ ys) k =
    pairs_append Q (f x) (flat_map f xs) (g y) (flat_map g ys) (h x y k.0) (pairs_flat R Q f g h xs ys k.1)

pub pairs_sum : {A B : Type 0} (R : A → B → Type 0) (f : A → ℕ) (g : B → ℕ) → ((x : A) (y : B) → R x y → f x ≡ g y)
    → (xs : List A) (ys : List B) → Pairs R xs ys → sum_by f xs ≡ sum_by g ys
unfolding Pairs
pairs_sum R f g h [] [] k = refl
pairs_sum R f g h [] (y ∷ ys) k = absurd k
pairs_sum R f g h (x ∷ xs) [] k = absurd k
pairs_sum R f g h (x ∷ xs) (y ∷ ys) k =
    let here : f x ≡ g y = h x y k.0 in
    let rest = pairs_sum R f g h xs ys k.1 in
    sum_by-cons f x xs ∙ (λ i. here i + rest i) ∙ sym (sum_by-cons g y ys)

pub pairs_empty_alike : (R : ℕ → ℕ → Type 0) (xs ys : List ℕ) → Pairs R xs ys → is_empty xs ≡ is_empty ys
unfolding Pairs
pairs_empty_alike R [] [] h = refl
pairs_empty_alike R [] (y ∷ ys) h = absurd h
pairs_empty_alike R (x ∷ xs) [] h = absurd h
pairs_empty_alike R (x ∷ xs) (y ∷ ys) h = refl

-- none goes with anything
pub pairs_empty : {A B : Type 0} (R : A → B → Type 0) → ((x : A) (y : B) → R x y → ⊥) → (xs : List A) (ys : List B)
    → Pairs R xs ys → (xs ≡ []) × (ys ≡ [])
unfolding Pairs
pairs_empty R f [] [] h = (refl, refl)
pairs_empty R f [] (y ∷ ys) h = absurd h
pairs_empty R f (x ∷ xs) [] h = absurd h
pairs_empty R f (x ∷ xs) (y ∷ ys) h = absurd (f x y h.0)
