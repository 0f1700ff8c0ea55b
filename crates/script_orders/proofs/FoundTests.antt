-- Replies are compared line by line.
use Rattle.std.proofs.Common.{◌≡◌, ◌&&◌, ℕ, true, List, [], ◌∷◌, map, refl, Vec, Global, vec_items}
use lib.Dec.{eqb}
use Rattle.std.specs.Cmp.Lexicographic.{pointwise}
use Rattle.std.proofs.lemmas.Slice.Eq.{bytes_eq-Decides}
use Rattle.sh_step.proofs.Truths.{no_bool, and2}

pub same_replies : (xs ys : List (Vec ℕ Global))
    → pointwise (λ (x y : Vec ℕ Global). pointwise eqb x.items y.items) xs ys ≡ true
    → map vec_items xs ≡ map vec_items ys
same_replies [] [] h = refl
same_replies [] (y ∷ ys) h = no_bool h
same_replies (x ∷ xs) [] h = no_bool h
same_replies (x ∷ xs) (y ∷ ys) h =
    let k = and2 (pointwise eqb x.items y.items)
    (pointwise (λ (x y : Vec ℕ Global). pointwise eqb x.items y.items) xs ys) h in
    let here = (bytes_eq-Decides x.items y.items).0 k.0 in
    let rest = same_replies xs ys k.1 in λ i. here i ∷ rest i

pub replies_are_same : (xs ys : List (Vec ℕ Global)) → map vec_items xs ≡ map vec_items ys
    → pointwise (λ (x y : Vec ℕ Global). pointwise eqb x.items y.items) xs ys ≡ true
replies_are_same [] [] h = refl
replies_are_same [] (y ∷ ys) h = absurd (let z : [] ≡ map vec_items (y ∷ ys) = h in cc)
replies_are_same (x ∷ xs) [] h = absurd (let z : map vec_items (x ∷ xs) ≡ [] = h in cc)
replies_are_same (x ∷ xs) (y ∷ ys) h =
    let one : x.items ≡ y.items = let z : x.items ∷ map vec_items xs ≡ y.items ∷ map vec_items ys = h in cc in
    let rest : map vec_items xs ≡ map vec_items ys =
    let z : x.items ∷ map vec_items xs ≡ y.items ∷ map vec_items ys = h in cc in
    let here = (bytes_eq-Decides x.items y.items).1 one in
    let more = replies_are_same xs ys rest in
    λ i. here i && more i
