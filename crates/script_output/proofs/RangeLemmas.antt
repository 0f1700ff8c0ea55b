-- Texts of numbered things: one more text.
use Rattle.std.proofs.Common.{◌≡◌, ℕ, ◌+◌, List, [], ◌∷◌, ◌++◌, map, refl, sym, ap, ◌∙◌, append-nil, append_assoc}
use Rattle.std.proofs.Common.{arith}
use Rattle.std.specs.List.{flat_map, range_with_len}
use Rattle.std.proofs.lemmas.List.FromFn.{map-range_with_len_more}
use Rattle.std.proofs.lemmas.Grind.{flat_map-append}

same : (xs : List ℕ) → map (λ x. x) xs ≡ xs
same [] = refl
same (x ∷ xs) = ap (λ l. x ∷ l) (same xs)

range_more : (n : ℕ) → range_with_len 0 (n + 1) ≡ range_with_len 0 n ++ n ∷ []
range_more n = sym (same (range_with_len 0 (n + 1))) ∙ map-range_with_len_more (λ x. x) 0 n n (omega arith)
    ∙ ap (λ l. l ++ n ∷ []) (same (range_with_len 0 n))

pub texts_more : (f : ℕ → List ℕ) (n : ℕ) (old now new : List ℕ) → now ≡ old ++ flat_map f (range_with_len 0 n) → new
    ≡ now ++ f n → new ≡ old ++ flat_map f (range_with_len 0 (n + 1))
texts_more f n old now new a b =
    let one : flat_map f (n ∷ []) ≡ f n = append-nil (f n) in
    let more : flat_map f (range_with_len 0 (n + 1)) ≡ flat_map f (range_with_len 0 n)
    ++ f n = ap (flat_map f) (range_more n) ∙ flat_map-append f (range_with_len 0 n) (n ∷ [])
    ∙ ap (λ l. flat_map f (range_with_len 0 n) ++ l) one in
    b ∙ ap (λ l. l ++ f n) a ∙ append_assoc old (flat_map f (range_with_len 0 n)) (f n) ∙ ap (λ l. old ++ l) (sym more)
