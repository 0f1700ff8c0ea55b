-- Passes that are new.
use Rattle.std.proofs.Common.{◌≡◌, ℕ, zero, suc, ◌+◌, ◌<◌, List, [], ◌∷◌, ◌++◌, map, length, slice_get, Option, Some}
use Rattle.std.proofs.Common.{sym}
use Rattle.std.proofs.Common.{refl, ap, ◌∙◌, subst, ⊎_elim, arith, length-append}
use Rattle.std.specs.Option.{option_map}
use Rattle.std.proofs.lemmas.Option.{none-some, slice_get-map}
use Rattle.script_calls.specs.Parts.{RunTerms, SeenPass, new_pass, new_passes}
use Rattle.script_calls.specs.Parts.{passes_below}
use Rattle.script_calls.specs.Finished.{heap_seen, terms_seen, AreAllNew}
use Rattle.script_calls.proofs.ListLemmas.{get_snoc}
use Rattle.sh_table.specs.Seats.{Heap}

pub newcomers_length : (heap : Option Heap) (terms : RunTerms) (n : ℕ) → length (new_passes heap terms n) ≡ n
newcomers_length heap terms zero = refl
newcomers_length heap terms (suc n) = let h = newcomers_length heap terms n
    in omega (arith, length-append (new_passes heap terms n) (new_pass heap terms n ∷ []))

pub newcomers_get : (heap : Option Heap) (terms : RunTerms) (n k : ℕ) (s : SeenPass)
    → slice_get (new_passes heap terms n) k ≡ Some s → s ≡ new_pass heap terms k
newcomers_get heap terms zero k s e = absurd (none-some s e)
newcomers_get heap terms (suc n) k s e = ⊎_elim
    (λ x. newcomers_get heap terms n k s x)
    (λ (x : (k ≡ length (new_passes heap terms n)) × (new_pass heap terms n ≡ s)). sym x.1
    ∙ ap (new_pass heap terms) (sym (x.0 ∙ newcomers_length heap terms n)))
    (get_snoc (new_passes heap terms n) (new_pass heap terms n) s k e)

pub get_middle : {A : Type 0} (xs : List A) (x : A) (ys : List A) → slice_get (xs ++ x ∷ ys) (length xs) ≡ Some x
get_middle [] x ys = refl
get_middle (z ∷ zs) x ys = get_middle zs x ys

pub length_map : {A B : Type 0} (f : A → B) (xs : List A) → length (map f xs) ≡ length xs
length_map f [] = refl
length_map f (x ∷ xs) = ap suc (length_map f xs)

pub next_newcomer : {S : Type 0} (seen : S → SeenPass) (heap : Option Heap) (terms : RunTerms) (n : ℕ)
    (all ys rest its : List S) (s : S) → map seen all ≡ new_passes heap terms n → all ≡ ys ++ its → its ≡ s ∷ rest
    → seen s ≡ new_pass heap terms (length ys)
next_newcomer seen heap terms n all ys rest its s e f k =
    let at : slice_get all (length ys) ≡ Some s = ap (λ z. slice_get z (length ys)) (f ∙ ap (λ z. ys ++ z) k)
    ∙ get_middle ys s rest in
    let seen_at : slice_get (map seen all) (length ys) ≡ Some (seen s) = slice_get-map seen all (length ys)
    ∙ ap (option_map seen) at in
    newcomers_get heap terms n (length ys) (seen s) (subst (λ (z : List SeenPass). slice_get z (length ys)
    ≡ Some (seen s)) e seen_at)

pub up_more : {S : Type 0} (ys : List S) (s : S) → passes_below (length (ys ++ s ∷ [])) ≡ passes_below (length ys)
    ++ length ys ∷ []
up_more ys s = let e : length (ys ++ s ∷ []) ≡ suc (length ys) = omega (arith, length-append ys (s ∷ []))
    in ap passes_below e

pub all_new : {S : Type 0} (seen : S → SeenPass) (heap : Option Heap) (terms : RunTerms) (n : ℕ) (all ys : List S)
    (k : ℕ) → map seen all ≡ new_passes heap terms n → length ys + k ≡ length all → k ≡ 0 → length ys ≡ n
all_new seen heap terms n all ys k e l z =
    let m : length all ≡ n = sym (length_map seen all) ∙ (ap length e ∙ newcomers_length heap terms n) in
    omega (arith, l, z, m)

-- ---- the heap and the terms of new passes are those of the first

-- each of the first passes is of this heap, if the first one is
one_heap : (heap : Option Heap) (terms : RunTerms) (n : ℕ) → heap_seen (new_passes heap terms (suc n)) ≡ heap
one_heap heap terms zero = refl
one_heap heap terms (suc n) =
    go (new_passes heap terms (suc n)) (new_pass heap terms (suc n)) (one_heap heap terms n) refl
  where
    go : (xs : List SeenPass) (x : SeenPass) → heap_seen xs ≡ heap → x.heap ≡ heap → heap_seen (xs ++ x ∷ []) ≡ heap
    go [] x h e = e
    go (y ∷ ys) x h e = h

one_terms : (heap : Option Heap) (terms : RunTerms) (n : ℕ) → terms_seen (new_passes heap terms (suc n)) ≡ terms
one_terms heap terms zero = refl
one_terms heap terms (suc n) =
    go (new_passes heap terms (suc n)) (new_pass heap terms (suc n)) (one_terms heap terms n) refl
  where
    go : (xs : List SeenPass) (x : SeenPass) → terms_seen xs ≡ terms → x.terms ≡ terms
        → terms_seen (xs ++ x ∷ []) ≡ terms
    go [] x h e = e
    go (y ∷ ys) x h e = h

pub heap_of_new : (heap : Option Heap) (terms : RunTerms) (n : ℕ) (ss : List SeenPass) → 0 < n
    → ss ≡ new_passes heap terms n → heap_seen ss ≡ heap
heap_of_new heap terms zero ss some e = absurd (let z : 0 < 0 = some in omega (arith, z))
heap_of_new heap terms (suc n) ss some e = ap heap_seen e ∙ one_heap heap terms n

pub terms_of_new : (heap : Option Heap) (terms : RunTerms) (n : ℕ) (ss : List SeenPass) → 0 < n
    → ss ≡ new_passes heap terms n → terms_seen ss ≡ terms
terms_of_new heap terms zero ss some e = absurd (let z : 0 < 0 = some in omega (arith, z))
terms_of_new heap terms (suc n) ss some e = ap terms_seen e ∙ one_terms heap terms n

-- all passes of a heap
pub opened_passes : (heap : Option Heap) (terms : RunTerms) (ss : List SeenPass) → 0 < terms.shape.passes
    → ss ≡ new_passes heap terms terms.shape.passes → AreAllNew ss
opened_passes heap terms ss some e =
    rw (heap_of_new heap terms terms.shape.passes ss some e, terms_of_new heap terms terms.shape.passes ss some e) e
