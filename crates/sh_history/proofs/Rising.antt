-- Lists in an order by keys: a number that the order sees rise does not fall along the list.
use Rattle.std.proofs.Common.{◌≡◌, ℕ, ◌<◌, ◌≤◌, Bool, true, false, inl, inr, List, get_or, refl, sym, ◌∙◌, arith}
use Rattle.std.proofs.lemmas.Bool.{true≢false}
use Rattle.std.proofs.lemmas.Bool.Decides.{leb_tells, nat_tests}
use Rattle.std.proofs.lemmas.List.Sorted.{sorted_far, ranks_by}
use Rattle.std.specs.List.Sorted.{IsSortedByKey, IsNonDecreasingBy}
use Rattle.std.specs.Ordering.{is_lt, nat_cmp, ordering_then}
use Rattle.std.specs.declared.cmp.Ordering.{Ordering}
use Rattle.std.specs.declared.cmp.Ordering.TheVariants.{Less}
use Rattle.std.specs.Cmp.{IsTotalOrder}

is_less : (m n : ℕ) → m < n → nat_cmp m n ≡ Less
is_less m n h = grind (arith, nat_tests)

-- an order by numbers first sees them rise
pub first_less : (m n : ℕ) (o : Ordering) → m < n → is_lt (ordering_then (nat_cmp m n) o) ≡ true
first_less m n o h = rw (is_less m n h) refl

not_above : (a b : ℕ) (t : Bool) → t ≡ false → (a < b → t ≡ true) → b ≤ a
not_above a b t off on =
    elim (leb_tells b a) [ inl h ↦ h.1 | inr h ↦ absurd (true≢false (sym (on h.1) ∙ off)) ]

-- if a list is sorted by an order that sees each fall of a number, that number does not fall along the list
pub rises_by_key : {X K : Type 0} (key : X → K) (n : X → ℕ) (R : K → K → Ordering) → IsTotalOrder R
    → ((x y : X) → n y < n x → is_lt (R (key y) (key x)) ≡ true) → (xs : List X) → IsSortedByKey key R xs
    → IsNonDecreasingBy n xs
rises_by_key key n R o falls xs sorted = λ i j d up below.
    let far = sorted_far (λ x y. is_lt (R (key x) (key y))) (ranks_by o key) xs sorted i j d up below in
    not_above (n (get_or xs j d)) (n (get_or xs i d)) _ far (falls (get_or xs i d) (get_or xs j d))
