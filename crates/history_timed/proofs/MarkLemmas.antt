-- How many marks come before one, in a list of marks in their order.
use Rattle.std.proofs.Common.{◌≡◌, ◌∙◌, ℕ, ◌+◌, ◌≤◌, Bool, true, false, cond, List, [], ◌∷◌, zero, suc}
use Rattle.std.proofs.Common.{refl, sym, length, get_or, arith}
use Rattle.std.specs.Prelude.{count_by, ltb, leb}
use Rattle.std.specs.List.Sorted.{IsSorted, IsPartitionedBy, IsPartitionPoint}
use Rattle.std.specs.Ordering.{is_lt, is_le, ordering_index}
use Rattle.std.specs.declared.cmp.Ordering.{Ordering}
use Rattle.std.specs.declared.cmp.Ordering.TheVariants.{Less, Equal, Greater}
use Rattle.std.specs.Cmp.{IsTotalOrder}
use Rattle.std.proofs.lemmas.Bool.Decides.{nat_tests}
use Rattle.std.proofs.lemmas.Cmp.{nat_cmp_total, on_total, then_total}
use Rattle.std.proofs.lemmas.List.Sorted.{searchable_from_sorted, IsPartitionedBy-ltb, IsPartitionedBy-leb}
use Rattle.sh_history.proofs.LogLaws.{count_by-cons}
use Rattle.history_timed.specs.declared.marks.Mark.{Mark}
use Rattle.history_timed.specs.Marks.{mark_cmp, comes_before, comes_up_to, moment_below, moment_up_to}

total : IsTotalOrder mark_cmp
total =
    then_total (on_total (λ (m : Mark). m.key) nat_cmp_total)
    (then_total (on_total (λ (m : Mark). m.pass) nat_cmp_total) (on_total (λ (m : Mark). m.moment) nat_cmp_total))

is_before : (o : Ordering) → is_lt o ≡ ltb (ordering_index o) 1
is_before Less = refl
is_before Equal = refl
is_before Greater = refl

is_not_after : (o : Ordering) → is_le o ≡ leb (ordering_index o) 1
is_not_after Less = refl
is_not_after Equal = refl
is_not_after Greater = refl

same_parts : {X : Type 0} (p q : X → Bool) → ((x : X) → p x ≡ q x) → (xs : List X) → IsPartitionedBy q xs
    → IsPartitionedBy p xs
same_parts p q same xs parts i j d up below is =
    same (get_or xs i d) ∙ parts i j d up below (sym (same (get_or xs j d)) ∙ is)

-- the marks up to one stand in front
module _ (xs : List Mark) (sorted : IsSorted mark_cmp xs) (mark : Mark) where
  pub before_in_front : IsPartitionedBy (λ (m : Mark). comes_before m mark) xs
  before_in_front =
      same_parts (λ (m : Mark). comes_before m mark) (λ (m : Mark). ltb (ordering_index (mark_cmp m mark)) 1)
      (λ m. is_before (mark_cmp m mark)) xs
      (IsPartitionedBy-ltb (λ (m : Mark). ordering_index (mark_cmp m mark)) xs 1
      (searchable_from_sorted total (λ (m : Mark). m) xs mark sorted))

  pub through_in_front : IsPartitionedBy (λ (m : Mark). comes_up_to m mark) xs
  through_in_front =
      same_parts (λ (m : Mark). comes_up_to m mark) (λ (m : Mark). leb (ordering_index (mark_cmp m mark)) 1)
      (λ m. is_not_after (mark_cmp m mark)) xs
      (IsPartitionedBy-leb (λ (m : Mark). ordering_index (mark_cmp m mark)) xs 1
      (searchable_from_sorted total (λ (m : Mark). m) xs mark sorted))

-- as many pass as stand in front of the point where they end
pub counted_at : {X : Type 0} (p : X → Bool) (xs : List X) (i : ℕ) → i ≤ length xs
    → IsPartitionPoint (λ (x : X). p x ≡ true) (λ (x : X). p x ≡ false) xs i → i ≡ count_by p xs
counted_at p [] i up parts = omega (arith, up)
counted_at p (x ∷ xs) zero up parts =
    let later = counted_at p xs zero (omega arith) (
      (λ k d low high. absurd (omega (arith, high))),
      (λ k d low high. parts.1 (suc k) d (omega arith) (omega (arith, high))),
    ) in
    rw (count_by-cons p x xs, parts.1 0 x (omega arith) (omega arith)) (omega (arith, later))
counted_at p (x ∷ xs) (suc i) up parts =
    let later = counted_at p xs i (omega (arith, up)) (
      (λ k d low high. parts.0 (suc k) d (omega arith)
          (omega (arith, high))),
      (λ k d low high. parts.1 (suc k) d (omega (arith, low)) (omega (arith, high))),
    ) in
    rw (count_by-cons p x xs, parts.0 0 x (omega arith) (omega arith)) (omega (arith, later))

-- a count is that of two others
two_counts : {X : Type 0} (p q r : X → Bool)
    → ((x : X) → cond (p x) 1 0 ≡ cond (q x) 1 0 + cond (r x) 1 0) → (xs : List X)
    → count_by p xs ≡ count_by q xs + count_by r xs
two_counts p q r both [] = refl
two_counts p q r both (x ∷ xs) =
    let here = both x in
    let later = two_counts p q r both xs in
    rw (count_by-cons p x xs, count_by-cons q x xs, count_by-cons r x xs) (omega (arith, here, later))

below_bit : (key pass moment : ℕ) (m : Mark)
    → cond (comes_before m (record { key = key; pass = pass; moment = moment })) 1 0
    ≡ cond (comes_before m (record { key = key; pass = pass; moment = 0 })) 1 0 + cond (moment_below key pass moment m) 1 0
below_bit key pass moment m = grind (arith, nat_tests)

up_to_bit : (key pass moment : ℕ) (m : Mark)
    → cond (comes_up_to m (record { key = key; pass = pass; moment = moment })) 1 0
    ≡ cond (comes_before m (record { key = key; pass = pass; moment = 0 })) 1 0 + cond (moment_up_to key pass moment m) 1 0
up_to_bit key pass moment m = grind (arith, nat_tests)

-- how many a key and a pass have below a moment, or up to it
module _ (key pass moment : ℕ) (xs : List Mark) where
  pub below_count : count_by (λ (m : Mark). comes_before m (record { key = key; pass = pass; moment = moment })) xs
      ≡ count_by (λ (m : Mark). comes_before m (record { key = key; pass = pass; moment = 0 })) xs
      + count_by (moment_below key pass moment) xs
  below_count = two_counts _ _ _ (below_bit key pass moment) xs

  pub up_to_count : count_by (λ (m : Mark). comes_up_to m (record { key = key; pass = pass; moment = moment })) xs
      ≡ count_by (λ (m : Mark). comes_before m (record { key = key; pass = pass; moment = 0 })) xs
      + count_by (moment_up_to key pass moment) xs
  up_to_count = two_counts _ _ _ (up_to_bit key pass moment) xs
