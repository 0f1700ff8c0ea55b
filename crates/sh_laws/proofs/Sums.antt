-- Sums over the numbers below a bound, and over the slots of pages.
use Rattle.std.proofs.Common.{◌≡◌, ℕ, zero, suc, ◌+◌, ◌*◌, ◌<◌, ◌≤◌, ◌==◌, ◌&&◌, Bool, true, false, List, [], ◌∷◌, refl}
use Rattle.std.proofs.Common.{arith, ap, sym, ◌∙◌, eqb-true, ne_eqb}
use Rattle.std.proofs.lemmas.Bool.Decides.{nat_tests}
use Rattle.sh_step.specs.Collections.{total, if1}
use Rattle.sh_core.specs.Lists.{among, slots_under}
use Rattle.sh_step.specs.Plans.{Plan, heap_pages}
use Rattle.sh_slots.specs.declared.hand.SlotRef.{SlotRef}
use Rattle.sh_slots.specs.Slots.{same_slot, slot_refs}
use Rattle.sh_core.specs.Worlds.{World}
use Rattle.sh_core.proofs.Sums.Tests.{if1_few}
use Rattle.sh_core.proofs.Sums.Totals.{total_le, total_plus}
use Rattle.sh_laws.specs.Garbage.{sum_below}

-- ---- numbers below a bound

pub below_le : (f g : ℕ → ℕ) (n : ℕ) → ((i : ℕ) → i < n → f i ≤ g i) → sum_below f n ≤ sum_below g n
unfolding sum_below
below_le f g zero each = omega arith
below_le f g (suc n) each =
    let rest = below_le f g n (λ i less. each i (omega (arith, less))) in
    let last = each n (omega arith) in omega (arith, rest, last)

pub below_plus : (f g : ℕ → ℕ) (n : ℕ) → sum_below (λ i. f i + g i) n ≡ sum_below f n + sum_below g n
unfolding sum_below
below_plus f g zero = omega arith
below_plus f g (suc n) = let rest = below_plus f g n in omega (arith, rest)

pub below_at : (f : ℕ → ℕ) (n i : ℕ) → i < n → f i ≤ sum_below f n
unfolding sum_below
below_at f zero i less = absurd (omega (arith, less))
below_at f (suc n) i less = go (i == n) refl (λ low. below_at f n i low) where
  go : (b : Bool) → (i == n) ≡ b → (i < n → f i ≤ sum_below f n) → f i ≤ sum_below f n + f n
  go true is rest = let same : f i ≡ f n = ap f (eqb-true i n is) in omega (arith, same)
  go false is rest = let low : i < n = grind (arith, nat_tests, is, less) in let r = rest low in omega (arith, r)

pub below_ones : (n : ℕ) → sum_below (λ i. 1) n ≡ n
unfolding sum_below
below_ones zero = refl
below_ones (suc n) = let rest = below_ones n in omega (arith, rest)

pub below_zero : (n : ℕ) → sum_below (λ i. 0) n ≡ 0
unfolding sum_below
below_zero zero = refl
below_zero (suc n) = let rest = below_zero n in omega (arith, rest)

pub below_times : (m : ℕ) (f : ℕ → ℕ) (n : ℕ) → sum_below (λ i. m * f i) n ≡ m * sum_below f n
unfolding sum_below
below_times m f zero = omega arith
below_times m f (suc n) = let rest = below_times m f n in omega (arith, rest)

-- two sums of the same numbers
below_same : (f g : ℕ → ℕ) (n : ℕ) → ((i : ℕ) → f i ≡ g i) → sum_below f n ≡ sum_below g n
unfolding sum_below
below_same f g zero each = refl
below_same f g (suc n) each =
    let rest = below_same f g n each in
    let last = each n in omega (arith, rest, last)

-- a test that one number passes
below_past : (m n : ℕ) → n ≤ m → sum_below (λ i. if1 (i == m)) n ≡ 0
unfolding sum_below
below_past m zero low = refl
below_past m (suc n) low =
    let rest = below_past m n (omega (arith, low)) in
    let other : if1 (n == m) ≡ 0 = ap if1 (ne_eqb n m (λ e. omega (arith, e, low))) in omega (arith, rest, other)

pub below_once : (m n : ℕ) → sum_below (λ i. if1 (i == m)) n ≤ 1
unfolding sum_below
below_once m zero = omega arith
below_once m (suc n) = go (n == m) refl (below_once m n) where
  go : (b : Bool) → (n == m) ≡ b → sum_below (λ i. if1 (i == m)) n ≤ 1
      → sum_below (λ i. if1 (i == m)) n + if1 (n == m) ≤ 1
  go true is rest =
      let same = eqb-true n m is in
      let none = below_past m n (omega (arith, same)) in
      let one = if1_few (n == m) in omega (arith, none, one)
  go false is rest = let none : if1 (n == m) ≡ 0 = ap if1 is in omega (arith, rest, none)

-- ---- sums in the other order

total_zero : {A : Type 0} (xs : List A) → total (λ (x : A). 0) xs ≡ 0
unfolding total
total_zero [] = refl
total_zero (x ∷ xs) = let rest = total_zero xs in omega (arith, rest)

pub total_times : {A : Type 0} (m : ℕ) (f : A → ℕ) (xs : List A) → total (λ (x : A). m * f x) xs ≡ m * total f xs
unfolding total
total_times m f [] = omega arith
total_times m f (x ∷ xs) = let rest = total_times m f xs in omega (arith, rest)

pub total_swap : {A B : Type 0} (g : A → B → ℕ) (xs : List A) (ys : List B)
    → total (λ (x : A). total (g x) ys) xs ≡ total (λ (y : B). total (λ (x : A). g x y) xs) ys
unfolding total
total_swap g [] ys = sym (total_zero ys)
total_swap {A = A} {B = B} g (x ∷ xs) ys =
    let rest = total_swap g xs ys in
    let both = total_plus (g x) (λ (y : B). total (λ (z : A). g z y) xs) ys in omega (arith, rest, both)

pub below_swap : {B : Type 0} (g : ℕ → B → ℕ) (n : ℕ) (ys : List B)
    → sum_below (λ i. total (g i) ys) n ≡ total (λ (y : B). sum_below (λ i. g i y) n) ys
unfolding sum_below
below_swap g zero ys = sym (total_zero ys)
below_swap {B = B} g (suc n) ys =
    let rest = below_swap g n ys in
    let both = total_plus (λ (y : B). sum_below (λ i. g i y) n) (g n) ys in omega (arith, rest, both)

-- ---- the slots of the heap: of each page, those of its class

module _ (plan : Plan) (w : World) where
  abbrev pub on_page : (SlotRef → ℕ) → ℕ → ℕ
  on_page f q = among q f (slots_under (w.words.class_at q))

  abbrev pub over : (SlotRef → ℕ) → ℕ
  over f = sum_below (on_page f) (heap_pages plan)

  abbrev slots_of : ℕ → List SlotRef
  slots_of q = slot_refs q 0 (slots_under (w.words.class_at q))

  pub over_le : (f g : SlotRef → ℕ) → ((x : SlotRef) → f x ≤ g x) → over f ≤ over g
  over_le f g each = below_le (on_page f) (on_page g) (heap_pages plan) (λ q less. total_le f g each (slots_of q))

  pub over_plus : (f g : SlotRef → ℕ) → over (λ x. f x + g x) ≡ over f + over g
  over_plus f g =
      below_same (on_page (λ x. f x + g x)) (λ q. on_page f q + on_page g q) (heap_pages plan)
      (λ q. total_plus f g (slots_of q))
      ∙ below_plus (on_page f) (on_page g) (heap_pages plan)

  pub over_swap : {B : Type 0} (g : SlotRef → B → ℕ) (ys : List B)
      → over (λ x. total (g x) ys) ≡ total (λ (y : B). over (λ x. g x y)) ys
  over_swap {B = B} g ys =
      below_same (on_page (λ x. total (g x) ys)) (λ q. total (λ (y : B). on_page (λ x. g x y) q) ys) (heap_pages plan)
      (λ q. total_swap g (slots_of q) ys)
      ∙ below_swap (λ q (y : B). on_page (λ x. g x y) q) (heap_pages plan) ys

  pub over_none : over (λ x. 0) ≡ 0
  over_none =
      below_same (on_page (λ x. 0)) (λ q. 0) (heap_pages plan) (λ q. total_zero (slots_of q))
      ∙ below_zero (heap_pages plan)

-- a slot is met once at most
past_slot : (y : SlotRef) (q s n : ℕ) → y.slot < s → total (λ x. if1 (same_slot x y)) (slot_refs q s n) ≡ 0
unfolding total slot_refs
past_slot y q s zero low = refl
past_slot y q s (suc n) low =
    let rest = past_slot y q (s + 1) n (omega (arith, low)) in
    let other : (s == y.slot) ≡ false = ne_eqb s y.slot (λ e. omega (arith, e, low)) in
    go (q == y.page) other rest where
      go : (b : Bool) → (s == y.slot) ≡ false → total (λ x. if1 (same_slot x y)) (slot_refs q (s + 1) n) ≡ 0
          → if1 (b && (s == y.slot)) + total (λ x. if1 (same_slot x y)) (slot_refs q (s + 1) n) ≡ 0
      go true other rest = let none : if1 (s == y.slot) ≡ 0 = ap if1 other in omega (arith, rest, none)
      go false other rest = omega (arith, rest)

slot_once : (y : SlotRef) (q s n : ℕ) → total (λ x. if1 (same_slot x y)) (slot_refs q s n) ≤ if1 (q == y.page)
unfolding total slot_refs
slot_once y q s zero = omega arith
slot_once y q s (suc n) = go (q == y.page) (s == y.slot) refl (slot_once y q (s + 1) n) where
  go : (b c : Bool) → (s == y.slot) ≡ c → total (λ x. if1 (same_slot x y)) (slot_refs q (s + 1) n) ≤ if1 b
      → if1 (b && (s == y.slot)) + total (λ x. if1 (same_slot x y)) (slot_refs q (s + 1) n) ≤ if1 b
  go true true is rest =
      let same = eqb-true s y.slot is in
      let none = past_slot y q (s + 1) n (omega (arith, same)) in
      let one = if1_few (s == y.slot) in omega (arith, none, one)
  go true false is rest = let none : if1 (s == y.slot) ≡ 0 = ap if1 is in omega (arith, rest, none)
  go false c is rest = omega (arith, rest)

pub over_once : (plan : Plan) (w : World) (y : SlotRef) → over plan w (λ x. if1 (same_slot x y)) ≤ 1
over_once plan w y =
    let page = below_le (on_page plan w (λ x. if1 (same_slot x y))) (λ q. if1 (q == y.page)) (heap_pages plan)
    (λ q less. slot_once y q 0 (slots_under (w.words.class_at q))) in
    let one = below_once y.page (heap_pages plan) in omega (arith, page, one)
