-- The slots that one run of own slots represents.
use Rattle.std.proofs.Common.{◌≡◌, ℕ, zero, suc, ◌+◌, ◌-◌, ◌*◌, ◌/◌, ◌%◌, ◌^◌, ◌<◌, ◌≤◌, ◌==◌, ◌&&◌, ◌||◌, Bool, true}
use Rattle.std.proofs.Common.{false, cond, List, [], ◌∷◌, refl, sym, ap, ◌∙◌, arith, pow_pos}
use Rattle.std.specs.Prelude.{nat_lt, length}
use Rattle.std.proofs.lemmas.Bool.{and_left, and_right}
use Rattle.std.proofs.lemmas.Bool.Decides.{nat_tests}
use Rattle.std.proofs.Math.Nat.{div-div-eq-div-mul, div-eq_of_lt, div-one, pow-succ'}
use Rattle.sh_slots.specs.declared.hand.SlotRef.{SlotRef}
use Rattle.sh_slots.specs.Slots.{same_slot, slot_refs}
use Rattle.sh_step.specs.declared.part.run.Run.{Run}
use Rattle.sh_step.specs.Collections.{has, without, off}
use Rattle.sh_step.specs.Runs.{odd, picked, slots_of}

-- ---- an item that is not the one sought

has_skips : (x y : SlotRef) (c : Bool) (ys : List SlotRef) → same_slot x y ≡ false
    → has (same_slot x) (cond c (y ∷ ys) ys) ≡ has (same_slot x) ys
unfolding has
has_skips x y true ys other = ap (λ b. b || has (same_slot x) ys) other
has_skips x y false ys other = refl

without_skips : (x y : SlotRef) (c : Bool) (ys : List SlotRef) → same_slot x y ≡ false
    → without (same_slot x) (cond c (y ∷ ys) ys) ≡ cond c (y ∷ without (same_slot x) ys) (without (same_slot x) ys)
unfolding without
without_skips x y true ys other = ap (λ b. cond b ys (y ∷ without (same_slot x) ys)) other
without_skips x y false ys other = refl

other_page : (x y : SlotRef) → (x.page == y.page) ≡ false → same_slot x y ≡ false
other_page x y other = and_left (x.page == y.page) (x.slot == y.slot) other

other_slot : (x y : SlotRef) → (x.slot == y.slot) ≡ false → same_slot x y ≡ false
other_slot x y other = and_right (x.page == y.page) (x.slot == y.slot) other

-- ---- which slots a run has

pub none_of_other_pages : (x : SlotRef) (q s n b : ℕ) → (x.page == q) ≡ false
    → has (same_slot x) (picked q s n b) ≡ false
unfolding picked has
none_of_other_pages x q s zero b other = refl
none_of_other_pages x q s (suc n) b other =
    let y : SlotRef = record { page = q; slot = s } in
    has_skips x y (odd b) (picked q (s + 1) n (b / 2)) (other_page x y other)
    ∙ none_of_other_pages x q (s + 1) n (b / 2) other

pub none_before : (x : SlotRef) (q s n b : ℕ) → x.slot < s → has (same_slot x) (picked q s n b) ≡ false
unfolding picked has
none_before x q s zero b before = refl
none_before x q s (suc n) b before =
    let y : SlotRef = record { page = q; slot = s } in
    let other : (x.slot == s) ≡ false = grind (arith, nat_tests) in
    has_skips x y (odd b) (picked q (s + 1) n (b / 2)) (other_slot x y other)
    ∙ none_before x q (s + 1) n (b / 2) (omega arith)

pub none_behind : (x : SlotRef) (q s n b : ℕ) → s + n ≤ x.slot → has (same_slot x) (picked q s n b) ≡ false
unfolding picked has
none_behind x q s zero b behind = refl
none_behind x q s (suc n) b behind =
    let y : SlotRef = record { page = q; slot = s } in
    let other : (x.slot == s) ≡ false = grind (arith, nat_tests) in
    has_skips x y (odd b) (picked q (s + 1) n (b / 2)) (other_slot x y other)
    ∙ none_behind x q (s + 1) n (b / 2) (omega arith)

-- the digit above i digits, of a number and of its half
digit_above : (b i : ℕ) → b / 2 ^ suc i ≡ b / 2 / 2 ^ i
digit_above b i = ap (λ k. b / k) (pow-succ' 2 i) ∙ sym (div-div-eq-div-mul b 2 (2 ^ i))

last_digit : (b : ℕ) → b / 2 ^ 0 ≡ b
last_digit b = div-one b

has_by_digit : (q s n b i : ℕ) → i < n → has (same_slot (record { page = q; slot = s + i })) (picked q s n b)
    ≡ odd (b / 2 ^ i)
unfolding picked has
has_by_digit q s zero b i within = absurd (omega arith)
has_by_digit q s (suc n) b zero within = go (odd b) ∙ ap odd (sym (last_digit b)) where
  here : same_slot (record { page = q; slot = s + 0 }) (record { page = q; slot = s }) ≡ true
  here = let p : (q == q) ≡ true = grind (arith, nat_tests) in let e : (s + 0 == s) ≡ true = grind (arith, nat_tests)
      in ap (λ b. b && (s + 0 == s)) p ∙ e

  rest : has (same_slot (record { page = q; slot = s + 0 })) (picked q (s + 1) n (b / 2)) ≡ false
  rest = none_before (record { page = q; slot = s + 0 }) q (s + 1) n (b / 2) (omega arith)

  go : (c : Bool) → has (same_slot (record { page = q; slot = s + 0 }))
      (cond c (record { page = q; slot = s } ∷ picked q (s + 1) n (b / 2)) (picked q (s + 1) n (b / 2))) ≡ c
  go true = ap (λ c. c || has (same_slot (record { page = q; slot = s + 0 })) (picked q (s + 1) n (b / 2))) here
  go false = rest
has_by_digit q s (suc n) b (suc i) within =
    let x : SlotRef = record { page = q; slot = s + suc i } in
    let y : SlotRef = record { page = q; slot = s } in
    let other : (s + suc i == s) ≡ false = grind (arith, nat_tests) in
    let next : s + suc i ≡ s + 1 + i = omega arith in
    has_skips x y (odd b) (picked q (s + 1) n (b / 2)) (other_slot x y other)
    ∙ (ap (λ (k : ℕ). has (same_slot (record { page = q; slot = k })) (picked q (s + 1) n (b / 2))) next
    ∙ (has_by_digit q (s + 1) n (b / 2) i (omega arith) ∙ ap odd (sym (digit_above b i))))

-- if a slot is in a run, and if it is not
same_place : (x : SlotRef) (r : Run) → x.page ≡ r.page → r.first ≤ x.slot
    → x ≡ record { page = r.page; slot = r.first + (x.slot - r.first) }
same_place x r page first =
    let s : x.slot ≡ r.first + (x.slot - r.first) = omega arith in
    ap (λ (k : ℕ). record { page = x.page; slot = k }) s
    ∙ ap (λ (q : ℕ). record { page = q; slot = r.first + (x.slot - r.first) }) page

pub has_of_run : (x : SlotRef) (r : Run) → x.page ≡ r.page → r.first ≤ x.slot → x.slot - r.first < 64
    → has (same_slot x) (slots_of r) ≡ odd (r.bits / 2 ^ (x.slot - r.first))
has_of_run x r page first within =
    let same = same_place x r page first in
    ap (λ (y : SlotRef). has (same_slot y) (slots_of r)) same
    ∙ has_by_digit r.page r.first 64 r.bits (x.slot - r.first) within

-- a slot of a run is of its page, and one of its 64
pub record InPlace (x : SlotRef) (r : Run) : Type 0 where
  pub page : x.page ≡ r.page
  pub first : r.first ≤ x.slot
  pub within : x.slot - r.first < 64

pub in_place : (x : SlotRef) (r : Run) → has (same_slot x) (slots_of r) ≡ true → InPlace x r
in_place x r there = record {
  page = page (x.page == r.page) refl;
  first = first (nat_lt x.slot r.first) refl;
  within = within (nat_lt x.slot (r.first + 64)) refl;
} where
  page : (b : Bool) → (x.page == r.page) ≡ b → x.page ≡ r.page
  page true is = grind (arith, nat_tests)
  page false is = absurd (let f : true ≡ false = sym there ∙ none_of_other_pages x r.page r.first 64 r.bits is
      in let no : ⊥ = cc in no)

  first : (b : Bool) → nat_lt x.slot r.first ≡ b → r.first ≤ x.slot
  first true is = let less : x.slot < r.first = grind (arith, nat_tests) in
      absurd (let f : true ≡ false = sym there ∙ none_before x r.page r.first 64 r.bits less in let no : ⊥ = cc in no)
  first false is = grind (arith, nat_tests)

  within : (b : Bool) → nat_lt x.slot (r.first + 64) ≡ b → x.slot - r.first < 64
  within true is = let less : x.slot < r.first + 64 = grind (arith, nat_tests) in omega arith
  within false is = let more : r.first + 64 ≤ x.slot = grind (arith, nat_tests) in
      absurd (let f : true ≡ false = sym there ∙ none_behind x r.page r.first 64 r.bits more in let no : ⊥ = cc in no)

-- ---- one slot less

-- a digit that is 1 is worth no more than the number
worth : (b i : ℕ) → odd (b / 2 ^ i) ≡ true → 2 ^ i ≤ b
worth b i set = go (nat_lt b (2 ^ i)) refl where
  go : (c : Bool) → nat_lt b (2 ^ i) ≡ c → 2 ^ i ≤ b
  go true is = let less : b < 2 ^ i = grind (arith, nat_tests) in
      let none : b / 2 ^ i ≡ 0 = div-eq_of_lt less in
      absurd (let f : odd 0 ≡ true = sym (ap odd none) ∙ set in let no : ⊥ = cc in no)
  go false is = grind (arith, nat_tests)

without_by_digit : (q s n b i : ℕ) → i < n → odd (b / 2 ^ i) ≡ true
    → without (same_slot (record { page = q; slot = s + i })) (picked q s n b) ≡ picked q s n (b - 2 ^ i)
unfolding picked without
without_by_digit q s zero b i within set = absurd (omega arith)
without_by_digit q s (suc n) b zero within set =
    let set_here : odd b ≡ true = sym (ap odd (last_digit b)) ∙ set in
    let is_odd : b % 2 ≡ 1 = grind (arith, nat_tests) in
    let even_left : odd (b - 2 ^ 0) ≡ false = let r : (b - 1) % 2 ≡ 0 = omega arith in grind (arith, nat_tests) in
    let half : (b - 2 ^ 0) / 2 ≡ b / 2 = let r : (b - 1) / 2 ≡ b / 2 = omega arith in r in
    let x : SlotRef = record { page = q; slot = s + 0 } in
    let y : SlotRef = record { page = q; slot = s } in
    let p : (q == q) ≡ true = grind (arith, nat_tests) in
    let e : (s + 0 == s) ≡ true = grind (arith, nat_tests) in
    let here : same_slot x y ≡ true = ap (λ c. c && (s + 0 == s)) p ∙ e in
    let rest = picked q (s + 1) n (b / 2) in
    ap (λ c. without (same_slot x) (cond c (y ∷ rest) rest)) set_here
    ∙ (ap (λ c. cond c rest (y ∷ without (same_slot x) rest)) here
    ∙ sym (ap (λ c. cond c (y ∷ picked q (s + 1) n ((b - 2 ^ 0) / 2)) (picked q (s + 1) n ((b - 2 ^ 0) / 2))) even_left
    ∙ ap (λ h. picked q (s + 1) n h) half))
without_by_digit q s (suc n) b (suc i) within set =
    let set_above : odd (b / 2 / 2 ^ i) ≡ true = sym (ap odd (digit_above b i)) ∙ set in
    let enough : 2 ^ i ≤ b / 2 = worth (b / 2) i set_above in
    let twice : 2 ^ suc i ≡ 2 * 2 ^ i = pow-succ' 2 i in
    let same_last : (b - 2 ^ suc i) % 2 ≡ b % 2 = omega arith in
    let same_half : (b - 2 ^ suc i) / 2 ≡ b / 2 - 2 ^ i = omega arith in
    let x : SlotRef = record { page = q; slot = s + suc i } in
    let y : SlotRef = record { page = q; slot = s } in
    let other : (s + suc i == s) ≡ false = grind (arith, nat_tests) in
    let next : s + suc i ≡ s + 1 + i = omega arith in
    let rest = picked q (s + 1) n (b / 2) in
    let left = picked q (s + 1) n (b / 2 - 2 ^ i) in
    let rest_left : without (same_slot x) rest ≡ left =
    ap (λ (k : ℕ). without (same_slot (record { page = q; slot = k })) rest) next
    ∙ without_by_digit q (s + 1) n (b / 2) i (omega arith) set_above in
    without_skips x y (odd b) rest (other_slot x y other)
    ∙ (ap (λ ys. cond (odd b) (y ∷ ys) ys) rest_left
    ∙ sym (ap (λ h. cond (odd (b - 2 ^ suc i)) (y ∷ picked q (s + 1) n h) (picked q (s + 1) n h)) same_half
    ∙ ap (λ k. cond (k == 1) (y ∷ left) left) same_last))

-- a run without a slot that is in it
pub run_less : (x : SlotRef) (r : Run) → has (same_slot x) (slots_of r) ≡ true
    → picked r.page r.first 64 (r.bits - 2 ^ (x.slot - r.first)) ≡ without (same_slot x) (slots_of r)
run_less x r there =
    let p = in_place x r there in
    let first = p.first in
    let set = sym (has_of_run x r p.page p.first p.within) ∙ there in
    let same = same_place x r p.page p.first in
    sym (ap (λ (y : SlotRef). without (same_slot y) (slots_of r)) same
    ∙ without_by_digit r.page r.first 64 r.bits (x.slot - r.first) p.within set)

pub run_worth : (x : SlotRef) (r : Run) → has (same_slot x) (slots_of r) ≡ true → 2 ^ (x.slot - r.first) ≤ r.bits
run_worth x r there =
    let p = in_place x r there in
    worth r.bits (x.slot - r.first) (sym (has_of_run x r p.page p.first p.within) ∙ there)

-- ---- the first slots, one slot, and none

none_picked : (q s n : ℕ) → picked q s n 0 ≡ []
unfolding picked
none_picked q s zero = refl
none_picked q s (suc n) = none_picked q (s + 1) n

pub first_picked : (q s n count : ℕ) → count ≤ n → picked q s n (2 ^ count - 1) ≡ slot_refs q s count
unfolding picked slot_refs
first_picked q s n zero within = none_picked q s n
first_picked q s zero (suc count) within = absurd (omega arith)
first_picked q s (suc n) (suc count) within =
    let twice : 2 ^ suc count ≡ 2 * 2 ^ count = pow-succ' 2 count in
    let some : 0 < 2 ^ count = pow_pos count in
    let last : (2 ^ suc count - 1) % 2 ≡ 1 = omega arith in
    let half : (2 ^ suc count - 1) / 2 ≡ 2 ^ count - 1 = omega arith in
    let y : SlotRef = record { page = q; slot = s } in
    ap (λ h. cond (odd (2 ^ suc count - 1)) (y ∷ picked q (s + 1) n h) (picked q (s + 1) n h)) half
    ∙ (ap (λ k. cond (k == 1) (y ∷ picked q (s + 1) n (2 ^ count - 1)) (picked q (s + 1) n (2 ^ count - 1))) last
    ∙ ap (λ ys. y ∷ ys) (first_picked q (s + 1) n count (omega arith)))

pub one_picked : (q s : ℕ) → picked q s 64 1 ≡ record { page = q; slot = s } ∷ []
unfolding picked
one_picked q s = ap (λ ys. record { page = q; slot = s } ∷ ys) (none_picked q (s + 1) 63)

-- a number of n digits has a digit that is 1, or is 0
pub empty_picked : (q s n b : ℕ) → b < 2 ^ n → (length (picked q s n b) == 0) ≡ (b == 0)
unfolding picked
empty_picked q s zero b small = let z : b ≡ 0 = omega arith in sym (ap (λ k. k == 0) z)
empty_picked q s (suc n) b small =
    let twice : 2 ^ suc n ≡ 2 * 2 ^ n = pow-succ' 2 n in
    go (odd b) refl (empty_picked q (s + 1) n (b / 2) (omega arith)) where
      go : (c : Bool) → odd b ≡ c → (length (picked q (s + 1) n (b / 2)) == 0) ≡ (b / 2 == 0)
          → (length (cond c (record { page = q; slot = s } ∷ picked q (s + 1) n (b / 2))
          (picked q (s + 1) n (b / 2))) == 0)
          ≡ (b == 0)
      go true is rest = let r : b % 2 ≡ 1 = grind (arith, nat_tests) in
          let some : (b == 0) ≡ false = grind (arith, nat_tests) in
          let ys = record { page = q; slot = s } ∷ picked q (s + 1) n (b / 2) in
          let more : (length ys == 0) ≡ false = grind (arith, nat_tests) in more ∙ sym some
      go false is rest = rest ∙ half where
        r : (b % 2 == 1) ≡ false
        r = is

        half : (b / 2 == 0) ≡ (b == 0)
        half = whole (b / 2 == 0) refl where
          whole : (c : Bool) → (b / 2 == 0) ≡ c → c ≡ (b == 0)
          whole true z = let h : b / 2 ≡ 0 = grind (arith, nat_tests) in
              let o : (b % 2 ≡ 1 → ⊥) = grind (arith, nat_tests) in
              let e : b ≡ 0 = omega arith in sym (ap (λ k. k == 0) e)
          whole false z = let some : (b == 0) ≡ false = grind (arith, nat_tests) in sym some

-- ---- without the slots of a page: all slots of a run are of its page

pub off_other : (p q s n b : ℕ) → (q == p) ≡ false → off (λ x. x.page == p) (picked q s n b) ≡ picked q s n b
unfolding picked off
off_other p q s zero b other = refl
off_other p q s (suc n) b other = go (odd b) (off_other p q (s + 1) n (b / 2) other) where
  y : SlotRef
  y = record { page = q; slot = s }

  go : (c : Bool) → off (λ x. x.page == p) (picked q (s + 1) n (b / 2)) ≡ picked q (s + 1) n (b / 2)
      → off (λ x. x.page == p) (cond c (y ∷ picked q (s + 1) n (b / 2)) (picked q (s + 1) n (b / 2)))
      ≡ cond c (y ∷ picked q (s + 1) n (b / 2)) (picked q (s + 1) n (b / 2))
  go true rest = ap (λ c. cond c (off (λ x. x.page == p) (picked q (s + 1) n (b / 2)))
      (y ∷ off (λ x. x.page == p) (picked q (s + 1) n (b / 2)))) other ∙ ap (λ ys. y ∷ ys) rest
  go false rest = rest

pub off_same : (p q s n b : ℕ) → (q == p) ≡ true → off (λ x. x.page == p) (picked q s n b) ≡ []
unfolding picked off
off_same p q s zero b same = refl
off_same p q s (suc n) b same = go (odd b) (off_same p q (s + 1) n (b / 2) same) where
  y : SlotRef
  y = record { page = q; slot = s }

  go : (c : Bool) → off (λ x. x.page == p) (picked q (s + 1) n (b / 2)) ≡ []
      → off (λ x. x.page == p) (cond c (y ∷ picked q (s + 1) n (b / 2)) (picked q (s + 1) n (b / 2))) ≡ []
  go true rest = ap (λ c. cond c (off (λ x. x.page == p) (picked q (s + 1) n (b / 2)))
      (y ∷ off (λ x. x.page == p) (picked q (s + 1) n (b / 2)))) same ∙ rest
  go false rest = rest
