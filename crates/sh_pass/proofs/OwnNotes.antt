-- What is noted of pages and slots after a change of the lists.
use Rattle.std.proofs.Common.{◌≡◌, ◌≢◌, ℕ, zero, suc, ◌+◌, ◌-◌, ◌==◌, ◌&&◌, ◌||◌, Bool, true, false, cond, Some, None}
use Rattle.std.proofs.Common.{List, [], ◌∷◌, ◌++◌, refl, ap, ◌∙◌, sym, subst, arith, eqb-true, ne_eqb}
use Rattle.std.proofs.Common.{true≢false}
use Rattle.std.specs.Prelude.{nat_lt, nat_le, not}
use Rattle.std.proofs.lemmas.Bool.{and_parts, and_right}
use Rattle.std.proofs.lemmas.Bool.Decides.{nat_tests}
use Rattle.std.proofs.Math.Bool.{and-false, and-true, or-false}
use Rattle.sh_slots.specs.declared.hand.SlotRef.{SlotRef}
use Rattle.sh_slots.specs.Slots.{same_slot, slot_refs}
use Rattle.sh_step.specs.Collections.{has, noted, without, off}
use Rattle.sh_step.specs.Rows.{point, unpoint}
use Rattle.sh_step.proofs.ListLaws.{has_in_both}
use Rattle.sh_history.proofs.Standing.{eqb_self}

pub noted_point : (k q n : ℕ) (xs : List (ℕ × ℕ)) → noted q xs ≡ None → noted q (point k q n xs)
    ≡ cond (nat_lt n k) None (Some (n - k))
unfolding noted
noted_point k q n xs e = go (nat_lt n k) where
  go : (b : Bool) → noted q (cond b xs ((q, n - k) ∷ xs)) ≡ cond b None (Some (n - k))
  go true = e
  go false = ap (λ b. cond b (Some (n - k)) (noted q xs)) (eqb_self q)

pub noted_point_else : (k q n r : ℕ) (xs : List (ℕ × ℕ)) → r ≢ q → noted r (point k q n xs) ≡ noted r xs
unfolding noted
noted_point_else k q n r xs ne = go (nat_lt n k) where
  go : (b : Bool) → noted r (cond b xs ((q, n - k) ∷ xs)) ≡ noted r xs
  go true = refl
  go false = ap (λ b. cond b (Some (n - k)) (noted r xs)) (ne_eqb q r (λ e. ne (sym e)))

pub noted_unpoint_else : (q r : ℕ) (xs : List (ℕ × ℕ)) → r ≢ q → noted r (unpoint q xs) ≡ noted r xs
unfolding noted without
noted_unpoint_else q r [] ne = refl
noted_unpoint_else q r (x ∷ xs) ne = go (x.0 == q) refl (noted_unpoint_else q r xs ne) where
  go : (b : Bool) → (x.0 == q) ≡ b → noted r (unpoint q xs) ≡ noted r xs → noted r (cond b xs (x ∷ unpoint q xs))
      ≡ cond (x.0 == r) (Some x.1) (noted r xs)
  go true e rest = let f : (x.0 == r) ≡ false = ne_eqb x.0 r
      (λ k. ne (let z : x.0 ≡ q = grind (arith, nat_tests) in sym k ∙ z))
      in ap (λ b. cond b (Some x.1) (noted r xs)) (sym f)
  go false e rest = ap (λ o. cond (x.0 == r) (Some x.1) o) rest

pub has_without_else : {A : Type 0} (f g : A → Bool) (xs : List A) → ((x : A) → f x ≡ true → g x ≡ false)
    → has g (without f xs) ≡ has g xs
unfolding has without
has_without_else f g [] h = refl
has_without_else f g (x ∷ xs) h = go (f x) refl (has_without_else f g xs h) where
  go : (b : Bool) → f x ≡ b → has g (without f xs) ≡ has g xs → has g (cond b xs (x ∷ without f xs)) ≡ (g x || has g xs)
  go true e rest = ap (λ b. b || has g xs) (sym (h x e))
  go false e rest = ap (λ b. g x || b) rest

pub disarmed : (q : ℕ) (xs : List ℕ) (b : Bool) → has (λ x. x == q) (without (λ x. x == q) xs) ≡ false
    → has (λ x. x == q) (cond b (without (λ x. x == q) xs) xs) ≡ cond b false (has (λ x. x == q) xs)
disarmed q xs true e = e
disarmed q xs false e = refl

pub disarmed_else : (q r : ℕ) (xs : List ℕ) (b : Bool) → r ≢ q → has (λ x. x == r)
    (cond b (without (λ x. x == q) xs) xs) ≡ has (λ x. x == r) xs
disarmed_else q r xs true ne = has_without_else (λ x. x == q) (λ x. x == r) xs
    (λ x e. ne_eqb x r (λ k. ne (let z : x ≡ q = grind (arith, nat_tests) in sym k ∙ z)))
disarmed_else q r xs false ne = refl

pub armed_else : (q r : ℕ) (xs : List ℕ) → r ≢ q → has (λ x. x == r) (q ∷ xs) ≡ has (λ x. x == r) xs
unfolding has
armed_else q r xs ne = ap (λ b. b || has (λ x. x == r) xs) (ne_eqb q r (λ e. ne (sym e)))

abbrev at : ℕ → ℕ → SlotRef
at q s = record { page = q; slot = s }

pub one_more : (q s t : ℕ) (xs : List SlotRef) → has (same_slot (at q t)) (at q s ∷ xs)
    ≡ ((t == s) || has (same_slot (at q t)) xs)
unfolding has
one_more q s t xs = ap (λ b. (b && (t == s)) || has (same_slot (at q t)) xs) (eqb_self q)

pub one_more_else : (q r s t : ℕ) (xs : List SlotRef) → r ≢ q → has (same_slot (at r t)) (at q s ∷ xs)
    ≡ has (same_slot (at r t)) xs
unfolding has
one_more_else q r s t xs ne = ap (λ b. (b && (t == s)) || has (same_slot (at r t)) xs) (ne_eqb r q ne)

pub one_less_else : (q r s t : ℕ) (xs : List SlotRef) → r ≢ q
    → has (same_slot (at r t)) (without (same_slot (at q s)) xs) ≡ has (same_slot (at r t)) xs
one_less_else q r s t xs ne = has_without_else (same_slot (at q s)) (same_slot (at r t)) xs (λ x e.
    let k = and_parts (q == x.page) (s == x.slot) e in
    let z : q ≡ x.page = (let k0 = k.0 in grind (arith, nat_tests)) in
    ap (λ b. b && (t == x.slot)) (ne_eqb r x.page (λ j. ne (j ∙ sym z))))

pub one_less : (q s t : ℕ) (xs : List SlotRef) → has (same_slot (at q s)) (without (same_slot (at q s)) xs) ≡ false
    → has (same_slot (at q t)) (without (same_slot (at q s)) xs) ≡ (has (same_slot (at q t)) xs && not (t == s))
one_less q s t xs once = go (t == s) refl where
  go : (b : Bool) → (t == s) ≡ b → has (same_slot (at q t)) (without (same_slot (at q s)) xs)
      ≡ (has (same_slot (at q t)) xs && not b)
  go true e = let z : t ≡ s = eqb-true t s e in subst
      (λ j. has (same_slot (at q j)) (without (same_slot (at q s)) xs) ≡ false) (sym z) once
      ∙ sym (and-false (has (same_slot (at q t)) xs))
  go false e = has_without_else (same_slot (at q s)) (same_slot (at q t)) xs (λ x f.
      let k = and_parts (q == x.page) (s == x.slot) f in
      let z : s ≡ x.slot = eqb-true s x.slot k.1 in
      and_right (q == x.page) (t == x.slot) (ap (λ i. t == i) (sym z) ∙ e))
      ∙ sym (and-true (has (same_slot (at q t)) xs))

-- ---- all slots of a page

none_off : (q t : ℕ) (xs : List SlotRef) → has (same_slot (at q t)) (off (λ x. x.page == q) xs) ≡ false
unfolding has off
none_off q t [] = refl
none_off q t (x ∷ xs) = go (x.page == q) refl (none_off q t xs) where
  go : (b : Bool) → (x.page == q) ≡ b → has (same_slot (at q t)) (off (λ x. x.page == q) xs) ≡ false
      → has (same_slot (at q t)) (cond b (off (λ x. x.page == q) xs) (x ∷ off (λ x. x.page == q) xs)) ≡ false
  go true e rest = rest
  go false e rest = ap (λ b. (b && (t == x.slot)) || has (same_slot (at q t)) (off (λ x. x.page == q) xs))
      (ne_eqb q x.page (λ k. let z : true ≡ false = (sym (eqb_self q) ∙ ap (λ i. i == q) k) ∙ e in cc)) ∙ rest

off_else : (q r t : ℕ) (xs : List SlotRef) → r ≢ q → has (same_slot (at r t)) (off (λ x. x.page == q) xs)
    ≡ has (same_slot (at r t)) xs
unfolding has off
off_else q r t [] ne = refl
off_else q r t (x ∷ xs) ne = go (x.page == q) refl (off_else q r t xs ne) where
  go : (b : Bool) → (x.page == q) ≡ b → has (same_slot (at r t)) (off (λ x. x.page == q) xs)
      ≡ has (same_slot (at r t)) xs → has (same_slot (at r t))
      (cond b (off (λ x. x.page == q) xs) (x ∷ off (λ x. x.page == q) xs))
      ≡ (((r == x.page) && (t == x.slot)) || has (same_slot (at r t)) xs)
  go true e rest = rest ∙ ap (λ b. (b && (t == x.slot)) || has (same_slot (at r t)) xs)
      (sym (ne_eqb r x.page (λ k. ne (let z : x.page ≡ q = grind (arith, nat_tests) in k ∙ z))))
  go false e rest = ap (λ b. ((r == x.page) && (t == x.slot)) || b) rest

slots_have : (q t s n : ℕ) → has (same_slot (at q t)) (slot_refs q s n) ≡ (nat_le s t && nat_lt t (s + n))
unfolding has slot_refs
slots_have q t s zero = go (nat_le s t) refl where
  go : (b : Bool) → nat_le s t ≡ b → false ≡ (b && nat_lt t (s + 0))
  go true e = let z : nat_lt t (s + 0) ≡ false = grind (arith, nat_tests) in sym z
  go false e = refl
slots_have q t s (suc n) = ap (λ b. (b && (t == s)) || has (same_slot (at q t)) (slot_refs q (s + 1) n)) (eqb_self q)
    ∙ (ap (λ b. (t == s) || b) (slots_have q t (s + 1) n) ∙ go (t == s) refl) where
      two : (b : Bool) → nat_le (s + 1) t ≡ b → (t == s) ≡ false → (b && nat_lt t (s + 1 + n))
          ≡ (nat_le s t && nat_lt t (s + suc n))
      two true e f =
          let x : nat_le s t ≡ true = grind (arith, nat_tests) in
          let y : s + 1 + n ≡ s + suc n = omega arith in
          ap (nat_lt t) y ∙ ap (λ b. b && nat_lt t (s + suc n)) (sym x)
      two false e f =
          let x : nat_le s t ≡ false = grind (arith, nat_tests) in
          ap (λ b. b && nat_lt t (s + suc n)) (sym x)

      go : (b : Bool) → (t == s) ≡ b → (b || (nat_le (s + 1) t && nat_lt t (s + 1 + n)))
          ≡ (nat_le s t && nat_lt t (s + suc n))
      go true e =
          let x : nat_le s t ≡ true = grind (arith, nat_tests) in
          let y : nat_lt t (s + suc n) ≡ true = grind (arith, nat_tests) in
          rw (x, y) refl
      go false e = two (nat_le (s + 1) t) refl e

slots_else : (q r t s n : ℕ) → r ≢ q → has (same_slot (at r t)) (slot_refs q s n) ≡ false
unfolding has slot_refs
slots_else q r t s zero ne = refl
slots_else q r t s (suc n) ne = ap (λ b. (b && (t == s)) || has (same_slot (at r t)) (slot_refs q (s + 1) n))
    (ne_eqb r q ne) ∙ slots_else q r t (s + 1) n ne

pub all_given : (q t n : ℕ) (xs : List SlotRef)
    → has (same_slot (at q t)) (slot_refs q 0 n ++ off (λ x. x.page == q) xs) ≡ nat_lt t n
all_given q t n xs =
    let x : nat_le 0 t ≡ true = grind (arith, nat_tests) in
    let y : 0 + n ≡ n = omega arith in
    has_in_both (same_slot (at q t)) (slot_refs q 0 n) (off (λ x. x.page == q) xs)
    ∙ (ap (λ b. has (same_slot (at q t)) (slot_refs q 0 n) || b) (none_off q t xs)
    ∙ (or-false (has (same_slot (at q t)) (slot_refs q 0 n)) ∙
    (slots_have q t 0 n ∙ (ap (λ b. b && nat_lt t (0 + n)) x ∙ ap (nat_lt t) y))))

pub given_else : (q r t n : ℕ) (xs : List SlotRef) → r ≢ q → has (same_slot (at r t))
    (slot_refs q 0 n ++ off (λ x. x.page == q) xs) ≡ has (same_slot (at r t)) xs
given_else q r t n xs ne = has_in_both (same_slot (at r t)) (slot_refs q 0 n) (off (λ x. x.page == q) xs)
    ∙ (ap (λ b. b || has (same_slot (at r t)) (off (λ x. x.page == q) xs)) (slots_else q r t 0 n ne)
    ∙ off_else q r t xs ne)

pub noted_else : (q r n : ℕ) (xs : List (ℕ × ℕ)) → r ≢ q → noted r ((q, n) ∷ xs) ≡ noted r xs
unfolding noted
noted_else q r n xs ne = ap (λ b. cond b (Some n) (noted r xs)) (ne_eqb q r (λ e. ne (sym e)))

-- ---- lists that note nothing

pub none_mine : (xs : List SlotRef) → ((x : SlotRef) → has (same_slot x) xs ≡ false) → xs ≡ []
unfolding has
none_mine [] h = refl
none_mine (x ∷ xs) h = absurd (true≢false (sym (rw (eqb_self x.page, eqb_self x.slot) refl) ∙ h x))

pub none_noted_at : (xs : List (ℕ × ℕ)) → ((q : ℕ) → noted q xs ≡ None) → xs ≡ []
unfolding noted
none_noted_at [] h = refl
none_noted_at (x ∷ xs) h =
    absurd (let e : Some x.1 ≡ None = sym (ap (λ b. cond b (Some x.1) (noted x.0 xs)) (eqb_self x.0)) ∙ h x.0 in cc)

pub none_armed : (xs : List ℕ) → ((q : ℕ) → has (λ x. x == q) xs ≡ false) → xs ≡ []
unfolding has
none_armed [] h = refl
none_armed (x ∷ xs) h = absurd (true≢false (sym (ap (λ b. b || has (λ y. y == x) xs) (eqb_self x)) ∙ h x))
