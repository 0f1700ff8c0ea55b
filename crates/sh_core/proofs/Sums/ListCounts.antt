-- How often an item is in a list: tests and notes, counted.
use Rattle.std.proofs.Common.{◌≡◌, ℕ, zero, suc, ◌+◌, ◌<◌, ◌≤◌, ◌==◌, ◌&&◌, ◌||◌, Bool, true, false, cond, List, []}
use Rattle.std.proofs.Common.{◌∷◌, refl, sym, ap, ◌∙◌, subst, arith, Some, None, eq-eqb, eqb-true, drop, length}
use Rattle.sh_slots.specs.declared.hand.SlotRef.{SlotRef}
use Rattle.sh_slots.specs.Slots.{same_slot}
use Rattle.sh_step.specs.Collections.{total, if1, has, noted, without, off}
use Rattle.sh_core.specs.Lists.{times}
use Rattle.sh_core.specs.Stacks.{first_is}
use Rattle.sh_core.proofs.Slots.Slots.{if1_same_slot}
use Rattle.sh_core.proofs.Sums.Tests.{if1_self, eqb-comm, if1_some}
use Rattle.sh_core.proofs.Sums.Totals.{total_without}
use Rattle.std.proofs.lemmas.Bool.{or_parts}

-- ---- tests

pub none_has : {A : Type 0} (f : A → Bool) (xs : List A) → total (λ y. if1 (f y)) xs ≡ 0 → has f xs ≡ false
unfolding total has
none_has f [] e = refl
none_has f (x ∷ xs) e = go (f x) (none_has f xs) e where
  go : (b : Bool) → (total (λ y. if1 (f y)) xs ≡ 0 → has f xs ≡ false) → if1 b + total (λ y. if1 (f y)) xs ≡ 0
      → (b || has f xs) ≡ false
  go true rest e = absurd (omega arith)
  go false rest e = rest (omega arith)

pub has_some : {A : Type 0} (f : A → Bool) (xs : List A) → has f xs ≡ true → 0 < total (λ y. if1 (f y)) xs
unfolding total has
has_some f [] e = absurd (let z : ⊥ = cc in z)
has_some f (x ∷ xs) e = go (f x) (has_some f xs) e where
  go : (b : Bool) → (has f xs ≡ true → 0 < total (λ y. if1 (f y)) xs) → (b || has f xs) ≡ true
      → 0 < if1 b + total (λ y. if1 (f y)) xs
  go true rest e = omega arith
  go false rest e = let r = rest e in omega arith

pub some_has : (q : ℕ) (xs : List ℕ) → 0 < times q xs → has (λ x. x == q) xs ≡ true
unfolding total has
some_has q [] h = absurd (omega arith)
some_has q (x ∷ xs) h = go (x == q) h (λ n. some_has q xs n) where
  go : (b : Bool) → 0 < if1 b + times q xs → (0 < times q xs → has (λ x. x == q) xs ≡ true)
      → (b || has (λ x. x == q) xs) ≡ true
  go true h rest = refl
  go false h rest = rest (omega arith)

pub has_none : {A : Type 0} (f : A → Bool) (xs : List A) → has f xs ≡ false → total (λ y. if1 (f y)) xs ≡ 0
unfolding total has
has_none f [] e = refl
has_none f (x ∷ xs) e = let h = or_parts (f x) (has f xs) e in let rest = has_none f xs h.1
    in let here : if1 (f x) ≡ 0 = rw h.0 refl in omega arith

-- if one item passes, none passes after it is taken out
pub once_only : {A : Type 0} (f : A → Bool) (xs : List A) → total (λ y. if1 (f y)) xs ≤ 1 → has f (without f xs) ≡ false
unfolding total has without
once_only f [] e = refl
once_only f (x ∷ xs) e = go (f x) refl (once_only f xs) (none_has f xs) e where
  go : (b : Bool) → f x ≡ b → (total (λ y. if1 (f y)) xs ≤ 1 → has f (without f xs) ≡ false)
      → (total (λ y. if1 (f y)) xs ≡ 0 → has f xs ≡ false) → if1 b + total (λ y. if1 (f y)) xs ≤ 1
      → has f (cond b xs (x ∷ without f xs)) ≡ false
  go true is rest none e = none (omega arith)
  go false is rest none e = ap (λ c. c || has f (without f xs)) is ∙ rest (omega arith)

pub without_shorter : {A : Type 0} (f : A → Bool) (xs : List A) → length (without f xs) ≤ length xs
unfolding without
without_shorter f [] = omega arith
without_shorter f (x ∷ xs) = go (f x) (without_shorter f xs) where
  go : (b : Bool) → length (without f xs) ≤ length xs → length (cond b xs (x ∷ without f xs)) ≤ suc (length xs)
  go true h = omega arith
  go false h = omega arith

-- ---- numbers: how often one is in a list

pub times_cons : (s t : ℕ) (xs : List ℕ) → times s (t ∷ xs) ≡ if1 (t == s) + times s xs
unfolding total
times_cons s t xs = refl

pub times_none : (s : ℕ) → times s [] ≡ 0
unfolding total
times_none s = refl

-- an item of a list differs from an item that the list does not have
pub apart_item : (s i : ℕ) (xs : List ℕ) → times s xs ≡ 0 → 0 < times i xs → (i == s) ≡ false
apart_item s i xs none some = go (i == s) refl where
  go : (b : Bool) → (i == s) ≡ b → b ≡ false
  go false e = refl
  go true e = let j = eqb-true i s e in let t : times i xs ≡ times s xs = ap (λ k. times k xs) j in absurd (omega arith)

pub times_without : (q k : ℕ) (xs : List ℕ) → has (λ x. x == q) xs ≡ true → times k (without (λ x. x == q) xs) + if1
    (q == k) ≡ times k xs
times_without q k xs is = total_without (λ y. if1 (y == k)) (λ x. x == q) (if1 (q == k))
    (λ x e. ap (λ (m : ℕ). if1 (m == k)) (eqb-true x q e)) xs is

pub times_off : (q k : ℕ) (xs : List ℕ) → 0 < times q xs → times k (without (λ x. x == q) xs) + if1 (q == k)
    ≡ times k xs
times_off q k xs some = times_without q k xs (some_has q xs some)

-- the same if the item may stay
pub times_off_if : (b : Bool) (q k : ℕ) (xs : List ℕ) → (b ≡ true → 0 < times q xs)
    → times k (cond b (without (λ x. x == q) xs) xs) + cond b (if1 (q == k)) 0 ≡ times k xs
times_off_if true q k xs some = times_off q k xs (some refl)
times_off_if false q k xs some = omega arith

pub times_less : (q k : ℕ) (xs : List ℕ) → times k (without (λ x. x == q) xs) ≤ times k xs
unfolding total without
times_less q k [] = omega arith
times_less q k (x ∷ xs) = go (x == q) (times_less q k xs) where
  go : (b : Bool) → times k (without (λ x. x == q) xs) ≤ times k xs
      → times k (cond b xs (x ∷ without (λ x. x == q) xs)) ≤ if1 (x == k) + times k xs
  go true rest = omega arith
  go false rest = omega arith

-- ---- empty lists

pub no_slot_refs : (xs : List SlotRef) → ((x : SlotRef) → total (λ y. if1 (same_slot x y)) xs ≡ 0) → xs ≡ []
unfolding total
no_slot_refs [] none = refl
no_slot_refs (x ∷ xs) none = absurd (let here = none x in let one = if1_same_slot x in omega arith)

pub no_numbers : (xs : List ℕ) → ((n : ℕ) → times n xs ≡ 0) → xs ≡ []
unfolding total
no_numbers [] none = refl
no_numbers (x ∷ xs) none = absurd (let here = none x in let one = if1_self x in omega arith)

-- ---- notes: how often a number is noted, and how often with this value

abbrev pub times_noted : ℕ → List (ℕ × ℕ) → ℕ
times_noted q xs = total (λ (c : ℕ × ℕ). if1 (c.0 == q)) xs

abbrev pub is_note : ℕ → ℕ → ℕ × ℕ → ℕ
is_note q s c = if1 ((c.0 == q) && (c.1 == s))

abbrev pub times_noted_as : ℕ → ℕ → List (ℕ × ℕ) → ℕ
times_noted_as q s xs = total (is_note q s) xs

pub no_notes : (xs : List (ℕ × ℕ)) → ((q s : ℕ) → times_noted_as q s xs ≡ 0) → xs ≡ []
unfolding total
no_notes [] none = refl
no_notes (x ∷ xs) none = absurd (let here = none x.0 x.1 in let one : if1 ((x.0 == x.0) && (x.1 == x.1))
    ≡ 1 = rw (eq-eqb x.0 x.0 refl, eq-eqb x.1 x.1 refl) refl in omega arith)

pub none_noted : (q : ℕ) (xs : List (ℕ × ℕ)) → has (λ x. x.0 == q) xs ≡ false → noted q xs ≡ None
unfolding has noted
none_noted q [] e = refl
none_noted q (x ∷ xs) e = go (x.0 == q) e (none_noted q xs) where
  go : (b : Bool) → (b || has (λ y. y.0 == q) xs) ≡ false → (has (λ y. y.0 == q) xs ≡ false → noted q xs ≡ None)
      → cond b (Some x.1) (noted q xs) ≡ None
  go true e rest = absurd (let z : ⊥ = cc in z)
  go false e rest = rest e

noted_as : (q : ℕ) (xs : List (ℕ × ℕ)) → 0 < times_noted q xs → (s : ℕ) × (0 < times_noted_as q s xs)
unfolding total
noted_as q [] h = absurd (omega arith)
noted_as q (x ∷ xs) h = go (x.0 == q) h (noted_as q xs) where
  go : (b : Bool) → 0 < if1 b + times_noted q xs → (0 < times_noted q xs → (s : ℕ) × (0 < times_noted_as q s xs))
      → (s : ℕ) × (0 < if1 (b && (x.1 == s)) + times_noted_as q s xs)
  go true h rest = (x.1, let e = if1_self x.1 in omega arith)
  go false h rest = let r = rest (omega arith) in (r.0, let z = r.1 in omega arith)

pub noted_at : (q s : ℕ) (cs : List (ℕ × ℕ)) → noted q cs ≡ Some s → 0 < times_noted_as q s cs
unfolding noted total
noted_at q s [] h = absurd (let z : None ≡ Some s = h in cc)
noted_at q s (c ∷ cs) h = go (c.0 == q) h (λ k. noted_at q s cs k) where
  go : (b : Bool) → cond b (Some c.1) (noted q cs) ≡ Some s → (noted q cs ≡ Some s → 0 < times_noted_as q s cs)
      → 0 < if1 (b && (c.1 == s)) + times_noted_as q s cs
  go true e rest = let i : c.1 ≡ s = cc in let t : (c.1 == s) ≡ true = rw i (eq-eqb s s refl) in rw t (omega arith)
  go false e rest = let r = rest e in omega arith

pub not_noted : (q s : ℕ) (cs : List (ℕ × ℕ)) → noted q cs ≡ None → times_noted_as q s cs ≡ 0
unfolding total noted
not_noted q s [] e = refl
not_noted q s (c ∷ cs) e = go (c.0 == q) refl e (λ h. not_noted q s cs h) where
  go : (b : Bool) → (c.0 == q) ≡ b → cond b (Some c.1) (noted q cs) ≡ None
      → (noted q cs ≡ None → times_noted_as q s cs ≡ 0) → if1 (b && (c.1 == s)) + times_noted_as q s cs ≡ 0
  go true i h rest = absurd (let z : Some c.1 ≡ None = h in cc)
  go false i h rest = let r = rest h in omega arith

-- a sum over notes, without the first of a number
pub total_unnoted : (f : ℕ × ℕ → ℕ) (q s : ℕ) (cs : List (ℕ × ℕ)) → noted q cs ≡ Some s
    → total f (without (λ c. c.0 == q) cs) + f (q, s) ≡ total f cs
unfolding total noted without
total_unnoted f q s [] e = absurd (let z : None ≡ Some s = e in cc)
total_unnoted f q s (c ∷ cs) e = go (c.0 == q) refl e (λ h. total_unnoted f q s cs h) where
  go : (b : Bool) → (c.0 == q) ≡ b → cond b (Some c.1) (noted q cs) ≡ Some s
      → (noted q cs ≡ Some s → total f (without (λ c. c.0 == q) cs) + f (q, s) ≡ total f cs)
      → total f (cond b cs (c ∷ without (λ c. c.0 == q) cs)) + f (q, s) ≡ f c + total f cs
  go true i h rest =
      let a : c.0 ≡ q = eqb-true c.0 q i in
      let b : c.1 ≡ s = cc in
      let d : f (c.0, c.1) ≡ f (q, s) = ap f (λ j. (a j, b j)) in omega arith
  go false i h rest = let r = rest h in omega arith

-- what is noted of j after the notes of k are taken out was noted before, and j is not k
pub noted_off : (k j : ℕ) (xs : List (ℕ × ℕ)) (c : ℕ) → noted j (off (λ x. x.0 == k) xs) ≡ Some c
    → (noted j xs ≡ Some c) × ((k == j) ≡ false)
unfolding noted off
noted_off k j [] c h = absurd (let z : None ≡ Some c = h in cc)
noted_off k j (x ∷ xs) c h = go (x.0 == k) (x.0 == j) refl refl h (λ z. noted_off k j xs c z) where
  go : (b d : Bool) → (x.0 == k) ≡ b → (x.0 == j) ≡ d → noted j
      (cond b (off (λ x. x.0 == k) xs) (x ∷ off (λ x. x.0 == k) xs)) ≡ Some c
      → (noted j (off (λ x. x.0 == k) xs) ≡ Some c → (noted j xs ≡ Some c) × ((k == j) ≡ false))
      → (cond d (Some x.1) (noted j xs) ≡ Some c) × ((k == j) ≡ false)
  go true true e f h rest =
      let i = eqb-true x.0 k e in
      let g = eqb-true x.0 j f in
      let r = rest h in
      let z : (k == j) ≡ true = rw (← i, g) (eq-eqb j j refl) in
      let y : true ≡ false = sym z ∙ r.1 in absurd (cc)
  go true false e f h rest = rest h
  go false true e f h rest =
      let h2 : cond (x.0 == j) (Some x.1) (noted j (off (λ x. x.0 == k) xs)) ≡ Some c = h in
      let h3 : Some x.1 ≡ Some c = rw f at h2 in
      let g = eqb-true x.0 j f in (
        h3,
        (let z : (k == x.0) ≡ false = eqb-comm k x.0 ∙ e in ap (λ (y : ℕ). k == y) (sym g) ∙ z),
      )
  go false false e f h rest =
      let h2 : cond (x.0 == j) (Some x.1) (noted j (off (λ x. x.0 == k) xs)) ≡ Some c = h in rest (rw f at h2)

-- if each value is noted at most once for a number, and no two values are, the number is noted at most once
pub noted_once : (q : ℕ) (xs : List (ℕ × ℕ)) → ((s : ℕ) → times_noted_as q s xs ≤ 1)
    → ((s t : ℕ) → 0 < times_noted_as q s xs → 0 < times_noted_as q t xs → s ≡ t) → times_noted q xs ≤ 1
unfolding total
noted_once q [] one same = omega arith
noted_once q (x ∷ xs) one same = go (x.0 == q) one same (λ o t. noted_once q xs o t) where
  at_head : ((s : ℕ) → if1 (x.1 == s) + times_noted_as q s xs ≤ 1) →
      ((s t : ℕ) → 0 < if1 (x.1 == s) + times_noted_as q s xs → 0 < if1 (x.1 == t) + times_noted_as q t xs → s ≡ t)
      → (n : ℕ) → times_noted q xs ≡ n → 1 + n ≤ 1
  at_head one same zero e = omega arith
  at_head one same (suc n) e =
      let r = noted_as q xs (omega arith) in
      let at_r = r.1 in
      let k = if1_self x.1 in
      let t : x.1 ≡ r.0 = same x.1 r.0 (omega arith) (omega arith) in
      let k' : if1 (x.1 == r.0) ≡ 1 = subst (λ z. if1 (x.1 == z) ≡ 1) t k in
      let most = one r.0 in
      absurd (omega arith)

  go : (b : Bool) → ((s : ℕ) → if1 (b && (x.1 == s)) + times_noted_as q s xs ≤ 1)
      → ((s t : ℕ) → 0 < if1 (b && (x.1 == s)) + times_noted_as q s xs
      → 0 < if1 (b && (x.1 == t)) + times_noted_as q t xs → s ≡ t)
      → (((s : ℕ) → times_noted_as q s xs ≤ 1) → ((s t : ℕ) → 0 < times_noted_as q s xs → 0 < times_noted_as q t xs → s
      ≡ t) → times_noted q xs ≤ 1) → if1 b + times_noted q xs ≤ 1
  go true one same rest = at_head one same (times_noted q xs) refl
  go false one same rest = let k = rest (λ s. let z = one s in omega arith)
      (λ s t h i. same s t (omega arith) (omega arith)) in omega arith

-- ---- the first of a list

pub first_few : (xs : List ℕ) (s : ℕ) → first_is xs s ≤ 1
first_few [] s = omega arith
first_few (x ∷ xs) s = elim (x == s) as (λ b. if1 b ≤ 1) [ true ↦ omega arith | false ↦ omega arith ]

pub first_one : (xs : List ℕ) (s t : ℕ) → 0 < first_is xs s → 0 < first_is xs t → s ≡ t
first_one [] s t h k = absurd (omega arith)
first_one (x ∷ xs) s t h k = sym (eqb-true x s (if1_some (x == s) h)) ∙ eqb-true x t (if1_some (x == t) k)

pub first_times : (xs : List ℕ) (s : ℕ) → first_is xs s ≤ times s xs
unfolding total
first_times [] s = omega arith
first_times (x ∷ xs) s = omega arith

pub no_first : (xs : List ℕ) → ((s : ℕ) → first_is xs s ≡ 0) → xs ≡ []
no_first [] h = refl
no_first (t ∷ xs) h = absurd (let a = h t in let b = if1_self t in omega arith)

pub a_first : (xs : List ℕ) (s : ℕ) → 0 < first_is xs s → xs ≡ s ∷ drop 1 xs
a_first [] s h = absurd (omega arith)
a_first (t ∷ xs) s h = ap (λ (k : ℕ). k ∷ xs) (eqb-true t s (if1_some (t == s) h))
