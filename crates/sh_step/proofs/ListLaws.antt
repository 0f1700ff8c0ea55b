-- The words of `Collections` by those of the library, and what they say of two lists in sequence.
use Rattle.std.proofs.Common.{◌≡◌, ℕ, ◌==◌, ◌||◌, ◌&&◌, ◌+◌, ◌-◌, ◌<◌, subst, arith, Bool, true, false, cond, not, List}
use Rattle.std.proofs.Common.{[], ◌∷◌, ◌++◌, Option, Some, None, ◌≤◌, zero, suc, refl, ltb-false, eqb-true}
use Rattle.std.proofs.Common.{ap, sym, ◌∙◌}
use Rattle.std.specs.Prelude.{option_map, filter, nat_lt, length, OnSome, replicate, get_or}
use Rattle.std.proofs.lemmas.Bool.{or_left, cond-true}
use Rattle.std.proofs.lemmas.Bool.Decides.{nat_tests}
use Rattle.std.proofs.lemmas.List.{nil_from_length}
use Rattle.std.proofs.lemmas.List.Elements.{filter-append}
use Rattle.std.proofs.lemmas.List.Folds.{list_any-append}
use Rattle.std.proofs.Math.Bool.{or-false}
use Rattle.std.specs.List.{list_any, find, remove, position, position_or_len}
use Rattle.sh_slots.specs.declared.hand.SlotRef.{SlotRef}
use Rattle.sh_slots.specs.Slots.{slot_refs}
use Rattle.sh_step.specs.Collections.{has, noted, without, off, every}

pub any_is_has : {A : Type 0} (p : A → Bool) (xs : List A) → list_any p xs ≡ has p xs
unfolding has
any_is_has p [] = refl
any_is_has p (x ∷ xs) = ap (λ b. p x || b) (any_is_has p xs)

pub noted_is_found : (q : ℕ) (xs : List (ℕ × ℕ)) → noted q xs ≡ option_map (λ x. x.1) (find (λ x. x.0 == q) xs)
unfolding noted
noted_is_found q [] = refl
noted_is_found q (x ∷ xs) = go (x.0 == q) (noted_is_found q xs) where
  go : (b : Bool) → noted q xs ≡ option_map (λ x. x.1) (find (λ x. x.0 == q) xs) → cond b (Some x.1) (noted q xs)
      ≡ option_map (λ x. x.1) (cond b (Some x) (find (λ x. x.0 == q) xs))
  go true rest = refl
  go false rest = rest

without_split : {A : Type 0} (p : A → Bool) (x : A) (xs : List A) (b : Bool) → without p xs
    ≡ remove xs (position_or_len p xs) → cond b xs (x ∷ without p xs)
    ≡ remove (x ∷ xs) (cond (not b) (1 + position_or_len p xs) 0)
without_split p x xs true rest = refl
without_split p x xs false rest =
    let next : suc (position_or_len p xs) ≡ 1 + position_or_len p xs = omega arith in
    ap (λ ys. x ∷ ys) rest ∙ ap (λ i. remove (x ∷ xs) i) next

pub without_is_removed : {A : Type 0} (p : A → Bool) (xs : List A) → without p xs ≡ remove xs (position_or_len p xs)
unfolding without
without_is_removed p [] = refl
without_is_removed p (x ∷ xs) = without_split p x xs (p x) (without_is_removed p xs)

-- if the test passes first at i, and if it passes nowhere
pub without_at : {A : Type 0} (p : A → Bool) (xs : List A) (i : ℕ) → position p xs ≡ Some i → without p xs ≡ remove xs i
without_at p xs i e = without_is_removed p xs ∙ go (nat_lt (position_or_len p xs) (length xs)) e where
  go : (b : Bool) → cond b (Some (position_or_len p xs)) None ≡ Some i → remove xs (position_or_len p xs) ≡ remove xs i
  go true e = cc
  go false e = absurd (let no_none : ⊥ = cc in no_none)

remove_past : {A : Type 0} (xs : List A) (i : ℕ) → length xs ≤ i → remove xs i ≡ xs
remove_past [] zero h = refl
remove_past [] (suc i) h = refl
remove_past (x ∷ xs) zero h = absurd (omega arith)
remove_past (x ∷ xs) (suc i) h = ap (λ ys. x ∷ ys) (remove_past xs i (omega arith))

pub without_none : {A : Type 0} (p : A → Bool) (xs : List A) → position p xs ≡ None → without p xs ≡ xs
without_none p xs e = without_is_removed p xs ∙ go (nat_lt (position_or_len p xs) (length xs)) refl e where
  go : (b : Bool) → nat_lt (position_or_len p xs) (length xs) ≡ b → cond b (Some (position_or_len p xs)) None ≡ None
      → remove xs (position_or_len p xs) ≡ xs
  go true is e = absurd (let no_some : ⊥ = cc in no_some)
  go false is e = remove_past xs (position_or_len p xs) (ltb-false (position_or_len p xs) (length xs) is)

pub off_is_filtered : {A : Type 0} (p : A → Bool) (xs : List A) → filter (λ x. not (p x)) xs ≡ off p xs
unfolding off
off_is_filtered p [] = refl
off_is_filtered p (x ∷ xs) = go (p x) (off_is_filtered p xs) where
  go : (b : Bool) → filter (λ x. not (p x)) xs ≡ off p xs → cond (not b) (x ∷ filter (λ x. not (p x)) xs)
      (filter (λ x. not (p x)) xs) ≡ cond b (off p xs) (x ∷ off p xs)
  go true rest = rest
  go false rest = ap (λ ys. x ∷ ys) rest

-- ---- the slots of a page, from one on to a count

slots_next : (q s n m : ℕ) → n ≡ suc m → slot_refs q s n ≡ record { page = q; slot = s } ∷ slot_refs q (s + 1) m
unfolding slot_refs
slots_next q s n m e = let P : ℕ → Type 0 = λ k. slot_refs q s k ≡ record { page = q; slot = s } ∷ slot_refs q (s + 1) m
    in subst P (sym e) refl

-- the slot before them comes first
pub slots_before : (q s n : ℕ) → 0 < s → s ≤ n → slot_refs q (s - 1) (n - (s - 1))
    ≡ record { page = q; slot = s - 1 } ∷ slot_refs q s (n - s)
slots_before q s n some within =
    let here : s - 1 + 1 ≡ s = omega arith in
    let more : n - (s - 1) ≡ suc (n - s) = omega arith in
    slots_next q (s - 1) (n - (s - 1)) (n - s) more ∙ ap (λ (k : ℕ). record { page = q; slot = s - 1 } ∷ slot_refs q k
    (n - s)) here

pub slots_none : (q s n : ℕ) → n ≤ s → slot_refs q s (n - s) ≡ []
unfolding slot_refs
slots_none q s n past = let none : n - s ≡ 0 = omega arith in ap (λ k. slot_refs q s k) none

-- one more slot
pub every_more : (P : SlotRef → Bool) (q s n : ℕ) → s < n → every P (slot_refs q s (n - s))
    ≡ (P (record { page = q; slot = s }) && every P (slot_refs q (s + 1) (n - (s + 1))))
unfolding every
every_more P q s n below =
    let more : n - s ≡ suc (n - (s + 1)) = omega arith in
    ap (λ xs. every P xs) (slots_next q s (n - s) (n - (s + 1)) more)

pub every_none : (P : SlotRef → Bool) (q s n : ℕ) → n ≤ s → every P (slot_refs q s (n - s)) ≡ true
unfolding every
every_none P q s n past = ap (λ xs. every P xs) (slots_none q s n past)

-- ---- what a removal from a deque does, if the item is there

pub on_some : {A P : Type 0} (o : Option A) (x : A) → o ≡ Some x → OnSome o P → P
on_some {A} {P} o x e h = let Q : Option A → Type 0 = λ o. OnSome o P in subst Q e h

pub position_within : {A : Type 0} (p : A → Bool) (xs : List A) (i : ℕ) → position p xs ≡ Some i → i < length xs
position_within p xs i e = go (nat_lt (position_or_len p xs) (length xs)) refl e where
  go : (b : Bool) → nat_lt (position_or_len p xs) (length xs) ≡ b → cond b (Some (position_or_len p xs)) None ≡ Some i
      → i < length xs
  go true is e = let at : position_or_len p xs ≡ i = cc in let less : position_or_len p xs < length xs = grind
      (arith, nat_tests) in omega arith
  go false is e = absurd (let no_none : ⊥ = cc in no_none)

-- ---- one more item, and two lists in sequence

pub has_front : {A : Type 0} (p : A → Bool) (x : A) (xs : List A) → p x ≡ true → has p (x ∷ xs) ≡ true
unfolding has
has_front p x xs here = or_left (p x) (has p xs) here

pub without_front : {A : Type 0} (p : A → Bool) (x : A) (xs : List A) → p x ≡ true → without p (x ∷ xs) ≡ xs
unfolding without
without_front p x xs here = cond-true (p x) xs (x ∷ without p xs) here

pub has_in_both : {A : Type 0} (p : A → Bool) (xs ys : List A) → has p (xs ++ ys) ≡ (has p xs || has p ys)
has_in_both p xs ys = sym (any_is_has p (xs ++ ys)) ∙ (list_any-append p xs ys
    ∙ (ap (λ b. b || list_any p ys) (any_is_has p xs) ∙ ap (λ b. has p xs || b) (any_is_has p ys)))

pub has_more : {A : Type 0} (p : A → Bool) (xs : List A) (x : A) → has p (xs ++ x ∷ []) ≡ (has p xs || p x)
unfolding has
has_more p xs x = has_in_both p xs (x ∷ []) ∙ ap (λ b. has p xs || b) (or-false (p x))

-- before the first item nothing is seen
pub none_seen : {A : Type 0} (p : A → Bool) (n i : ℕ) → get_or (replicate n false) i false ≡ has p []
unfolding has
none_seen p zero i = refl
none_seen p (suc n) zero = refl
none_seen p (suc n) (suc i) = none_seen p n i

pub without_in_first : {A : Type 0} (p : A → Bool) (xs ys : List A) → has p xs ≡ true
    → without p (xs ++ ys) ≡ without p xs ++ ys
unfolding has without
without_in_first p [] ys there = absurd (let no : ⊥ = cc in no)
without_in_first p (x ∷ xs) ys there = go (p x) refl (λ h. without_in_first p xs ys h) where
  go : (b : Bool) → p x ≡ b → (has p xs ≡ true → without p (xs ++ ys) ≡ without p xs ++ ys)
      → cond b (xs ++ ys) (x ∷ without p (xs ++ ys)) ≡ cond b xs (x ∷ without p xs) ++ ys
  go true is rest = refl
  go false is rest = ap (λ zs. x ∷ zs) (rest (sym (ap (λ b. b || has p xs) is) ∙ there))

pub without_behind : {A : Type 0} (p : A → Bool) (xs ys : List A) → has p xs ≡ false
    → without p (xs ++ ys) ≡ xs ++ without p ys
unfolding has without
without_behind p [] ys none = refl
without_behind p (x ∷ xs) ys none = go (p x) refl (λ h. without_behind p xs ys h) where
  go : (b : Bool) → p x ≡ b → (has p xs ≡ false → without p (xs ++ ys) ≡ xs ++ without p ys)
      → cond b (xs ++ ys) (x ∷ without p (xs ++ ys)) ≡ x ∷ (xs ++ without p ys)
  go true is rest = absurd (let f : true ≡ false = sym (ap (λ b. b || has p xs) is) ∙ none in let no : ⊥ = cc in no)
  go false is rest = ap (λ zs. x ∷ zs) (rest (sym (ap (λ b. b || has p xs) is) ∙ none))

pub off_in_both : {A : Type 0} (p : A → Bool) (xs ys : List A) → off p (xs ++ ys) ≡ off p xs ++ off p ys
off_in_both p xs ys = sym (off_is_filtered p (xs ++ ys)) ∙ (filter-append (λ x. not (p x)) xs ys
    ∙ (ap (λ zs. zs ++ filter (λ x. not (p x)) ys) (off_is_filtered p xs)
    ∙ ap (λ zs. off p xs ++ zs) (off_is_filtered p ys)))

-- a list of length 0 has nothing
pub none_left : {A : Type 0} (xs : List A) → (length xs == 0) ≡ true → xs ≡ []
none_left xs none = nil_from_length xs (eqb-true (length xs) 0 none)
