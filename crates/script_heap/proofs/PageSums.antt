-- Steps on the class words of pages that follow one another: each step is on one page at most.
use Rattle.std.proofs.Common.{◌≡◌, ℕ, zero, suc, ◌+◌, ◌<◌, ◌≤◌, ◌==◌, ◌⊎◌, inl, inr, ⊎_elim, Bool, true, false, List}
use Rattle.std.proofs.Common.{[], ◌∷◌, cond, length, refl, ap, ◌∙◌, arith, eqb-true, zero-add}
use Rattle.std.proofs.lemmas.List.Sums.{sum_by-append}
use Rattle.sh_shape.specs.declared.places.Place.{Place}
use Rattle.sh_shape.specs.declared.places.Place.TheVariants.{Class}
use Rattle.sh_step.specs.declared.footstep.Footstep.{Footstep}
use Rattle.sh_step.specs.Collections.{if1}
use Rattle.script_heap.proofs.ClassSteps.{on_class, class_steps}

-- the sum over the numbers below n
abbrev sum_to : (ℕ → ℕ) → ℕ → ℕ
sum_to f zero = 0
sum_to f (suc n) = f n + sum_to f n

none_to : (n : ℕ) → sum_to (λ p. 0) n ≡ 0
none_to zero = refl
none_to (suc n) = let rest = none_to n in omega (arith, rest)

twice_to : (f : ℕ → ℕ) (n : ℕ) → ((p : ℕ) → p < n → 1 < f p) → n + n ≤ sum_to f n
twice_to f zero two = omega arith
twice_to f (suc n) two =
    let rest = twice_to f n (λ p lt. two p (omega (arith, lt))) in
    let here = two n (omega arith) in
    omega (arith, rest, here)

module _ (base : ℕ) where
  -- the place is the class word of page q
  abbrev is_class : ℕ → Place → Bool
  is_class q o = elim o [ Class x ↦ x == q | _ ↦ false ]

  abbrev hits : Place → ℕ → ℕ
  hits o n = sum_to (λ p. if1 (is_class (base + p) o)) n

  one_of : (x n : ℕ) → (hits (Class x) n ≡ 0) ⊎ ((hits (Class x) n ≡ 1) × (x < base + n))
  one_of x zero = inl refl
  one_of x (suc n) = go (x == base + n) refl (one_of x n)
    where
      go : (b : Bool) → (x == base + n) ≡ b → (hits (Class x) n ≡ 0) ⊎ ((hits (Class x) n ≡ 1) × (x < base + n))
          → (if1 b + hits (Class x) n ≡ 0) ⊎ ((if1 b + hits (Class x) n ≡ 1) × (x < base + suc n))
      go true is (inl none) = let e = eqb-true x (base + n) is in inr (omega (arith, none), omega (arith, e))
      go true is (inr one) =
          let e = eqb-true x (base + n) is in let low = one.1 in absurd (omega (arith, e, low))
      go false is (inl none) = inl (omega (arith, none))
      go false is (inr one) =
          let first = one.0 in let low = one.1 in inr (omega (arith, first), omega (arith, low))

  at_most_one : (o : Place) (n : ℕ) → hits o n ≤ 1
  at_most_one (Class x) n = ⊎_elim (λ none. omega (arith, none)) (λ one. let first = one.0 in omega (arith, first))
      (one_of x n)
  at_most_one o n = let none = none_to n in omega (arith, none)

  abbrev all_steps : List Footstep → ℕ → ℕ
  all_steps ts n = sum_to (λ p. class_steps (base + p) ts) n

  cons_steps : (t : Footstep) (ts : List Footstep) (n : ℕ) → all_steps (t ∷ ts) n ≡ hits t.place n + all_steps ts n
  cons_steps t ts zero = refl
  cons_steps t ts (suc n) =
      let rest = cons_steps t ts n in
      let here : class_steps (base + n) (t ∷ ts) ≡ if1 (on_class (base + n) t) + class_steps (base + n) ts =
      sum_by-append (λ (s : Footstep). cond (on_class (base + n) s) 1 0) (t ∷ []) ts
      ∙ ap (λ (z : ℕ). z + class_steps (base + n) ts) (zero-add (if1 (on_class (base + n) t))) in
      omega (arith, rest, here)

  -- each step is counted once at most
  pub few_steps : (ts : List Footstep) (n : ℕ) → all_steps ts n ≤ length ts
  few_steps [] n = let none = none_to n in omega (arith, none)
  few_steps (t ∷ ts) n =
      let rest = few_steps ts n in
      let here = at_most_one t.place n in
      let both = cons_steps t ts n in
      omega (arith, rest, here, both)

  -- so two steps on each of n class words are 2 n steps
  pub two_on_each : (ts : List Footstep) (n : ℕ) → ((p : ℕ) → p < n → 1 < class_steps (base + p) ts)
      → n + n ≤ length ts
  two_on_each ts n two =
      let all = twice_to (λ p. class_steps (base + p) ts) n two in
      let few = few_steps ts n in
      omega (arith, all, few)
