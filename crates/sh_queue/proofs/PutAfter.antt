-- The numbers of a list once one was put in behind another.
use Rattle.std.proofs.Common.{◌≡◌, ◌≢◌, ℕ, ◌+◌, ◌<◌, ⊎_elim, true, false, cond, ◌||◌, ◌==◌, List, [], ◌∷◌, length, sym}
use Rattle.std.proofs.Common.{refl, ap, ◌∙◌, subst, arith, eq-eqb, ne_eqb}
use Rattle.std.proofs.lemmas.Bool.{cases_eq, false≢true}
use Rattle.sh_lists.specs.Numbers.{Misses, Distinct, AllBelow}
use Rattle.sh_lists.specs.Lists.{LastFrom}
use Rattle.sh_queue.specs.Numbers.{has_number, put_after}
use Rattle.sh_queue.proofs.Numbers.{has_number-here, has_number-there, has_number-else, has_number-rest}

-- what follows a, once x was put behind s
abbrev pub put_behind : ℕ → ℕ → ℕ → List ℕ → List ℕ
put_behind s x a xs = cond (a == s) (x ∷ xs) (put_after s x xs)

pub put_behind-same : (s x : ℕ) (xs : List ℕ) → put_behind s x s xs ≡ x ∷ xs
put_behind-same s x xs = ap (λ b. cond b (x ∷ xs) (put_after s x xs)) (eq-eqb s s refl)

pub put_behind-else : (s x a : ℕ) (xs : List ℕ) → a ≢ s → put_behind s x a xs ≡ put_after s x xs
put_behind-else s x a xs other = ap (λ b. cond b (x ∷ xs) (put_after s x xs)) (ne_eqb a s other)

pub AllBelow-put_behind : (n s x a : ℕ) (xs : List ℕ) → AllBelow n xs → x < n → AllBelow n (put_behind s x a xs)
AllBelow-put_behind n s x a [] small here =
    elim (a == s) as (λ b. AllBelow n (cond b (x ∷ []) [])) [ true ↦ (here, tt) | false ↦ tt ]
AllBelow-put_behind n s x a (y ∷ ys) small here =
    elim (a == s) as (λ b. AllBelow n (cond b (x ∷ y ∷ ys) (y ∷ put_behind s x y ys))) [
      | true ↦ (here, small)
      | false ↦ (small.0, AllBelow-put_behind n s x y ys small.1 here)
    ]

pub Misses-put_behind : (k s x a : ℕ) (xs : List ℕ) → Misses k xs → k ≢ x → Misses k (put_behind s x a xs)
Misses-put_behind k s x a [] misses other =
    elim (a == s) as (λ b. Misses k (cond b (x ∷ []) [])) [ true ↦ (other, tt) | false ↦ tt ]
Misses-put_behind k s x a (y ∷ ys) misses other =
    elim (a == s) as (λ b. Misses k (cond b (x ∷ y ∷ ys) (y ∷ put_behind s x y ys))) [
      | true ↦ (other, misses)
      | false ↦ (misses.0, Misses-put_behind k s x y ys misses.1 other)
    ]

pub Distinct-put_behind : (s x a : ℕ) (xs : List ℕ) → Distinct xs → Misses x xs → Distinct (put_behind s x a xs)
Distinct-put_behind s x a [] distinct misses =
    elim (a == s) as (λ b. Distinct (cond b (x ∷ []) [])) [ true ↦ (tt, tt) | false ↦ tt ]
Distinct-put_behind s x a (y ∷ ys) distinct misses =
    elim (a == s) as (λ b. Distinct (cond b (x ∷ y ∷ ys) (y ∷ put_behind s x y ys))) [
      | true ↦ (misses, distinct)
      | false ↦ (
        Misses-put_behind y s x y ys distinct.0 (λ same. misses.0 (sym same)),
        Distinct-put_behind s x y ys
            distinct.1 misses.1,
      )
    ]

pub LastFrom-put_behind : (s x a e : ℕ) (xs : List ℕ) → LastFrom a xs e → s ≢ e → LastFrom a (put_behind s x a xs) e
LastFrom-put_behind s x a e [] last inner =
    subst (λ (zs : List ℕ). LastFrom a zs e) (sym (put_behind-else s x a [] (λ same. inner (sym same ∙ last)))) last
LastFrom-put_behind s x a e (y ∷ ys) last inner =
    elim (a == s) as (λ b. LastFrom a (cond b (x ∷ y ∷ ys) (y ∷ put_behind s x y ys)) e) [
      | true ↦ last
      | false ↦ LastFrom-put_behind s x y e ys last inner
    ]

pub length-put_behind : (s x a : ℕ) (xs : List ℕ) → has_number s (a ∷ xs) ≡ true → length (put_behind s x a xs)
    ≡ length xs + 1
length-put_behind s x a [] here = ⊎_elim
    (λ (is : a ≡ s). ap (λ b. length (cond b (x ∷ []) [])) (eq-eqb a s is))
    (λ (other : a ≢ s). absurd (false≢true (has_number-rest s a [] other here)))
    (cases_eq a s)
length-put_behind s x a (y ∷ ys) here = ⊎_elim
    (λ (is : a ≡ s). ap (λ b. length (cond b (x ∷ y ∷ ys) (y ∷ put_behind s x y ys))) (eq-eqb a s is) ∙ omega arith)
    (λ (other : a ≢ s).
    let rest = length-put_behind s x y ys (has_number-rest s a (y ∷ ys) other here) in
    ap length (put_behind-else s x a (y ∷ ys) other) ∙ omega arith)
    (cases_eq a s)

pub has_number-put_after_other : (k s x : ℕ) (xs : List ℕ) → x ≢ k → has_number k (put_after s x xs) ≡ has_number k xs
has_number-put_after_other k s x [] other = refl
has_number-put_after_other k s x (y ∷ ys) other =
    elim (y == s) as (λ b. (y == k) || has_number k (cond b (x ∷ ys) (put_after s x ys))
    ≡ (y == k) || has_number k ys) [
      | true ↦ ap (λ b. (y == k) || b) (has_number-else k x ys other)
      | false ↦ ap (λ b. (y == k) || b) (has_number-put_after_other k s x ys other)
    ]

pub has_number-put_after_same : (s x : ℕ) (xs : List ℕ) → has_number s xs ≡ true → has_number x (put_after s x xs)
    ≡ true
has_number-put_after_same s x [] here = absurd (false≢true here)
has_number-put_after_same s x (y ∷ ys) here = has_number-there x y (put_behind s x y ys) (⊎_elim
    (λ (is : y ≡ s). ap (λ b. has_number x (cond b (x ∷ ys) (put_after s x ys))) (eq-eqb y s is) ∙ has_number-here x ys)
    (λ (other : y ≢ s). ap (has_number x) (put_behind-else s x y ys other)
    ∙ has_number-put_after_same s x ys (has_number-rest s y ys other here))
    (cases_eq y s))
