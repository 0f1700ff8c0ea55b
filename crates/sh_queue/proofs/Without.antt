-- The numbers of a list once one was taken out.
use Rattle.std.proofs.Common.{◌≡◌, ◌≢◌, ℕ, ◌+◌, ⊎_elim, true, false, cond, ◌||◌, ◌==◌, List, [], ◌∷◌, length, sym}
use Rattle.std.proofs.Common.{refl, ap, ◌∙◌, subst, arith, eq-eqb, ne_eqb}
use Rattle.std.proofs.lemmas.Bool.{cases_eq, false≢true}
use Rattle.sh_lists.specs.Numbers.{Misses, Distinct, AllBelow}
use Rattle.sh_lists.specs.Lists.{LastFrom}
use Rattle.sh_queue.specs.Numbers.{has_number, without_number}
use Rattle.sh_queue.proofs.Numbers.{has_number-else, has_number-rest, has_number-from_Misses}

pub without_number-same : (x : ℕ) (ys : List ℕ) → without_number x (x ∷ ys) ≡ ys
without_number-same x ys = ap (λ b. cond b ys (x ∷ without_number x ys)) (eq-eqb x x refl)

pub without_number-else : (x y : ℕ) (ys : List ℕ) → y ≢ x → without_number x (y ∷ ys) ≡ y ∷ without_number x ys
without_number-else x y ys other = ap (λ b. cond b ys (y ∷ without_number x ys)) (ne_eqb y x other)

pub without_number-missing : (x : ℕ) (xs : List ℕ) → Misses x xs → without_number x xs ≡ xs
without_number-missing x [] misses = refl
without_number-missing x (y ∷ ys) misses =
    without_number-else x y ys (λ same. misses.0 (sym same)) ∙ ap (λ zs. y ∷ zs) (without_number-missing x ys misses.1)

pub AllBelow-without : (n x : ℕ) (xs : List ℕ) → AllBelow n xs → AllBelow n (without_number x xs)
AllBelow-without n x [] small = tt
AllBelow-without n x (y ∷ ys) small =
    elim (y == x) as (λ b. AllBelow n (cond b ys (y ∷ without_number x ys))) [
      | true ↦ small.1
      | false ↦ (small.0, AllBelow-without n x ys small.1)
    ]

pub Misses-without : (k x : ℕ) (xs : List ℕ) → Misses k xs → Misses k (without_number x xs)
Misses-without k x [] misses = tt
Misses-without k x (y ∷ ys) misses =
    elim (y == x) as (λ b. Misses k (cond b ys (y ∷ without_number x ys))) [
      | true ↦ misses.1
      | false ↦ (misses.0, Misses-without k x ys misses.1)
    ]

pub Distinct-without : (x : ℕ) (xs : List ℕ) → Distinct xs → Distinct (without_number x xs)
Distinct-without x [] distinct = tt
Distinct-without x (y ∷ ys) distinct =
    elim (y == x) as (λ b. Distinct (cond b ys (y ∷ without_number x ys))) [
      | true ↦ distinct.1
      | false ↦ (Misses-without y x ys distinct.0, Distinct-without x ys distinct.1)
    ]

LastFrom-skip : (a y e : ℕ) (ys : List ℕ) → LastFrom y ys e → y ≢ e → LastFrom a ys e
LastFrom-skip a y e [] last other = absurd (other last)
LastFrom-skip a y e (z ∷ zs) last other = last

pub LastFrom-without : (x a e : ℕ) (xs : List ℕ) → LastFrom a xs e → x ≢ e → LastFrom a (without_number x xs) e
LastFrom-without x a e [] last inner = last
LastFrom-without x a e (y ∷ ys) last inner = ⊎_elim
    (λ (is : y ≡ x). subst (λ (zs : List ℕ). LastFrom a zs e)
    (sym (ap (λ b. cond b ys (y ∷ without_number x ys)) (eq-eqb y x is)))
    (LastFrom-skip a y e ys last (λ same. inner (sym is ∙ same))))
    (λ (other : y ≢ x). subst (λ (zs : List ℕ). LastFrom a zs e) (sym (without_number-else x y ys other))
    (LastFrom-without x y e ys last inner))
    (cases_eq y x)

pub length-without : (x : ℕ) (xs : List ℕ) → has_number x xs ≡ true → length (without_number x xs) + 1 ≡ length xs
length-without x [] here = absurd (false≢true here)
length-without x (y ∷ ys) here = ⊎_elim
    (λ (is : y ≡ x). ap (λ (zs : List ℕ). length zs + 1) (ap (λ b. cond b ys (y ∷ without_number x ys)) (eq-eqb y x is))
    ∙ omega arith)
    (λ (other : y ≢ x).
    let rest = length-without x ys (has_number-rest x y ys other here) in
    ap (λ (zs : List ℕ). length zs + 1) (without_number-else x y ys other) ∙ omega arith)
    (cases_eq y x)

pub has_number-without_other : (k x : ℕ) (xs : List ℕ) → x ≢ k → has_number k (without_number x xs) ≡ has_number k xs
has_number-without_other k x [] other = refl
has_number-without_other k x (z ∷ zs) other = ⊎_elim
    (λ (is : z ≡ x). ap (λ b. has_number k (cond b zs (z ∷ without_number x zs))) (eq-eqb z x is)
    ∙ sym (has_number-else k z zs (λ same. other (sym is ∙ same))))
    (λ (differ : z ≢ x). ap (has_number k) (without_number-else x z zs differ)
    ∙ ap (λ b. (z == k) || b) (has_number-without_other k x zs other))
    (cases_eq z x)

pub has_number-without_same : (x : ℕ) (xs : List ℕ) → Distinct xs → has_number x (without_number x xs) ≡ false
has_number-without_same x [] distinct = refl
has_number-without_same x (z ∷ zs) distinct = ⊎_elim
    (λ (is : z ≡ x). ap (λ b. has_number x (cond b zs (z ∷ without_number x zs))) (eq-eqb z x is)
    ∙ has_number-from_Misses x zs (subst (λ k. Misses k zs) is distinct.0))
    (λ (other : z ≢ x). ap (has_number x) (without_number-else x z zs other)
    ∙ has_number-else x z (without_number x zs) other ∙ has_number-without_same x zs distinct.1)
    (cases_eq z x)
