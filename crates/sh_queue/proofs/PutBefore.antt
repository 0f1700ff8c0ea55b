-- The numbers of a list once one was put in ahead of another, which puts it behind the number ahead of that other.
use Rattle.std.proofs.Common.{◌≡◌, ◌≢◌, ℕ, ⊎_elim, true, false, cond, ◌||◌, ◌==◌, List, [], ◌∷◌, ◌++◌, sym, refl, ap}
use Rattle.std.proofs.Common.{◌∙◌, subst, append_assoc, eq-eqb, ne_eqb}
use Rattle.std.proofs.lemmas.Bool.{cases_eq, false≢true}
use Rattle.sh_lists.specs.Numbers.{Misses, Distinct}
use Rattle.sh_lists.specs.Lists.{LastFrom}
use Rattle.sh_queue.specs.Numbers.{has_number, put_after, put_before, preceding_from}
use Rattle.sh_queue.proofs.Numbers.{has_number-here, has_number-there, has_number-else, has_number-rest, differs}
use Rattle.sh_queue.proofs.PutAfter.{put_behind-same, put_behind-else}

preceding_is_in : (a m : ℕ) (xs : List ℕ) → has_number (preceding_from a m xs) (a ∷ xs) ≡ true
preceding_is_in a m [] = has_number-here a []
preceding_is_in a m (y ∷ ys) =
    elim (y == m) as (λ b. has_number (cond b a (preceding_from y m ys)) (a ∷ y ∷ ys) ≡ true) [
      | true ↦ has_number-here a (y ∷ ys)
      | false ↦ has_number-there (preceding_from y m ys) a (y ∷ ys) (preceding_is_in y m ys)
    ]

-- behind the number ahead of m is the place ahead of m
pub put_after-preceding
    : (a m x : ℕ) (xs : List ℕ)
    → Distinct (a ∷ xs) → has_number m xs ≡ true
    → put_after (preceding_from a m xs) x (a ∷ xs) ≡ a ∷ put_before m (x ∷ []) xs
put_after-preceding a m x [] distinct here = absurd (false≢true here)
put_after-preceding a m x (y ∷ ys) distinct here = ⊎_elim
    (λ (is : y ≡ m).
    let ahead : preceding_from a m (y ∷ ys) ≡ a = ap (λ b. cond b a (preceding_from y m ys)) (eq-eqb y m is) in
    ap (λ s. put_after s x (a ∷ y ∷ ys)) ahead
    ∙ ap (λ zs. a ∷ zs) (put_behind-same a x (y ∷ ys))
    ∙ sym (ap (λ b. a ∷ cond b (x ∷ y ∷ ys) (y ∷ put_before m (x ∷ []) ys)) (eq-eqb y m is)))
    (λ (other : y ≢ m).
    let s = preceding_from y m ys in
    let ahead : preceding_from a m (y ∷ ys) ≡ s = ap (λ b. cond b a s) (ne_eqb y m other) in
    let apart : a ≢ s = differs a s (y ∷ ys) distinct.0 (preceding_is_in y m ys) in
    ap (λ s. put_after s x (a ∷ y ∷ ys)) ahead
    ∙ ap (λ zs. a ∷ zs) (put_behind-else s x a (y ∷ ys) apart)
    ∙ ap (λ zs. a ∷ zs) (put_after-preceding y m x ys distinct.1 (has_number-rest m y ys other here))
    ∙ sym (ap (λ b. a ∷ cond b (x ∷ y ∷ ys) (y ∷ put_before m (x ∷ []) ys)) (ne_eqb y m other)))
    (cases_eq y m)

pub preceding_is_inner
    : (a m e : ℕ) (xs : List ℕ)
    → Distinct (a ∷ xs) → has_number m xs ≡ true → LastFrom a xs e → preceding_from a m xs ≢ e
preceding_is_inner a m e [] distinct here last same = false≢true here
preceding_is_inner a m e (y ∷ ys) distinct here last same = ⊎_elim
    (λ (is : y ≡ m).
    let ahead : preceding_from a m (y ∷ ys) ≡ a = ap (λ b. cond b a (preceding_from y m ys)) (eq-eqb y m is) in
    differs a e (y ∷ ys) distinct.0 (last_is_in y e ys last) (sym ahead ∙ same))
    (λ (other : y ≢ m).
    let ahead : preceding_from a m (y ∷ ys) ≡ preceding_from y m ys = ap (λ b. cond b a (preceding_from y m ys))
    (ne_eqb y m other) in
    preceding_is_inner y m e ys distinct.1 (has_number-rest m y ys other here) last (sym ahead ∙ same))
    (cases_eq y m) where
      last_is_in : (a e : ℕ) (xs : List ℕ) → LastFrom a xs e → has_number e (a ∷ xs) ≡ true
      last_is_in a e [] last = subst (λ k. has_number k (a ∷ []) ≡ true) last (has_number-here a [])
      last_is_in a e (y ∷ ys) last = has_number-there e a (y ∷ ys) (last_is_in y e ys last)

pub put_before-same : (m : ℕ) (more ys : List ℕ) → put_before m more (m ∷ ys) ≡ more ++ m ∷ ys
put_before-same m more ys = ap (λ b. cond b (more ++ m ∷ ys) (m ∷ put_before m more ys)) (eq-eqb m m refl)

pub put_before-else : (m y : ℕ) (more ys : List ℕ) → y ≢ m → put_before m more (y ∷ ys) ≡ y ∷ put_before m more ys
put_before-else m y more ys other = ap (λ b. cond b (more ++ y ∷ ys) (y ∷ put_before m more ys)) (ne_eqb y m other)

pub put_before-nil : (m : ℕ) (xs : List ℕ) → put_before m [] xs ≡ xs
put_before-nil m [] = refl
put_before-nil m (y ∷ ys) =
    elim (y == m) as (λ b. cond b (y ∷ ys) (y ∷ put_before m [] ys) ≡ y ∷ ys) [
      | true ↦ refl
      | false ↦ ap (λ zs. y ∷ zs) (put_before-nil m ys)
    ]

put_before-behind : (m x : ℕ) (more ys : List ℕ) → Misses m more → put_before m (x ∷ []) (more ++ m ∷ ys) ≡ more
    ++ x ∷ m ∷ ys
put_before-behind m x [] ys misses = put_before-same m (x ∷ []) ys
put_before-behind m x (z ∷ more) ys misses =
    put_before-else m z (x ∷ []) (more ++ m ∷ ys) (λ same. misses.0 (sym same))
    ∙ ap (λ zs. z ∷ zs) (put_before-behind m x more ys misses.1)

-- one more number is put in behind those
pub put_before-push
    : (m x : ℕ) (more xs : List ℕ)
    → Misses m more → put_before m (x ∷ []) (put_before m more xs) ≡ put_before m (more ++ x ∷ []) xs
put_before-push m x more [] misses = refl
put_before-push m x more (y ∷ ys) misses = ⊎_elim
    (λ (is : m ≡ y).
    let P : ℕ → Type 0 = λ z. put_before m (x ∷ []) (put_before m more (z ∷ ys))
    ≡ put_before m (more ++ x ∷ []) (z ∷ ys) in
    let at : P m = ap (put_before m (x ∷ [])) (put_before-same m more ys)
    ∙ put_before-behind m x more ys misses
    ∙ sym (append_assoc more (x ∷ []) (m ∷ ys))
    ∙ sym (put_before-same m (more ++ x ∷ []) ys) in
    subst P is at)
    (λ (differ : m ≢ y).
    let other : y ≢ m = λ same. differ (sym same) in
    ap (put_before m (x ∷ [])) (put_before-else m y more ys other)
    ∙ put_before-else m y (x ∷ []) (put_before m more ys) other
    ∙ ap (λ zs. y ∷ zs) (put_before-push m x more ys misses)
    ∙ sym (put_before-else m y (more ++ x ∷ []) ys other))
    (cases_eq m y)

pub has_number-put_before_other : (k m x : ℕ) (xs : List ℕ) → x ≢ k → has_number k (put_before m (x ∷ []) xs)
    ≡ has_number k xs
has_number-put_before_other k m x [] other = refl
has_number-put_before_other k m x (y ∷ ys) other =
    elim (y == m) as (λ b. has_number k (cond b (x ∷ y ∷ ys) (y ∷ put_before m (x ∷ []) ys))
    ≡ (y == k) || has_number k ys) [
      | true ↦ has_number-else k x (y ∷ ys) other
      | false ↦ ap (λ b. (y == k) || b) (has_number-put_before_other k m x ys other)
    ]

pub has_number-put_before_same : (m x : ℕ) (xs : List ℕ) → has_number m xs ≡ true
    → has_number x (put_before m (x ∷ []) xs) ≡ true
has_number-put_before_same m x [] here = absurd (false≢true here)
has_number-put_before_same m x (y ∷ ys) here = ⊎_elim
    (λ (is : y ≡ m). ap (λ b. has_number x (cond b (x ∷ y ∷ ys) (y ∷ put_before m (x ∷ []) ys))) (eq-eqb y m is)
    ∙ has_number-here x (y ∷ ys))
    (λ (other : y ≢ m).
    ap (has_number x) (put_before-else m y (x ∷ []) ys other)
    ∙ has_number-there x y (put_before m (x ∷ []) ys) (has_number-put_before_same m x ys
    (has_number-rest m y ys other here)))
    (cases_eq y m)
