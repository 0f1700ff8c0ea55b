-- What the queues in a chain are once a page was taken out.
use Rattle.std.proofs.Common.{◌≡◌, ◌≢◌, ℕ, ◌+◌, ◌-◌, ◌<◌, ◌≤◌, ⊎_elim, true, false, cond, ◌==◌, List, [], ◌∷◌, sym}
use Rattle.std.proofs.Common.{refl, ap, ◌∙◌, subst, arith}
use Rattle.std.specs.Prelude.{nat_lt}
use Rattle.std.proofs.lemmas.Bool.{cases_eq, cases_lt}
use Rattle.sh_lists.specs.Numbers.{Misses, Distinct}
use Rattle.sh_queue.specs.Numbers.{without_number}
use Rattle.sh_queue.specs.Queues.{pages_to_mark, pages_behind, marks}
use Rattle.sh_queue.proofs.Without.{without_number-same, without_number-else, without_number-missing}
use Rattle.sh_queue.proofs.Marks.{run-mark, run-page, queue-else, marks-page}

pub run-without : (p : ℕ) (xs : List ℕ) → pages_to_mark (without_number (11 + p) xs)
    ≡ without_number p (pages_to_mark xs)
run-without p [] = refl
run-without p (x ∷ xs) = ⊎_elim
    (λ (is : 11 + p ≡ x).
    let P : ℕ → Type 0 = λ z. pages_to_mark (without_number (11 + p) (z ∷ xs))
    ≡ without_number p (pages_to_mark (z ∷ xs)) in
    let minus : 11 + p - 11 ≡ p = omega arith in
    let at : P (11 + p) = ap pages_to_mark (without_number-same (11 + p) xs)
    ∙ sym (without_number-same p (pages_to_mark xs))
    ∙ ap (λ k. without_number p (k ∷ pages_to_mark xs)) (sym minus)
    ∙ ap (without_number p) (sym (run-page (11 + p) xs (omega arith))) in
    subst P is at)
    (λ (differ : 11 + p ≢ x).
    let other : x ≢ 11 + p = λ same. differ (sym same) in
    ap pages_to_mark (without_number-else (11 + p) x xs other) ∙ ⊎_elim
    (λ (mark : x < 11). run-mark x (without_number (11 + p) xs) mark ∙ ap (without_number p) (sym (run-mark x xs mark)))
    (λ (page : 11 ≤ x). run-page x (without_number (11 + p) xs) page
    ∙ ap (λ ys. (x - 11) ∷ ys) (run-without p xs)
    ∙ sym (without_number-else p (x - 11) (pages_to_mark xs) (λ same. other (omega arith)))
    ∙ ap (without_number p) (sym (run-page x xs page)))
    (cases_lt x 11))
    (cases_eq (11 + p) x)

Misses-run : (p : ℕ) (xs : List ℕ) → Misses (11 + p) xs → Misses p (pages_to_mark xs)
Misses-run p [] misses = tt
Misses-run p (x ∷ xs) misses = ⊎_elim
    (λ (mark : x < 11). subst (Misses p) (sym (run-mark x xs mark)) tt)
    (λ (page : 11 ≤ x). subst (Misses p) (sym (run-page x xs page))
    ((λ same. misses.0 (omega arith)), Misses-run p xs misses.1))
    (cases_lt x 11)

pub Misses-queue : (k p : ℕ) (xs : List ℕ) → Misses (11 + p) xs → Misses p (pages_behind k xs)
Misses-queue k p [] misses = tt
Misses-queue k p (x ∷ xs) misses =
    elim (x == k) as (λ b. Misses p (cond b (pages_to_mark xs) (pages_behind k xs))) [
      | true ↦ Misses-run p xs misses.1
      | false ↦ Misses-queue k p xs misses.1
    ]

pub queue-without
    : (k p : ℕ) (xs : List ℕ) → k < 11 → Distinct xs → pages_behind k (without_number (11 + p) xs)
    ≡ without_number p (pages_behind k xs)
queue-without k p [] mark distinct = refl
queue-without k p (x ∷ xs) mark distinct = ⊎_elim
    (λ (is : 11 + p ≡ x).
    let P : ℕ → Type 0 = λ z. Misses z xs → pages_behind k (without_number (11 + p) (z ∷ xs))
    ≡ without_number p (pages_behind k (z ∷ xs)) in
    let at : P (11 + p) = λ misses. ap (pages_behind k) (without_number-same (11 + p) xs)
    ∙ sym (without_number-missing p (pages_behind k xs) (Misses-queue k p xs misses))
    ∙ ap (without_number p) (sym (queue-else k (11 + p) xs (λ same. omega arith))) in
    subst P is at distinct.0)
    (λ (differ : 11 + p ≢ x).
    let other : x ≢ 11 + p = λ same. differ (sym same) in
    ap (pages_behind k) (without_number-else (11 + p) x xs other)
    ∙ elim (x == k) as (λ b. cond b (pages_to_mark (without_number (11 + p) xs))
    (pages_behind k (without_number (11 + p) xs)) ≡ without_number p
    (cond b (pages_to_mark xs) (pages_behind k xs))) [
      | true ↦ run-without p xs
      | false ↦ queue-without k p xs mark distinct.1
    ])
    (cases_eq (11 + p) x)

pub marks-without : (p : ℕ) (xs : List ℕ) → marks (without_number (11 + p) xs) ≡ marks xs
marks-without p [] = refl
marks-without p (x ∷ xs) = ⊎_elim
    (λ (is : 11 + p ≡ x).
    let P : ℕ → Type 0 = λ z. marks (without_number (11 + p) (z ∷ xs)) ≡ marks (z ∷ xs) in
    let at : P (11 + p) = ap marks (without_number-same (11 + p) xs) ∙ sym (marks-page (11 + p) xs (omega arith)) in
    subst P is at)
    (λ (differ : 11 + p ≢ x).
    ap marks (without_number-else (11 + p) x xs (λ same. differ (sym same)))
    ∙ ap (λ ys. cond (nat_lt x 11) (x ∷ ys) ys) (marks-without p xs))
    (cases_eq (11 + p) x)
