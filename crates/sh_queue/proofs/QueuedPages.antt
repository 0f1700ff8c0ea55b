-- The pages of a chain are those of its queues one after the other, and none occurs twice.
use Rattle.std.proofs.Common.{◌≡◌, ◌≢◌, ℕ, zero, suc, ◌+◌, ◌-◌, ◌<◌, ◌≤◌, ◌⊎◌, ⊎_elim, inl, inr, true, false, cond}
use Rattle.std.proofs.Common.{◌||◌, ◌==◌, List, [], ◌∷◌, ◌++◌, sym, refl, ap, ◌∙◌, subst, arith, eq-eqb}
use Rattle.std.specs.Prelude.{nat_lt}
use Rattle.std.specs.List.{concat}
use Rattle.std.proofs.lemmas.Bool.{cases_eq, cases_lt, false≢true, lt-ltb, le-ltb}
use Rattle.sh_lists.specs.Numbers.{Misses, Distinct, upward}
use Rattle.sh_queue.specs.Numbers.{has_number}
use Rattle.sh_queue.specs.Queues.{pages_to_mark, pages_behind, marks, queues_from}
use Rattle.sh_queue.proofs.Numbers.{has_number-here, has_number-there, has_number-else, has_number-rest}
use Rattle.sh_queue.proofs.Marks.{run-mark, run-page, queue-here, queue-else, paged, heads}
use Rattle.sh_queue.proofs.Marks.{marked}

-- ---- the pages of a queue are pages of the chain

has_number-run : (p : ℕ) (xs : List ℕ) → has_number p (pages_to_mark xs) ≡ true → has_number (11 + p) xs ≡ true
has_number-run p [] here = absurd (false≢true here)
has_number-run p (x ∷ xs) here = ⊎_elim
    (λ (mark : x < 11). absurd (false≢true (ap (has_number p) (sym (run-mark x xs mark)) ∙ here)))
    (λ (page : 11 ≤ x).
    let there : has_number p ((x - 11) ∷ pages_to_mark xs) ≡ true = ap (has_number p) (sym (run-page x xs page))
    ∙ here in
    ⊎_elim
    (λ (same : x - 11 ≡ p).
    let is : 11 + p ≡ x = omega arith in
    subst (λ k. has_number k (x ∷ xs) ≡ true) (sym is) (has_number-here x xs))
    (λ (other : x - 11 ≢ p). has_number-there (11 + p) x xs (has_number-run p xs
    (has_number-rest p (x - 11) (pages_to_mark xs) other there)))
    (cases_eq (x - 11) p))
    (cases_lt x 11)

pub has_number-queue : (k p : ℕ) (xs : List ℕ) → has_number p (pages_behind k xs) ≡ true → has_number (11 + p) xs ≡ true
has_number-queue k p [] here = absurd (false≢true here)
has_number-queue k p (x ∷ xs) here = has_number-there (11 + p) x xs (
    elim (x == k) as (λ b. has_number p (cond b (pages_to_mark xs) (pages_behind k xs)) ≡ true → has_number (11 + p) xs
    ≡ true) [
      | true ↦ has_number-run p xs
      | false ↦ has_number-queue k p xs
    ] here)

-- ---- the queues one after the other

unfoldable pub pages : List ℕ → List ℕ
pages [] = []
pages (x ∷ xs) = cond (nat_lt x 11) (pages xs) ((x - 11) ∷ pages xs)

Misses-pages : (p : ℕ) (xs : List ℕ) → Misses (11 + p) xs → Misses p (pages xs)
unfolding pages
Misses-pages p [] misses = tt
Misses-pages p (x ∷ xs) misses = ⊎_elim
    (λ (mark : x < 11). subst (λ b. Misses p (cond b (pages xs) ((x - 11) ∷ pages xs))) (sym (lt-ltb x 11 mark))
    (Misses-pages p xs misses.1))
    (λ (page : 11 ≤ x).
    let differ : p ≢ x - 11 = λ same. misses.0 (omega arith) in
    subst (λ b. Misses p (cond b (pages xs) ((x - 11) ∷ pages xs))) (sym (le-ltb x 11 page))
    (differ, Misses-pages p xs misses.1))
    (cases_lt x 11)

pub Distinct-pages : (xs : List ℕ) → Distinct xs → Distinct (pages xs)
unfolding pages
Distinct-pages [] distinct = tt
Distinct-pages (x ∷ xs) distinct = ⊎_elim
    (λ (mark : x < 11). subst (λ b. Distinct (cond b (pages xs) ((x - 11) ∷ pages xs))) (sym (lt-ltb x 11 mark))
    (Distinct-pages xs distinct.1))
    (λ (page : 11 ≤ x).
    let is : x ≡ 11 + (x - 11) = omega arith in
    let apart : Misses (11 + (x - 11)) xs = subst (λ k. Misses k xs) is distinct.0 in
    subst (λ b. Distinct (cond b (pages xs) ((x - 11) ∷ pages xs))) (sym (le-ltb x 11 page))
    (Misses-pages (x - 11) xs apart, Distinct-pages xs distinct.1))
    (cases_lt x 11)

pub has_number-pages : (p : ℕ) (xs : List ℕ) → has_number p (pages xs) ≡ has_number (11 + p) xs
unfolding pages
has_number-pages p [] = refl
has_number-pages p (x ∷ xs) = ⊎_elim
    (λ (mark : x < 11).
    ap (λ b. has_number p (cond b (pages xs) ((x - 11) ∷ pages xs))) (lt-ltb x 11 mark)
    ∙ has_number-pages p xs
    ∙ sym (has_number-else (11 + p) x xs (λ same. omega arith)))
    (λ (page : 11 ≤ x).
    ap (λ b. has_number p (cond b (pages xs) ((x - 11) ∷ pages xs))) (le-ltb x 11 page) ∙ ⊎_elim
    (λ (same : x - 11 ≡ p).
    let is : x ≡ 11 + p = omega arith in
    ap (λ b. b || has_number p (pages xs)) (eq-eqb (x - 11) p same)
    ∙ sym (ap (λ b. b || has_number (11 + p) xs) (eq-eqb x (11 + p) is)))
    (λ (other : x - 11 ≢ p).
    has_number-else p (x - 11) (pages xs) other ∙ has_number-pages p xs
    ∙ sym (has_number-else (11 + p) x xs (λ same. other (omega arith))))
    (cases_eq (x - 11) p))
    (cases_lt x 11)

-- the queues of other marks are behind the first number
queues_from-skip : (n k x : ℕ) (xs : List ℕ) → (x < k) ⊎ (k + n ≤ x) → queues_from n k (x ∷ xs) ≡ queues_from n k xs
queues_from-skip zero k x xs outside = refl
queues_from-skip (suc n) k x xs outside =
    let other : x ≢ k = λ same. omega arith in
    let rest : (x < suc k) ⊎ (suc k + n ≤ x) = ⊎_elim
    (λ (below : x < k). let less : x < suc k = omega arith in inl less)
    (λ (above : k + suc n ≤ x). let more : suc k + n ≤ x = omega arith in inr more)
    outside in
    ap (λ ys. ys ∷ queues_from n (suc k) (x ∷ xs)) (queue-else k x xs other)
    ∙ ap (λ zs. pages_behind k xs ∷ zs) (queues_from-skip n (suc k) x xs rest)

-- the pages up to the next mark, and then those of the queues behind
pub run-append-queues
    : (j n : ℕ) (xs : List ℕ)
    → marks xs ≡ upward j n → j + n ≤ 11 → pages_to_mark xs ++ concat (queues_from n j xs) ≡ pages xs
unfolding pages
run-append-queues j zero [] is upto = refl
run-append-queues j (suc n) [] is upto = cc
run-append-queues j n (x ∷ xs) is upto =
    elim (heads x xs j n is) [
      | marked n' n_is small x_is rest ↦
          let before : x < suc j = omega arith in
          let skip : (x < suc j) ⊎ (suc j + n' ≤ x) = inl before in
          ap (λ ys. ys ++ concat (queues_from n j (x ∷ xs))) (run-mark x xs small)
          ∙ ap (λ k. concat (queues_from k j (x ∷ xs))) n_is
          ∙ ap (λ ys. ys ++ concat (queues_from n' (suc j) (x ∷ xs)))
          (ap (λ k. pages_behind k (x ∷ xs)) (sym x_is) ∙ queue-here x xs)
          ∙ ap (λ zs. pages_to_mark xs ++ concat zs) (queues_from-skip n' (suc j) x xs skip)
          ∙ run-append-queues (suc j) n' xs rest (omega arith)
          ∙ sym (ap (λ b. cond b (pages xs) ((x - 11) ∷ pages xs)) (lt-ltb x 11 small))
      | paged page rest ↦
          let beyond : j + n ≤ x = omega arith in
          let skip : (x < j) ⊎ (j + n ≤ x) = inr beyond in
          ap (λ ys. ys ++ concat (queues_from n j (x ∷ xs))) (run-page x xs page)
          ∙ ap (λ zs. (x - 11) ∷ (pages_to_mark xs ++ concat zs)) (queues_from-skip n j x xs skip)
          ∙ ap (λ ys. (x - 11) ∷ ys) (run-append-queues j n xs rest upto)
          ∙ sym (ap (λ b. cond b (pages xs) ((x - 11) ∷ pages xs)) (le-ltb x 11 page))
    ]
