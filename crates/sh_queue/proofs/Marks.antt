-- The marks and the pages in a chain's numbers, and the queue behind a mark.
use Rattle.std.proofs.Common.{◌≡◌, ◌≢◌, ℕ, zero, suc, ◌-◌, ◌<◌, ◌≤◌, ⊎_elim, true, false, cond, List, [], ◌∷◌, sym}
use Rattle.std.proofs.Common.{refl, ap, ◌∙◌, subst, arith, eq-eqb, ne_eqb, Some, None}
use Rattle.std.specs.Prelude.{nat_lt}
use Rattle.std.proofs.lemmas.Bool.{cases_eq, cases_lt, false≢true, lt-ltb, le-ltb}
use Rattle.sh_lists.specs.Numbers.{upward}
use Rattle.sh_queue.specs.Numbers.{has_number}
use Rattle.sh_queue.specs.Queues.{page_numbered, pages_to_mark, pages_behind, marks}
use Rattle.sh_queue.proofs.Numbers.{has_number-here, has_number-there, has_number-rest, has_number-upward}

pub run-mark : (x : ℕ) (xs : List ℕ) → x < 11 → pages_to_mark (x ∷ xs) ≡ []
run-mark x xs mark = ap (λ b. cond b [] ((x - 11) ∷ pages_to_mark xs)) (lt-ltb x 11 mark)

pub run-page : (x : ℕ) (xs : List ℕ) → 11 ≤ x → pages_to_mark (x ∷ xs) ≡ (x - 11) ∷ pages_to_mark xs
run-page x xs page = ap (λ b. cond b [] ((x - 11) ∷ pages_to_mark xs)) (le-ltb x 11 page)

pub queue-here : (k : ℕ) (xs : List ℕ) → pages_behind k (k ∷ xs) ≡ pages_to_mark xs
queue-here k xs = ap (λ b. cond b (pages_to_mark xs) (pages_behind k xs)) (eq-eqb k k refl)

pub queue-else : (k x : ℕ) (xs : List ℕ) → x ≢ k → pages_behind k (x ∷ xs) ≡ pages_behind k xs
queue-else k x xs other = ap (λ b. cond b (pages_to_mark xs) (pages_behind k xs)) (ne_eqb x k other)

marks-mark : (x : ℕ) (xs : List ℕ) → x < 11 → marks (x ∷ xs) ≡ x ∷ marks xs
marks-mark x xs mark = ap (λ b. cond b (x ∷ marks xs) (marks xs)) (lt-ltb x 11 mark)

pub marks-page : (x : ℕ) (xs : List ℕ) → 11 ≤ x → marks (x ∷ xs) ≡ marks xs
marks-page x xs page = ap (λ b. cond b (x ∷ marks xs) (marks xs)) (le-ltb x 11 page)

pub page_of-page : (x : ℕ) → 11 ≤ x → page_numbered x ≡ Some (x - 11)
page_of-page x page = ap (λ b. cond b None (Some (x - 11))) (le-ltb x 11 page)

pub page_of-mark : (x : ℕ) → x < 11 → page_numbered x ≡ None
page_of-mark x mark = ap (λ b. cond b None (Some (x - 11))) (lt-ltb x 11 mark)

-- the first number, if the marks are those from j on: it is j, or a page
pub data Heads (j n x : ℕ) (xs : List ℕ) : Type 0 where
  marked : (m : ℕ) → n ≡ suc m → x < 11 → x ≡ j → marks xs ≡ upward (suc j) m → Heads j n x xs
  paged : 11 ≤ x → marks xs ≡ upward j n → Heads j n x xs

heads_of : (x : ℕ) (xs : List ℕ) (j n : ℕ) → x < 11 → x ∷ marks xs ≡ upward j n → Heads j n x xs
heads_of x xs j zero mark is = cc
heads_of x xs j (suc m) mark is =
    let first : x ≡ j = cc in
    let rest : marks xs ≡ upward (suc j) m = cc in
    marked m refl mark first rest

pub heads : (x : ℕ) (xs : List ℕ) (j n : ℕ) → marks (x ∷ xs) ≡ upward j n → Heads j n x xs
heads x xs j n is = ⊎_elim
    (λ (mark : x < 11). heads_of x xs j n mark (sym (marks-mark x xs mark) ∙ is))
    (λ (page : 11 ≤ x). paged page (sym (marks-page x xs page) ∙ is))
    (cases_lt x 11)

-- a mark is in the chain
has_number-marks : (c : ℕ) (xs : List ℕ) → has_number c (marks xs) ≡ true → has_number c xs ≡ true
has_number-marks c [] here = absurd (false≢true here)
has_number-marks c (x ∷ xs) here =
    elim (nat_lt x 11) as (λ b. has_number c (cond b (x ∷ marks xs) (marks xs)) ≡ true → has_number c (x ∷ xs) ≡ true) [
      | true ↦ (λ here. ⊎_elim
          (λ (is : x ≡ c). subst (λ z. has_number z (x ∷ xs) ≡ true) is (has_number-here x xs))
          (λ (other : x ≢ c). has_number-there c x xs (has_number-marks c xs
          (has_number-rest c x (marks xs) other here)))
          (cases_eq x c))
      | false ↦ (λ here. has_number-there c x xs (has_number-marks c xs here))
    ] here

pub has_number-mark : (c : ℕ) (xs : List ℕ) → marks xs ≡ upward 0 11 → c < 11 → has_number c xs ≡ true
has_number-mark c xs is mark = has_number-marks c xs (ap (has_number c) is
    ∙ has_number-upward c 0 11 (omega arith) mark)
