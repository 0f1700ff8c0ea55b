-- The front page and the last page of a queue are beside the marks in the chain.
use Rattle.std.proofs.Common.{◌≡◌, ◌≢◌, ℕ, zero, suc, ◌+◌, ◌-◌, ◌<◌, ◌≤◌, ⊎_elim, true, false, cond, ◌==◌, List, []}
use Rattle.std.proofs.Common.{◌∷◌, get_or, sym, refl, ap, ◌∙◌, subst, arith, eq-eqb, ne_eqb, Some, None}
use Rattle.std.specs.Prelude.{nat_lt, slice_get}
use Rattle.std.specs.List.{last_or}
use Rattle.std.proofs.lemmas.Bool.{cases_eq}
use Rattle.sh_lists.specs.Numbers.{upward}
use Rattle.sh_queue.specs.Numbers.{following, preceding_from}
use Rattle.sh_queue.specs.Queues.{page_numbered, pages_to_mark, pages_behind, marks}
use Rattle.sh_queue.proofs.Marks.{run-mark, run-page, queue-here, queue-else, page_of-page, page_of-mark}
use Rattle.sh_queue.proofs.Marks.{marked}
use Rattle.sh_queue.proofs.Marks.{paged, heads}

-- the number behind a mark is the front page, or the next mark
pub page_of-following : (c : ℕ) (xs : List ℕ) → page_numbered (following c xs) ≡ slice_get (pages_behind c xs) 0
page_of-following c [] = refl
page_of-following c (x ∷ xs) =
    elim (x == c) as (λ b. page_numbered (cond b (get_or xs 0 0) (following c xs))
    ≡ slice_get (cond b (pages_to_mark xs) (pages_behind c xs)) 0) [
      | true ↦ first xs
      | false ↦ page_of-following c xs
    ] where
      first : (xs : List ℕ) → page_numbered (get_or xs 0 0) ≡ slice_get (pages_to_mark xs) 0
      first [] = refl
      first (y ∷ ys) = elim (nat_lt y 11) as (λ b. cond b None (Some (y - 11))
          ≡ slice_get (cond b [] ((y - 11) ∷ pages_to_mark ys)) 0) [
            | true ↦ refl
            | false ↦ refl
          ]

page_of-preceding_next
    : (m a n : ℕ) (xs : List ℕ)
    → marks xs ≡ upward m (suc n) → m < 11 → page_numbered (preceding_from a m xs)
    ≡ last_or (page_numbered a) (pages_to_mark xs)
page_of-preceding_next m a n [] is mark = cc
page_of-preceding_next m a n (x ∷ xs) is mark =
    elim (heads x xs m (suc n) is) [
      | marked n' n_is small x_is rest ↦
          ap page_numbered (ap (λ b. cond b a (preceding_from x m xs)) (eq-eqb x m x_is))
          ∙ ap (last_or (page_numbered a)) (sym (run-mark x xs small))
      | paged page rest ↦
          let other : x ≢ m = λ same. omega arith in
          ap page_numbered (ap (λ b. cond b a (preceding_from x m xs)) (ne_eqb x m other))
          ∙ page_of-preceding_next m x n xs rest mark
          ∙ ap (λ o. last_or o (pages_to_mark xs)) (page_of-page x page)
          ∙ ap (last_or (page_numbered a)) (sym (run-page x xs page))
    ]

-- the number ahead of the next mark is the last page, or the mark
pub page_of-preceding
    : (c a j n : ℕ) (xs : List ℕ)
    → marks xs ≡ upward j n → j ≤ c → suc c < j + n → suc c < 11
    → page_numbered (preceding_from a (suc c) xs) ≡ last_or None (pages_behind c xs)
page_of-preceding c a j zero [] is from upto mark = absurd (omega arith)
page_of-preceding c a j (suc n) [] is from upto mark = cc
page_of-preceding c a j n (x ∷ xs) is from upto mark =
    elim (heads x xs j n is) [
      | marked n' n_is small x_is rest ↦
          let ahead : x ≢ suc c = λ same. omega arith in
          ap page_numbered (ap (λ b. cond b a (preceding_from x (suc c) xs)) (ne_eqb x (suc c) ahead)) ∙ ⊎_elim
          (λ (same : c ≡ x).
          let P : ℕ → Type 0 = λ z. page_numbered (preceding_from x (suc c) xs)
          ≡ last_or None (pages_behind z (x ∷ xs)) in
          let some : 0 < n' = omega arith in
          let at : P x = next c x n' xs (rest ∙ ap (λ k. upward (suc k) n') (sym x_is ∙ sym same)) some mark small
          ∙ ap (last_or None) (sym (queue-here x xs)) in
          subst P (sym same) at)
          (λ (differ : c ≢ x).
          page_of-preceding c x (suc j) n' xs rest (omega arith) (omega arith) mark
          ∙ ap (last_or None) (sym (queue-else c x xs (λ is. differ (sym is)))))
          (cases_eq c x)
      | paged page rest ↦
          let other : x ≢ suc c = λ same. omega arith in
          let apart : x ≢ c = λ same. omega arith in
          ap page_numbered (ap (λ b. cond b a (preceding_from x (suc c) xs)) (ne_eqb x (suc c) other))
          ∙ page_of-preceding c x j n xs rest from upto mark
          ∙ ap (last_or None) (sym (queue-else c x xs apart))
    ] where
      next
          : (c a n : ℕ) (xs : List ℕ)
          → marks xs ≡ upward (suc c) n → 0 < n → suc c < 11 → a < 11
          → page_numbered (preceding_from a (suc c) xs) ≡ last_or None (pages_to_mark xs)
      next c a zero xs is some mark small = absurd (omega arith)
      next c a (suc n) xs is some mark small =
          page_of-preceding_next (suc c) a n xs is mark ∙ ap (λ o. last_or o (pages_to_mark xs)) (page_of-mark a small)
