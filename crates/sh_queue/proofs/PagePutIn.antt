-- What the queues in a chain are once a page was put in behind a mark, or ahead of one.
use Rattle.std.proofs.Common.{◌≡◌, ◌≢◌, ℕ, zero, suc, ◌+◌, ◌-◌, ◌<◌, ◌≤◌, ⊎_elim, true, false, cond, ◌==◌, List, []}
use Rattle.std.proofs.Common.{◌∷◌, ◌++◌, sym, refl, ap, ◌∙◌, subst, arith}
use Rattle.std.specs.Prelude.{nat_lt}
use Rattle.std.proofs.lemmas.Bool.{cases_eq, cases_lt, false≢true}
use Rattle.sh_lists.specs.Numbers.{upward}
use Rattle.sh_queue.specs.Numbers.{has_number, put_after, put_before}
use Rattle.sh_queue.specs.Queues.{pages_to_mark, pages_behind, marks}
use Rattle.sh_queue.proofs.Numbers.{has_number-rest}
use Rattle.sh_queue.proofs.PutAfter.{put_behind, put_behind-same, put_behind-else}
use Rattle.sh_queue.proofs.PutBefore.{put_before-same, put_before-else}
use Rattle.sh_queue.proofs.Marks.{run-mark, run-page, queue-here, queue-else, marks-page, paged, heads}
use Rattle.sh_queue.proofs.Marks.{marked}

-- ---- a page is put in behind a mark

pub run-put_after : (c p : ℕ) (xs : List ℕ) → c < 11 → pages_to_mark (put_after c (11 + p) xs) ≡ pages_to_mark xs
run-put_after c p [] mark = refl
run-put_after c p (x ∷ xs) mark = ⊎_elim
    (λ (here : x < 11). run-mark x (put_behind c (11 + p) x xs) here ∙ sym (run-mark x xs here))
    (λ (page : 11 ≤ x).
    let other : x ≢ c = λ same. omega arith in
    run-page x (put_behind c (11 + p) x xs) page
    ∙ ap (λ ys. (x - 11) ∷ pages_to_mark ys) (put_behind-else c (11 + p) x xs other)
    ∙ ap (λ ys. (x - 11) ∷ ys) (run-put_after c p xs mark)
    ∙ sym (run-page x xs page))
    (cases_lt x 11)

pub queue-put_after_same
    : (c p : ℕ) (xs : List ℕ) → c < 11 → has_number c xs ≡ true → pages_behind c (put_after c (11 + p) xs)
    ≡ p ∷ pages_behind c xs
queue-put_after_same c p [] mark here = absurd (false≢true here)
queue-put_after_same c p (x ∷ xs) mark here = ⊎_elim
    (λ (is : c ≡ x).
    let P : ℕ → Type 0 = λ z. pages_behind c (put_after c (11 + p) (z ∷ xs)) ≡ p ∷ pages_behind c (z ∷ xs) in
    let minus : 11 + p - 11 ≡ p = omega arith in
    let at : P c = queue-here c (put_behind c (11 + p) c xs)
    ∙ ap pages_to_mark (put_behind-same c (11 + p) xs)
    ∙ run-page (11 + p) xs (omega arith)
    ∙ ap (λ k. k ∷ pages_to_mark xs) minus
    ∙ ap (λ ys. p ∷ ys) (sym (queue-here c xs)) in
    subst P is at)
    (λ (differ : c ≢ x).
    let other : x ≢ c = λ same. differ (sym same) in
    queue-else c x (put_behind c (11 + p) x xs) other
    ∙ ap (pages_behind c) (put_behind-else c (11 + p) x xs other)
    ∙ queue-put_after_same c p xs mark (has_number-rest c x xs other here)
    ∙ ap (λ ys. p ∷ ys) (sym (queue-else c x xs other)))
    (cases_eq c x)

pub queue-put_after_other
    : (k c p : ℕ) (xs : List ℕ) → k < 11 → c < 11 → k ≢ c → pages_behind k (put_after c (11 + p) xs) ≡ pages_behind k xs
queue-put_after_other k c p [] mark mark' apart = refl
queue-put_after_other k c p (x ∷ xs) mark mark' apart = ⊎_elim
    (λ (is : c ≡ x).
    let P : ℕ → Type 0 = λ z. pages_behind k (put_after c (11 + p) (z ∷ xs)) ≡ pages_behind k (z ∷ xs) in
    let other : c ≢ k = λ same. apart (sym same) in
    let at : P c = queue-else k c (put_behind c (11 + p) c xs) other
    ∙ ap (pages_behind k) (put_behind-same c (11 + p) xs)
    ∙ queue-else k (11 + p) xs (λ same. omega arith)
    ∙ sym (queue-else k c xs other) in
    subst P is at)
    (λ (differ : c ≢ x).
    ap (λ ys. pages_behind k (x ∷ ys)) (put_behind-else c (11 + p) x xs (λ same. differ (sym same)))
    ∙ elim (x == k) as (λ b. cond b (pages_to_mark (put_after c (11 + p) xs)) (pages_behind k (put_after c (11 + p) xs))
    ≡ cond b (pages_to_mark xs) (pages_behind k xs)) [
      | true ↦ run-put_after c p xs mark'
      | false ↦ queue-put_after_other k c p xs mark mark' apart
    ])
    (cases_eq c x)

pub marks-put_after : (s p : ℕ) (xs : List ℕ) → marks (put_after s (11 + p) xs) ≡ marks xs
marks-put_after s p [] = refl
marks-put_after s p (x ∷ xs) =
    let rest : marks (put_behind s (11 + p) x xs) ≡ marks xs =
    elim (x == s) as (λ b. marks (cond b ((11 + p) ∷ xs) (put_after s (11 + p) xs)) ≡ marks xs) [
      | true ↦ marks-page (11 + p) xs (omega arith)
      | false ↦ marks-put_after s p xs
    ] in
    ap (λ ys. cond (nat_lt x 11) (x ∷ ys) ys) rest

-- ---- a page is put in ahead of a mark, if the marks rise by one

-- not ahead of the next mark
pub run-put_before_other
    : (m p j n : ℕ) (xs : List ℕ)
    → marks xs ≡ upward j n → m < 11 → j ≢ m → pages_to_mark (put_before m ((11 + p) ∷ []) xs) ≡ pages_to_mark xs
run-put_before_other m p j n [] is mark apart = refl
run-put_before_other m p j n (x ∷ xs) is mark apart =
    elim (heads x xs j n is) [
      | marked n' n_is small x_is rest ↦
          let other : x ≢ m = λ same. apart (sym x_is ∙ same) in
          ap pages_to_mark (put_before-else m x ((11 + p) ∷ []) xs other)
          ∙ run-mark x (put_before m ((11 + p) ∷ []) xs) small
          ∙ sym (run-mark x xs small)
      | paged page rest ↦
          let other : x ≢ m = λ same. omega arith in
          ap pages_to_mark (put_before-else m x ((11 + p) ∷ []) xs other)
          ∙ run-page x (put_before m ((11 + p) ∷ []) xs) page
          ∙ ap (λ ys. (x - 11) ∷ ys) (run-put_before_other m p j n xs rest mark apart)
          ∙ sym (run-page x xs page)
    ]

-- ahead of the next mark
run-put_before_same
    : (m p n : ℕ) (xs : List ℕ)
    → marks xs ≡ upward m (suc n) → m < 11 → pages_to_mark (put_before m ((11 + p) ∷ []) xs) ≡ pages_to_mark xs
    ++ p ∷ []
run-put_before_same m p n [] is mark = cc
run-put_before_same m p n (x ∷ xs) is mark =
    elim (heads x xs m (suc n) is) [
      | marked n' n_is small x_is rest ↦
          let minus : 11 + p - 11 ≡ p = omega arith in
          let P : ℕ → Type 0 = λ z. z < 11 → pages_to_mark (put_before m ((11 + p) ∷ []) (z ∷ xs))
          ≡ pages_to_mark (z ∷ xs) ++ p ∷ [] in
          let at : P m = λ small. ap pages_to_mark (put_before-same m ((11 + p) ∷ []) xs)
          ∙ run-page (11 + p) (m ∷ xs) (omega arith)
          ∙ ap (λ k. k ∷ pages_to_mark (m ∷ xs)) minus
          ∙ ap (λ ys. p ∷ ys) (run-mark m xs small)
          ∙ ap (λ ys. ys ++ p ∷ []) (sym (run-mark m xs small)) in
          subst P (sym x_is) at small
      | paged page rest ↦
          let other : x ≢ m = λ same. omega arith in
          ap pages_to_mark (put_before-else m x ((11 + p) ∷ []) xs other)
          ∙ run-page x (put_before m ((11 + p) ∷ []) xs) page
          ∙ ap (λ ys. (x - 11) ∷ ys) (run-put_before_same m p n xs rest mark)
          ∙ ap (λ ys. ys ++ p ∷ []) (sym (run-page x xs page))
    ]

pub queue-put_before_other
    : (k m p j n : ℕ) (xs : List ℕ)
    → marks xs ≡ upward j n → k < 11 → m < 11 → suc k ≢ m
    → pages_behind k (put_before m ((11 + p) ∷ []) xs) ≡ pages_behind k xs
queue-put_before_other k m p j n [] is k_mark m_mark apart = refl
queue-put_before_other k m p j n (x ∷ xs) is k_mark m_mark apart = ⊎_elim
    (λ (here : m ≡ x).
    let P : ℕ → Type 0 = λ z. pages_behind k (put_before m ((11 + p) ∷ []) (z ∷ xs)) ≡ pages_behind k (z ∷ xs) in
    let at : P m = ap (pages_behind k) (put_before-same m ((11 + p) ∷ []) xs)
    ∙ queue-else k (11 + p) (m ∷ xs) (λ same. omega arith) in
    subst P here at)
    (λ (differ : m ≢ x).
    ap (pages_behind k) (put_before-else m x ((11 + p) ∷ []) xs (λ same. differ (sym same)))
    ∙ elim (heads x xs j n is) [
      | marked n' n_is small x_is rest ↦ ⊎_elim
          (λ (same : k ≡ x).
          let P : ℕ → Type 0 = λ z. pages_behind z (x ∷ put_before m ((11 + p) ∷ []) xs) ≡ pages_behind z (x ∷ xs) in
          let other : suc j ≢ m = λ is. apart (ap suc (same ∙ x_is) ∙ is) in
          let at : P x = queue-here x (put_before m ((11 + p) ∷ []) xs)
          ∙ run-put_before_other m p (suc j) n' xs rest m_mark other
          ∙ sym (queue-here x xs) in
          subst P (sym same) at)
          (λ (apart' : k ≢ x).
          queue-else k x (put_before m ((11 + p) ∷ []) xs) (λ is. apart' (sym is))
          ∙ queue-put_before_other k m p (suc j) n' xs rest k_mark m_mark apart
          ∙ sym (queue-else k x xs (λ is. apart' (sym is))))
          (cases_eq k x)
      | paged page rest ↦
          let other : x ≢ k = λ same. omega arith in
          queue-else k x (put_before m ((11 + p) ∷ []) xs) other
          ∙ queue-put_before_other k m p j n xs rest k_mark m_mark apart
          ∙ sym (queue-else k x xs other)
    ])
    (cases_eq m x)

pub queue-put_before_same
    : (c p j n : ℕ) (xs : List ℕ)
    → marks xs ≡ upward j n → j ≤ c → suc c < j + n → suc c < 11
    → pages_behind c (put_before (suc c) ((11 + p) ∷ []) xs) ≡ pages_behind c xs ++ p ∷ []
queue-put_before_same c p j zero [] is from upto mark = absurd (omega arith)
queue-put_before_same c p j (suc n) [] is from upto mark = cc
queue-put_before_same c p j n (x ∷ xs) is from upto mark =
    elim (heads x xs j n is) [
      | marked n' n_is small x_is rest ↦
          let ahead : x ≢ suc c = λ same. omega arith in
          ap (pages_behind c) (put_before-else (suc c) x ((11 + p) ∷ []) xs ahead) ∙ ⊎_elim
          (λ (same : c ≡ x).
          let P : ℕ → Type 0 = λ z. pages_behind z (x ∷ put_before (suc c) ((11 + p) ∷ []) xs) ≡ pages_behind z (x ∷ xs)
          ++ p ∷ [] in
          let some : 0 < n' = omega arith in
          let at : P x = queue-here x (put_before (suc c) ((11 + p) ∷ []) xs)
          ∙ run-next c p n' xs (rest ∙ ap (λ k. upward (suc k) n') (sym x_is ∙ sym same)) some mark
          ∙ ap (λ ys. ys ++ p ∷ []) (sym (queue-here x xs)) in
          subst P (sym same) at)
          (λ (differ : c ≢ x).
          queue-else c x (put_before (suc c) ((11 + p) ∷ []) xs) (λ is. differ (sym is))
          ∙ queue-put_before_same c p (suc j) n' xs rest (omega arith) (omega arith) mark
          ∙ ap (λ ys. ys ++ p ∷ []) (sym (queue-else c x xs (λ is. differ (sym is)))))
          (cases_eq c x)
      | paged page rest ↦
          let other : x ≢ suc c = λ same. omega arith in
          let apart : x ≢ c = λ same. omega arith in
          ap (pages_behind c) (put_before-else (suc c) x ((11 + p) ∷ []) xs other)
          ∙ queue-else c x (put_before (suc c) ((11 + p) ∷ []) xs) apart
          ∙ queue-put_before_same c p j n xs rest from upto mark
          ∙ ap (λ ys. ys ++ p ∷ []) (sym (queue-else c x xs apart))
    ] where
      run-next
          : (c p n : ℕ) (xs : List ℕ)
          → marks xs ≡ upward (suc c) n → 0 < n → suc c < 11
          → pages_to_mark (put_before (suc c) ((11 + p) ∷ []) xs) ≡ pages_to_mark xs ++ p ∷ []
      run-next c p zero xs is some mark = absurd (omega arith)
      run-next c p (suc n) xs is some mark = run-put_before_same (suc c) p n xs is mark

pub marks-put_before : (m p : ℕ) (xs : List ℕ) → marks (put_before m ((11 + p) ∷ []) xs) ≡ marks xs
marks-put_before m p [] = refl
marks-put_before m p (x ∷ xs) =
    elim (x == m) as (λ b. marks (cond b ((11 + p) ∷ x ∷ xs) (x ∷ put_before m ((11 + p) ∷ []) xs)) ≡ marks (x ∷ xs)) [
      | true ↦ marks-page (11 + p) (x ∷ xs) (omega arith)
      | false ↦ ap (λ ys. cond (nat_lt x 11) (x ∷ ys) ys) (marks-put_before m p xs)
    ]
