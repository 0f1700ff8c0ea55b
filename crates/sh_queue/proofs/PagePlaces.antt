-- The place of a page, if each opened page is in the queues once: each opened page is in exactly one queue.
use Rattle.std.proofs.Common.{◌≡◌, ◌≢◌, ℕ, ◌+◌, ◌<◌, ◌≤◌, ◌⊎◌, inl, inr, Bool, true, false, List, [], ◌∷◌, length}
use Rattle.std.proofs.Common.{refl, arith}
use Rattle.std.specs.List.{concat}
use Rattle.sh_lists.specs.Numbers.{Distinct, AllBelow}
use Rattle.sh_lists.proofs.Distincts.{length-le_from_Distinct}
use Rattle.sh_queue.specs.Numbers.{has_number}
use Rattle.sh_queue.specs.Queues.{PageQueues, EachOnce, class_queue, queued_pages}
use Rattle.sh_queue.proofs.Numbers.{has_number-here, has_number-there}
use Rattle.sh_queue.proofs.Times.{times, times-none, times-some, has_number-from_times, hasnt-from_times, times-le}
use Rattle.sh_queue.proofs.Times.{Distinct-from_times, times-le_concat, times-two_le_concat, has_number-one_of}
use Rattle.sh_queue.proofs.StandOnce.{times-all, times-opened}

-- the numbers of a list are below n
pub AllBelow-from_has : (n : ℕ) (xs : List ℕ) → ((k : ℕ) → has_number k xs ≡ true → k < n) → AllBelow n xs
AllBelow-from_has n [] below = tt
AllBelow-from_has n (x ∷ xs) below = (
  below x (has_number-here x xs),
  AllBelow-from_has n xs
      (λ k here. below k (has_number-there k x xs here)),
)

-- a page occurs at most once in all queues
times-few : (k : ℕ) (q : PageQueues) → EachOnce q → times k (concat q.classes) + (times k q.full + times k q.blank) ≤ 1
times-few k q once = let all = times-all k q in let few = times-le (queued_pages q) once.once k in omega arith

module _ (p : ℕ) (q : PageQueues) (once : EachOnce q) where
  -- a page of a class is in no other class, and neither full nor blank
  pub class_apart : (c : ℕ) → has_number p (class_queue q c) ≡ true → (has_number p q.full ≡ false)
      × (has_number p q.blank ≡ false)
  class_apart c here =
      let few = times-few p q once in
      let some = times-some p (class_queue q c) here in
      let among = times-le_concat p c q.classes in
      (hasnt-from_times p q.full (omega arith), hasnt-from_times p q.blank (omega arith))

  pub classes_apart : (c d : ℕ) → c ≢ d → has_number p (class_queue q c) ≡ true → has_number p (class_queue q d) ≡ false
  classes_apart c d other here =
      let few = times-few p q once in
      let some = times-some p (class_queue q c) here in
      let both = times-two_le_concat p c d q.classes other in
      hasnt-from_times p (class_queue q d) (omega arith)

  -- a full page is of no class, and not blank
  pub full_apart : has_number p q.full ≡ true → ((c : ℕ) → has_number p (class_queue q c) ≡ false)
      × (has_number p q.blank ≡ false)
  full_apart here =
      let few = times-few p q once in
      let some = times-some p q.full here in (
        (λ c. let among = times-le_concat p c q.classes in hasnt-from_times p (class_queue q c) (omega arith)),
        hasnt-from_times p q.blank (omega arith),
      )

  -- a blank page is of no class, and not full
  pub blank_apart : has_number p q.blank ≡ true → ((c : ℕ) → has_number p (class_queue q c) ≡ false)
      × (has_number p q.full ≡ false)
  blank_apart here =
      let few = times-few p q once in
      let some = times-some p q.blank here in (
        (λ c. let among = times-le_concat p c q.classes in hasnt-from_times p (class_queue q c) (omega arith)),
        hasnt-from_times p q.full (omega arith),
      )

  -- a page of any queue is opened
  some_opened : 0 < times p (concat q.classes) + (times p q.full + times p q.blank) → p < q.opened
  some_opened some = (once.opened p).0 (has_number-from_times p (queued_pages q)
      (let all = times-all p q in omega arith))

  pub class_opened : (c : ℕ) → has_number p (class_queue q c) ≡ true → p < q.opened
  class_opened c here =
      let some = times-some p (class_queue q c) here in
      let among = times-le_concat p c q.classes in some_opened (omega arith)

  pub full_opened : has_number p q.full ≡ true → p < q.opened
  full_opened here = let some = times-some p q.full here in some_opened (omega arith)

  pub blank_opened : has_number p q.blank ≡ true → p < q.opened
  blank_opened here = let some = times-some p q.blank here in some_opened (omega arith)

  -- an opened page is of a class, full or blank
  pub opened_somewhere : p < q.opened → ((c : ℕ) × (c < 8) × (has_number p (class_queue q c) ≡ true))
      ⊎ ((has_number p q.full ≡ true) ⊎ (has_number p q.blank ≡ true))
  opened_somewhere inside = go (has_number p q.full) refl (has_number p q.blank) refl where
    go : (b : Bool) → has_number p q.full ≡ b → (d : Bool) → has_number p q.blank ≡ d
        → ((c : ℕ) × (c < 8) × (has_number p (class_queue q c) ≡ true))
        ⊎ ((has_number p q.full ≡ true) ⊎ (has_number p q.blank ≡ true))
    go true is d is' = inr (inl is)
    go false is true is' = inr (inr is')
    go false is false is' =
        let all = times-all p q in
        let one = times-opened p q once inside in
        let full = times-none p q.full is in
        let blank = times-none p q.blank is' in
        let found = has_number-one_of p q.classes (omega arith) in
        let eight = once.classes in
        inl (found.0, omega (arith, found.1), found.2)

module _ (q : PageQueues) (once : EachOnce q) where
  -- no page occurs twice in a queue
  pub class_distinct : (c : ℕ) → Distinct (class_queue q c)
  class_distinct c = Distinct-from_times (class_queue q c)
      (λ k. let few = times-few k q once in let among = times-le_concat k c q.classes in omega arith)

  pub full_distinct : Distinct q.full
  full_distinct = Distinct-from_times q.full (λ k. let few = times-few k q once in omega arith)

  pub blank_distinct : Distinct q.blank
  blank_distinct = Distinct-from_times q.blank (λ k. let few = times-few k q once in omega arith)

  -- a class has no more pages than are opened
  pub length-class_queue : (c : ℕ) → length (class_queue q c) ≤ q.opened
  length-class_queue c =
      length-le_from_Distinct q.opened (class_queue q c) (class_distinct c)
      (AllBelow-from_has q.opened (class_queue q c) (λ k here. class_opened k q once c here))
