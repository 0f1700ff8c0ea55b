-- The pages of each queue after a move, in the form that callers that move pages need.
use Rattle.std.proofs.Common.{◌≡◌, ◌≢◌, ℕ, ◌+◌, ◌<◌, ◌≤◌, ◌⊎◌, ⊎_elim, inl, inr, true, List, [], ◌∷◌, ◌++◌, map}
use Rattle.std.proofs.Common.{length, sym, ap, ◌∙◌, arith}
use Rattle.std.proofs.lemmas.Bool.{cases_eq, cases_lt, or_cases}
use Rattle.std.proofs.Math.ListN.{get_or-map}
use Rattle.std.proofs.lemmas.List.{get_or-set_same, get_or-set_other, length-map}
use Rattle.sh_lists.specs.Numbers.{upward}
use Rattle.sh_queue.specs.Numbers.{has_number, without_number}
use Rattle.sh_queue.specs.Queues.{PageQueues, class_queue, taken_out, with_class, at_front, at_back, among_full}
use Rattle.sh_queue.specs.Queues.{one_more_segment}
use Rattle.sh_queue.proofs.Numbers.{has_number-append}
use Rattle.sh_queue.proofs.Without.{without_number-same}
use Rattle.sh_queue.proofs.Times.{times, times-some, times-upward_outside}
use Rattle.sh_queue.proofs.PutBack.{has_number-from_without, has_number-in_front, has_number-in_back}

module _ (c p : ℕ) (q : PageQueues) where
  class_queue-with_class_same : (pages : List ℕ) → c < length q.classes
      → class_queue (with_class c pages (taken_out p q)) c ≡ pages
  class_queue-with_class_same pages inside =
      get_or-set_same (map (without_number p) q.classes) c pages []
      (let same = length-map q.classes (without_number p) in omega arith)

  class_queue-with_class_other : (pages : List ℕ) (d : ℕ) → d ≢ c → class_queue (with_class c pages (taken_out p q)) d
      ≡ without_number p (class_queue q d)
  class_queue-with_class_other pages d other =
      get_or-set_other (map (without_number p) q.classes) c d pages [] other
      ∙ get_or-map (without_number p) q.classes d []

  -- at the front of class c: the class, and another class
  pub class_queue-at_front_same : c < length q.classes → class_queue (at_front c p q) c
      ≡ p ∷ without_number p (class_queue q c)
  class_queue-at_front_same inside = class_queue-with_class_same (p ∷ without_number p (class_queue q c)) inside

  pub class_queue-at_front_other : (d : ℕ) → d ≢ c → class_queue (at_front c p q) d ≡ without_number p (class_queue q d)
  class_queue-at_front_other d other = class_queue-with_class_other (p ∷ without_number p (class_queue q c)) d other

  -- at the back of class c: the class, and another class
  pub class_queue-at_back_same : c < length q.classes → class_queue (at_back c p q) c
      ≡ without_number p (class_queue q c) ++ p ∷ []
  class_queue-at_back_same inside = class_queue-with_class_same (without_number p (class_queue q c) ++ p ∷ []) inside

  pub class_queue-at_back_other : (d : ℕ) → d ≢ c → class_queue (at_back c p q) d ≡ without_number p (class_queue q d)
  class_queue-at_back_other d other = class_queue-with_class_other (without_number p (class_queue q c) ++ p ∷ []) d
      other

  -- the front page of class c went to its back
  pub class_queue-at_back_front : (rest : List ℕ) → c < length q.classes → class_queue q c ≡ p ∷ rest
      → class_queue (at_back c p q) c ≡ rest ++ p ∷ []
  class_queue-at_back_front rest inside is =
      class_queue-at_back_same inside ∙ ap (λ xs. xs ++ p ∷ []) (ap (without_number p) is ∙ without_number-same p rest)

  -- in the full queue: each class
  pub class_queue-among_full : (d : ℕ) → class_queue (among_full p q) d ≡ without_number p (class_queue q d)
  class_queue-among_full d = get_or-map (without_number p) q.classes d []

  -- the front page of class c went to the full queue
  pub class_queue-among_full_front : (rest : List ℕ) → class_queue q c ≡ p ∷ rest → class_queue (among_full p q) c
      ≡ rest
  class_queue-among_full_front rest is = class_queue-among_full c ∙ ap (without_number p) is
      ∙ without_number-same p rest

  -- a page in a class after a move was there before, or is the moved page in its new class
  pub has_number-at_front : (d r : ℕ) → c < length q.classes → has_number r (class_queue (at_front c p q) d) ≡ true
      → (has_number r (class_queue q d) ≡ true) ⊎ ((d ≡ c) × (r ≡ p))
  has_number-at_front d r inside here = ⊎_elim
      (λ (is : d ≡ c). ⊎_elim
      (λ (h : has_number r (class_queue q c) ≡ true). inl (ap (λ z. has_number r (class_queue q z)) is ∙ h))
      (λ (h : r ≡ p). inr (is, h))
      (has_number-in_front r p (class_queue q c) (sym (ap (has_number r)
      (ap (class_queue (at_front c p q)) is ∙ class_queue-at_front_same inside)) ∙ here)))
      (λ (other : d ≢ c). inl (has_number-from_without r p (class_queue q d)
      (sym (ap (has_number r) (class_queue-at_front_other d other)) ∙ here)))
      (cases_eq d c)

  pub has_number-at_back : (d r : ℕ) → c < length q.classes → has_number r (class_queue (at_back c p q) d) ≡ true
      → (has_number r (class_queue q d) ≡ true) ⊎ ((d ≡ c) × (r ≡ p))
  has_number-at_back d r inside here = ⊎_elim
      (λ (is : d ≡ c). ⊎_elim
      (λ (h : has_number r (class_queue q c) ≡ true). inl (ap (λ z. has_number r (class_queue q z)) is ∙ h))
      (λ (h : r ≡ p). inr (is, h))
      (has_number-in_back r p (class_queue q c) (sym (ap (has_number r)
      (ap (class_queue (at_back c p q)) is ∙ class_queue-at_back_same inside)) ∙ here)))
      (λ (other : d ≢ c). inl (has_number-from_without r p (class_queue q d)
      (sym (ap (has_number r) (class_queue-at_back_other d other)) ∙ here)))
      (cases_eq d c)

  pub has_number-among_full : (d r : ℕ) → has_number r (class_queue (among_full p q) d) ≡ true
      → has_number r (class_queue q d) ≡ true
  has_number-among_full d r here = has_number-from_without r p (class_queue q d)
      (sym (ap (has_number r) (class_queue-among_full d)) ∙ here)

-- the blank pages once a segment is opened: a page was there before, or is one of the 8
pub has_number-one_more_segment : (r : ℕ) (q : PageQueues) → has_number r (one_more_segment q).blank ≡ true
    → (has_number r q.blank ≡ true) ⊎ ((q.opened ≤ r) × (r < q.opened + 8))
has_number-one_more_segment r q here =
    ⊎_elim
    (λ (h : has_number r q.blank ≡ true). inl h)
    (λ (h : has_number r (upward q.opened 8) ≡ true).
    let some = times-some r (upward q.opened 8) h in
    inr (not_below some, not_above some))
    (or_cases (has_number r q.blank) (has_number r (upward q.opened 8))
    (sym (has_number-append r q.blank (upward q.opened 8)) ∙ here))
  where
    not_below : 0 < times r (upward q.opened 8) → q.opened ≤ r
    not_below some = ⊎_elim
        (λ (h : r < q.opened). let none = times-upward_outside r q.opened 8 (inl h) in absurd (omega arith))
        (λ (h : q.opened ≤ r). h)
        (cases_lt r q.opened)

    not_above : 0 < times r (upward q.opened 8) → r < q.opened + 8
    not_above some = ⊎_elim
        (λ (h : r < q.opened + 8). h)
        (λ (h : q.opened + 8 ≤ r). let none = times-upward_outside r q.opened 8 (inr h) in absurd (omega arith))
        (cases_lt r (q.opened + 8))
