-- Pages that are filed in ascending order.
use Rattle.std.proofs.Common.{◌≡◌, ◌≢◌, ℕ, suc, ◌+◌, ◌-◌, ◌<◌, ◌≤◌, ◌||◌, ◌⊎◌, inl, inr, ⊎_elim, Bool, true, false}
use Rattle.std.proofs.Common.{List, [], ◌∷◌, ◌++◌, append_assoc, append-nil, length, refl, ap, ◌∙◌, sym, subst}
use Rattle.std.proofs.Common.{arith}
use Rattle.std.proofs.lemmas.Bool.{cases_eq, false≢true}
use Rattle.sh_queue.specs.Numbers.{has_number, RisesFrom}
use Rattle.sh_queue.specs.Queues.{PageQueues, EachOnce, class_queue, at_back}
use Rattle.sh_queue.proofs.Numbers.{has_number-append, has_number-here, has_number-there}
use Rattle.sh_queue.proofs.PutBack.{has_number-only, without_number-hasnt}
use Rattle.sh_queue.proofs.ClassQueues.{class_queue-at_back_same, class_queue-at_back_other}
use Rattle.sh_queue.proofs.PagePlaces.{class_apart}
use Rattle.sh_shard.specs.Pages.{Paged, page_at, seen_class}
use Rattle.sh_shard.specs.Shards.{FullPage, ReturnsPage, ReturnsBelow}
use Rattle.sh_shard.specs.Filing.{ReturnsRising}
use Rattle.sh_shard.specs.Returning.{ReturnedBelow}

-- a number above all others goes behind them
pub rises_append : (low k : ℕ) (xs : List ℕ) → RisesFrom low xs → low ≤ k
    → ((p : ℕ) → has_number p xs ≡ true → p < k) → RisesFrom low (xs ++ k ∷ [])
rises_append low k [] r l below = (l, tt)
rises_append low k (x ∷ xs) r l below = (
  r.0,
  rises_append (suc x) k xs r.1 (let b = below x (has_number-here x xs) in omega arith)
      (λ p here. below p (has_number-there p x xs here)),
)

either : (a b : Bool) → a || b ≡ true → (a ≡ true) ⊎ (b ≡ true)
either true b e = inl refl
either false b e = inr e

-- a number in the list with k at its end was there before, or is k
pub is_behind : (p k : ℕ) (xs : List ℕ) → has_number p (xs ++ k ∷ []) ≡ true → (has_number p xs ≡ true) ⊎ (p ≡ k)
is_behind p k xs here = ⊎_elim
    (λ (h : has_number p xs ≡ true). inl h)
    (λ (h : has_number p (k ∷ []) ≡ true). inr (has_number-only p k h))
    (either (has_number p xs) (has_number p (k ∷ [])) (sym (has_number-append p xs (k ∷ [])) ∙ here))

-- the number is also below the next one
pub below_append : (k : ℕ) (xs : List ℕ) → ((p : ℕ) → has_number p xs ≡ true → p < k) → (p : ℕ)
    → has_number p (xs ++ k ∷ []) ≡ true → p < k + 1
below_append k xs below p here = ⊎_elim
    (λ (h : has_number p xs ≡ true). let b = below p h in omega arith)
    (λ (h : p ≡ k). omega arith)
    (is_behind p k xs here)

-- ---- the queue of each class after page k, which was in no class, went to the back of class d

module _ (d k : ℕ) (q : PageQueues) (inside : d < length q.classes)
    (none : (c : ℕ) → has_number k (class_queue q c) ≡ false) where
  pub back_same : class_queue (at_back d k q) d ≡ class_queue q d ++ k ∷ []
  back_same = class_queue-at_back_same d k q inside
      ∙ ap (λ xs. xs ++ k ∷ []) (without_number-hasnt k (class_queue q d) (none d))

  pub back_other : (c : ℕ) → c ≢ d → class_queue (at_back d k q) c ≡ class_queue q c
  back_other c other = class_queue-at_back_other d k q c other
      ∙ without_number-hasnt k (class_queue q c) (none c)

-- a full page is in no class
full_apart : (k : ℕ) (q : PageQueues) → EachOnce q → has_number k q.full ≡ true → (c : ℕ)
    → has_number k (class_queue q c) ≡ false
full_apart k q once full c = go (has_number k (class_queue q c)) refl where
  go : (b : Bool) → has_number k (class_queue q c) ≡ b → b ≡ false
  go false is = refl
  go true is = absurd (false≢true (sym (class_apart k q once c is).0 ∙ full))

-- ---- pages that come back

pub returned_none : (q : PageQueues) → ReturnedBelow 0 q q
returned_none q = record {
  opened = refl;
  classes = λ c. ([], sym (append-nil (class_queue q c)), tt, λ p here. absurd (false≢true here));
}

pub returned_more : (k : ℕ) (v : Paged) (q r t : PageQueues) → ReturnedBelow k q r → EachOnce r
    → (has_number k r.full ≡ true → (0 < seen_class (page_at v k)) × (seen_class (page_at v k) ≤ 8))
    → ReturnsPage k v r t → ReturnedBelow (k + 1) q t
returned_more k v q r t b once word why = ⊎_elim
    (λ (h : (t ≡ r) × ((has_number k r.full ≡ false) ⊎ FullPage (page_at v k))).
    subst (ReturnedBelow (k + 1) q) (sym h.0) (record {
      opened = b.opened;
      classes = λ c. let z = b.classes c in (z.0, z.1, z.2, λ p here. let l = z.3 p here in omega arith);
    }))
    (λ (h : (has_number k r.full ≡ true) × (t ≡ at_back (seen_class (page_at v k) - 1) k r)
    × (¬ FullPage (page_at v k))).
    subst (ReturnedBelow (k + 1) q) (sym h.1) (went h.0))
    why
  where
    d : ℕ
    d = seen_class (page_at v k) - 1

    went : has_number k r.full ≡ true → ReturnedBelow (k + 1) q (at_back d k r)
    went full =
        let none = full_apart k r once full in
        let inside : d < length r.classes = let e = once.classes in let w = word full in let w0 = w.0 in let w1 = w.1
        in omega arith in record {
          opened = b.opened;
          classes = λ c. let z = b.classes c in ⊎_elim
              (λ (is : c ≡ d). (
                z.0 ++ k ∷ [],
                ap (class_queue (at_back d k r)) is ∙ (back_same d k r inside none
                    ∙ (ap (λ xs. xs ++ k ∷ []) (ap (class_queue r) (sym is) ∙ z.1)
                    ∙ append_assoc (class_queue q c) z.0 (k ∷ []))),
                rises_append 0 k z.0 z.2 (omega arith) z.3,
                below_append k z.0 z.3,
              ))
              (λ (other : c ≢ d). (
                z.0,
                back_other d k r inside none c other ∙ z.1,
                z.2,
                λ p here. let l = z.3 p here in omega arith,
              ))
              (cases_eq c d);
        }

pub returns_rising : (k : ℕ) (q r : PageQueues) → ReturnedBelow k q r → ReturnsRising q r
returns_rising k q r b = record {
  opened = b.opened;
  classes = λ c. let z = b.classes c in (z.0, z.1, z.2);
}

-- one page more was looked at
pub returns_below_more : (k : ℕ) (v : Paged) (q r t : PageQueues) → ReturnsBelow k v q r → ReturnsPage k v r t
    → ReturnsBelow (k + 1) v q t
returns_below_more k v q r t below here =
    let is : suc k ≡ k + 1 = omega arith in subst (λ (z : ℕ). ReturnsBelow z v q t) is (r, below, here)
