-- Each page is where it belongs, after each move and after work on a page.
use Rattle.std.proofs.Common.{◌≡◌, ◌≢◌, ℕ, zero, suc, ◌+◌, ◌<◌, ◌≤◌, ◌||◌, ⊎_elim, Bool, true, false, Option, Some}
use Rattle.std.proofs.Common.{None, MatchOption, List, [], ◌∷◌, length, refl, ap, ◌∙◌, sym, subst, arith}
use Rattle.std.proofs.lemmas.Bool.{cases_eq, false≢true}
use Rattle.sh_queue.specs.Numbers.{has_number, without_number}
use Rattle.sh_queue.specs.Queues.{PageQueues, EachOnce, class_queue, at_front, at_back, among_full, one_more_segment}
use Rattle.sh_queue.proofs.Numbers.{has_number-append, has_number-here}
use Rattle.sh_queue.proofs.PutBack.{has_number-from_without, has_number-in_back}
use Rattle.sh_queue.proofs.ClassQueues.{has_number-at_front, has_number-at_back, has_number-among_full}
use Rattle.sh_queue.proofs.ClassQueues.{has_number-one_more_segment, class_queue-at_front_same}
use Rattle.sh_queue.proofs.ClassQueues.{class_queue-at_back_same}
use Rattle.sh_queue.proofs.StandOnce.{EachOnce-at_front, EachOnce-at_back, EachOnce-among_full}
use Rattle.sh_queue.proofs.StandOnce.{EachOnce-one_more_segment}
use Rattle.sh_queue.proofs.PagePlaces.{class_apart, classes_apart, full_opened}
use Rattle.sh_pass.specs.Owners.{SeenPage}
use Rattle.sh_shard.specs.Pages.{Paged, page_at, seen_class, WorksOn, PageInserts, NothingMine, GivesClass, BellReads}
use Rattle.sh_shard.specs.Shards.{SortedPages, FullPage}
use Rattle.sh_shard.proofs.ClassWords.{word_of}

or_right : (a : Bool) {b : Bool} → b ≡ true → a || b ≡ true
or_right true is = refl
or_right false is = is

-- the next pages are opened, and blank
pub sorted_opened : (v : Paged) (q : PageQueues) → SortedPages v q → (q' : PageQueues) → q.unopened ≢ 0 → q'
    ≡ one_more_segment q → SortedPages v q'
sorted_opened v q sorted q' some moved = subst (SortedPages v) (sym moved) (record {
  once = EachOnce-one_more_segment q sorted.once;
  all = let a = sorted.all in let s = some_more q.unopened some in omega arith;
  later = λ p from upto. sorted.later p (omega arith) upto;
  classes = sorted.classes;
  full = sorted.full;
  blank = λ p here. ⊎_elim
      (λ (h : has_number p q.blank ≡ true). sorted.blank p h)
      (λ (h : (q.opened ≤ p) × (p < q.opened + 8)). let a = sorted.all in let s = some_more q.unopened some
      in let h1 = h.1 in sorted.later p h.0 (omega arith))
      (has_number-one_more_segment p q here);
}) where
  some_more : (n : ℕ) → n ≢ 0 → 1 ≤ n
  some_more zero none = absurd (none refl)
  some_more (suc n) none = omega arith

-- ---- moves

module _ (v : Paged) (q : PageQueues) (sorted : SortedPages v q) where
  eight : length q.classes ≡ 8
  eight = sorted.once.classes

  -- to the back of its class
  pub sorted_back : (q' : PageQueues) (c p : ℕ) → c < 8 → p < q.opened → (page_at v p).class ≡ Some (c + 1)
      → q' ≡ at_back c p q → SortedPages v q'
  sorted_back q' c p class inside is moved = subst (SortedPages v) (sym moved) (record {
    once = EachOnce-at_back c p q sorted.once class inside;
    all = sorted.all;
    later = sorted.later;
    classes = λ d r here. ⊎_elim
        (λ (h : has_number r (class_queue q d) ≡ true). sorted.classes d r h)
        (λ (h : (d ≡ c) × (r ≡ p)). let P : ℕ × ℕ → Type 0 = λ z. (page_at v z.1).class ≡ Some (z.0 + 1)
        in subst P (λ i. (sym h.0 i, sym h.1 i)) is)
        (has_number-at_back c p q d r (let e = eight in omega arith) here);
    full = λ r here. sorted.full r (has_number-from_without r p q.full here);
    blank = λ r here. sorted.blank r (has_number-from_without r p q.blank here);
  })

  -- to the full queue
  pub sorted_full : (q' : PageQueues) (p : ℕ) → p < q.opened → FullPage (page_at v p) → q' ≡ among_full p q
      → SortedPages v q'
  sorted_full q' p inside is moved = subst (SortedPages v) (sym moved) (record {
    once = EachOnce-among_full p q sorted.once inside;
    all = sorted.all;
    later = sorted.later;
    classes = λ d r here. sorted.classes d r (has_number-among_full 0 p q d r here);
    full = λ r here. ⊎_elim
        (λ (h : has_number r q.full ≡ true). sorted.full r h)
        (λ (h : r ≡ p). subst (λ z. FullPage (page_at v z)) (sym h) is)
        (has_number-in_back r p q.full here);
    blank = λ r here. sorted.blank r (has_number-from_without r p q.blank here);
  })

  -- a page that was given a class is in front of that class
  pub sorted_given : (w : Paged) (q' : PageQueues) (c p : ℕ) → c < 8 → p < q.opened → GivesClass p c v w → q'
      ≡ at_front c p q → SortedPages w q'
  sorted_given w q' c p class inside given moved = subst (SortedPages w) (sym moved) (record {
    once = once_now;
    all = sorted.all ∙ sym given.count;
    later = λ r from upto. ap (λ (g : SeenPage). g.class) (given.others r (λ (is : r ≡ p). absurd (omega arith)))
        ∙ sorted.later r from (let e = given.count in omega arith);
    classes = λ d r here. ⊎_elim
        (λ (is : r ≡ p). ap (λ z. (page_at w z).class) is ∙ ap (λ (g : SeenPage). g.class) given.here
        ∙ ap (λ z. Some (z + 1)) (sym (same_class d (subst (λ z. has_number z (class_queue now d) ≡ true) is
        here))))
        (λ (other : r ≢ p). ap (λ (g : SeenPage). g.class) (given.others r other)
        ∙ sorted.classes d r (stood d r other here))
        (cases_eq r p);
    full = λ r here. subst FullPage (sym (given.others r (λ (is : r ≡ p). false≢true
        (sym apart.0 ∙ subst (λ z. has_number z now.full ≡ true) is here))))
        (sorted.full r (has_number-from_without r p q.full here));
    blank = λ r here. ap (λ (g : SeenPage). g.class) (given.others r
        (λ (is : r ≡ p). false≢true (sym apart.1 ∙ subst (λ z. has_number z now.blank ≡ true) is here)))
        ∙ sorted.blank r (has_number-from_without r p q.blank here);
  }) where
    now : PageQueues
    now = at_front c p q

    once_now : EachOnce now
    once_now = EachOnce-at_front c p q sorted.once class inside

    stands : has_number p (class_queue now c) ≡ true
    stands = ap (has_number p) (class_queue-at_front_same c p q (let e = eight in omega arith))
        ∙ has_number-here p (without_number p (class_queue q c))

    apart : (has_number p now.full ≡ false) × (has_number p now.blank ≡ false)
    apart = class_apart p now once_now c stands

    same_class : (d : ℕ) → has_number p (class_queue now d) ≡ true → d ≡ c
    same_class d here = ⊎_elim
        (λ (is : c ≡ d). sym is)
        (λ (other : c ≢ d). absurd (false≢true (sym (classes_apart p now once_now c d other stands) ∙ here)))
        (cases_eq c d)

    stood : (d r : ℕ) → r ≢ p → has_number r (class_queue now d) ≡ true → has_number r (class_queue q d) ≡ true
    stood d r other here = ⊎_elim
        (λ (h : has_number r (class_queue q d) ≡ true). h)
        (λ (h : (d ≡ c) × (r ≡ p)). absurd (other h.1))
        (has_number-at_front c p q d r (let e = eight in omega arith) here)

  -- ---- work on a page

  -- a page of a class may change, and stays in its class
  pub sorted_on : (w : Paged) (c p : ℕ) → has_number p (class_queue q c) ≡ true → w.count ≡ v.count → p < q.opened
      → (page_at w p).class ≡ (page_at v p).class
      → ((r : ℕ) → r ≢ p → page_at w r ≡ page_at v r) → SortedPages w q
  sorted_on w c p here count inside class others =
      let apart = class_apart p q sorted.once c here in record {
        once = sorted.once;
        all = sorted.all ∙ sym count;
        later = λ r from upto. ap (λ (g : SeenPage). g.class) (others r (λ (is : r ≡ p). absurd (omega arith)))
            ∙ sorted.later r from (omega arith);
        classes = λ d r h. same_word r ∙ sorted.classes d r h;
        full = λ r h. subst FullPage (sym (others r (λ (is : r ≡ p). false≢true
            (sym apart.0 ∙ subst (λ z. has_number z q.full ≡ true) is h)))) (sorted.full r h);
        blank = λ r h. same_word r ∙ sorted.blank r h;
      } where
        same_word : (r : ℕ) → (page_at w r).class ≡ (page_at v r).class
        same_word r = ⊎_elim
            (λ (is : r ≡ p). subst (λ z. (page_at w z).class ≡ (page_at v z).class) (sym is) class)
            (λ (other : r ≢ p). ap (λ (g : SeenPage). g.class) (others r other))
            (cases_eq r p)

  class_inside : (c p : ℕ) → has_number p (class_queue q c) ≡ true → p < q.opened
  class_inside c p here = Rattle.sh_queue.proofs.PagePlaces.class_opened p q sorted.once c here

  pub sorted_works : (w : Paged) (c p : ℕ) → has_number p (class_queue q c) ≡ true → WorksOn p v w → SortedPages w q
  sorted_works w c p here k = sorted_on w c p here k.count (class_inside c p here) k.class k.others

  pub sorted_inserts : (w : Paged) (c p key : ℕ) (value : List ℕ) → has_number p (class_queue q c) ≡ true
      → PageInserts p value key v w → SortedPages w q
  sorted_inserts w c p key value here k = sorted_on w c p here k.count (class_inside c p here) k.class k.others

  -- a page that was tried in vain is full if it has no cursor
  pub full_page : (c p : ℕ) → c < 8 → has_number p (class_queue q c) ≡ true → NothingMine (page_at v p)
      → (page_at v p).cursor ≡ None
      → MatchOption (page_at v p).cursor ((page_at v p).armed ≡ true) (λ _. Unit {0}) → FullPage (page_at v p)
  full_page c p class here nothing none waits =
      let word : seen_class (page_at v p) ≡ c + 1 = word_of (page_at v p) (c + 1) (sorted.classes c p here) in record {
        classed = omega arith;
        few = omega arith;
        armed = subst (λ (z : Option ℕ). MatchOption z ((page_at v p).armed ≡ true) (λ _. Unit {0})) none waits;
        cursor = none;
        mine = nothing;
      }

-- ---- a page that changed, where it was or at the back of its class

-- at the back of a class a page is neither full nor blank
pub stands_at_back : (q : PageQueues) (p d : ℕ) → EachOnce q → d < 8 → p < q.opened
    → (has_number p (at_back d p q).full ≡ false) × (has_number p (at_back d p q).blank ≡ false)
stands_at_back q p d once few inside = class_apart p (at_back d p q) (EachOnce-at_back d p q once few inside) d
    (ap (has_number p) (class_queue-at_back_same d p q (let m = once.classes in omega arith))
    ∙ (has_number-append p (without_number p (class_queue q d)) (p ∷ [])
    ∙ or_right (has_number p (without_number p (class_queue q d))) (has_number-here p [])))

-- only page p changed, and it kept its class
pub record Alters (p : ℕ) (v w : Paged) : Type 0 where
  pub count : w.count ≡ v.count
  pub class : (r : ℕ) → (page_at w r).class ≡ (page_at v r).class
  pub others : (r : ℕ) → r ≢ p → page_at w r ≡ page_at v r

pub alters_reads : (p : ℕ) (v w : Paged) → BellReads p v w → Alters p v w
alters_reads p v w b = record {
  count = b.count;
  others = b.others;
  class = λ r. ⊎_elim
      (λ (is : r ≡ p). subst (λ z. (page_at w z).class ≡ (page_at v z).class) (sym is)
      (ap (λ (g : SeenPage). g.class) b.here))
      (λ (other : r ≢ p). ap (λ (g : SeenPage). g.class) (b.others r other))
      (cases_eq r p);
}

module _ (v w : Paged) (q : PageQueues) (p : ℕ) (sorted : SortedPages v q) (alters : Alters p v w) where
  -- the page was not full
  pub sorted_altered : has_number p q.full ≡ false → SortedPages w q
  sorted_altered none = record {
    once = sorted.once;
    all = sorted.all ∙ sym alters.count;
    later = λ r from upto. alters.class r ∙ sorted.later r from (let e = alters.count in omega arith);
    classes = λ d r here. alters.class r ∙ sorted.classes d r here;
    full = λ r here. subst FullPage (sym (alters.others r (λ (is : r ≡ p). false≢true
        (sym none ∙ subst (λ z. has_number z q.full ≡ true) is here)))) (sorted.full r here);
    blank = λ r here. alters.class r ∙ sorted.blank r here;
  }

  -- the page was full, and goes to the back of its class
  pub sorted_returned : (q' : PageQueues) (word d : ℕ) → EachOnce q → p < q.opened → (page_at w p).class ≡ Some word
      → d + 1 ≡ word → d < 8 → q' ≡ at_back d p q → SortedPages w q'
  sorted_returned q' word d once inside class next few moved = subst (SortedPages w) (sym moved) (record {
    once = EachOnce-at_back d p q once few inside;
    all = sorted.all ∙ sym alters.count;
    later = λ r from upto. alters.class r ∙ sorted.later r from (let e = alters.count in omega arith);
    classes = λ e r here. ⊎_elim
        (λ (h : has_number r (class_queue q e) ≡ true). alters.class r ∙ sorted.classes e r h)
        (λ (h : (e ≡ d) × (r ≡ p)). let P : ℕ × ℕ → Type 0 = λ z. (page_at w z.1).class ≡ Some (z.0 + 1)
        in subst P (λ i. (sym h.0 i, sym h.1 i)) (class ∙ ap (λ (z : ℕ). Some z) (sym next)))
        (has_number-at_back d p q e r (let m = once.classes in omega arith) here);
    full = λ r here. subst FullPage (sym (alters.others r (λ (is : r ≡ p). false≢true
        (sym gone ∙ subst (λ z. has_number z (without_number p q.full) ≡ true) is here))))
        (sorted.full r (has_number-from_without r p q.full here));
    blank = λ r here. alters.class r ∙ sorted.blank r (has_number-from_without r p q.blank here);
  }) where
    now : PageQueues
    now = at_back d p q

    gone : has_number p now.full ≡ false
    gone = (stands_at_back q p d once few inside).0

  pub full_word : (word : ℕ) → has_number p q.full ≡ true → (page_at w p).class ≡ Some word → (0 < word) × (word ≤ 8)
  full_word word here class =
      let f = sorted.full p here in
      let a = f.classed in
      let c = f.few in
      let e : seen_class (page_at v p) ≡ word = word_of (page_at v p) word (sym (alters.class p) ∙ class) in
      (omega arith, omega arith)

pub not_full : (p : ℕ) (q : PageQueues) → EachOnce q → q.opened ≤ p → has_number p q.full ≡ false
not_full p q once beyond = go (has_number p q.full) refl where
  go : (b : Bool) → has_number p q.full ≡ b → b ≡ false
  go false is = refl
  go true is = let inside = full_opened p q once is in absurd (omega arith)

-- ---- after a try of a page of a class

module _ (v w : Paged) (q : PageQueues) (c p : ℕ) (value : List ℕ) (sorted : SortedPages v q)
    (here : has_number p (class_queue q c) ≡ true) where
  pub sorted_tried : (A : Type 0) (r : Option ℕ) → MatchOption r (WorksOn p v w × A)
      (λ key. PageInserts p value key v w) → SortedPages w q
  sorted_tried A None t = sorted_works v q sorted w c p here t.0
  sorted_tried A (Some key) t = sorted_inserts v q sorted w c p key value here t

  pub sorted_used : (A : Type 0) (r : Option ℕ) → MatchOption r ((w ≡ v) × A) (λ key. PageInserts p value key v w)
      → SortedPages w q
  sorted_used A None t = subst (λ z. SortedPages z q) (sym t.0) sorted
  sorted_used A (Some key) t = sorted_inserts v q sorted w c p key value here t
