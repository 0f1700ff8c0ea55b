-- Pages come back from the full queue, and the pages of an adopted shard are put into their queues.
use Rattle.std.proofs.Common.{◌≡◌, ◌≢◌, ℕ, ◌+◌, ◌-◌, ◌<◌, ◌⊎◌, inl, inr, ⊎_elim, Bool, true, false, Option, Some, None}
use Rattle.std.proofs.Common.{MatchOption, IfSome, [], ◌∷◌, ◌++◌, refl, ap, ◌∙◌, sym, subst, arith}
use Rattle.std.proofs.lemmas.Bool.{cases_eq, false≢true}
use Rattle.std.proofs.lemmas.List.{length-set}
use Rattle.sh_queue.specs.Numbers.{has_number, RisesFrom}
use Rattle.sh_queue.specs.Queues.{PageQueues, FilingQueues, class_queue, at_back, next_filed}
use Rattle.sh_queue.proofs.Filings.{next_filed-opened, next_filed-unopened, class_queue-next_filed_same}
use Rattle.sh_queue.proofs.Filings.{class_queue-next_filed_other}
use Rattle.sh_queue.proofs.PutBack.{has_number-from_without}
use Rattle.sh_queue.proofs.ClassQueues.{has_number-at_back}
use Rattle.sh_queue.proofs.PagePlaces.{full_opened}
use Rattle.sh_queue.proofs.StandOnce.{EachOnce-at_back}
use Rattle.sh_pass.specs.Owners.{SeenPage}
use Rattle.sh_shard.specs.Pages.{Paged, page_at, seen_class, GainsSlot}
use Rattle.sh_shard.specs.Shards.{SortedPages, FullPage, ReturnsPage}
use Rattle.sh_shard.specs.Returning.{SortedBut, FiledPages, FilesFirst}
use Rattle.sh_shard.proofs.Sorting.{stands_at_back}
use Rattle.sh_shard.proofs.Filing.{rises_append, below_append, is_behind}
use Rattle.sh_shard.proofs.ClassWords.{classed_is}

-- ---- what holds when the full queue may have pages that are not full

pub but_none : (v : Paged) (q : PageQueues) (named : ℕ → Type 0) → SortedBut named v q
    → ((p : ℕ) → has_number p q.full ≡ true → ¬ named p) → SortedPages v q
but_none v q named s none = record {
  once = s.once;
  all = s.all;
  later = s.later;
  classes = s.classes;
  full = λ p here. s.full p here
      (none p here);
  blank = s.blank;
}

pub but_fewer : (v : Paged) (q : PageQueues) (named named' : ℕ → Type 0) → SortedBut named v q
    → ((p : ℕ) → named p → named' p) → SortedBut named' v q
but_fewer v q named named' s more = record {
  once = s.once;
  all = s.all;
  later = s.later;
  classes = s.classes;
  full = λ p here none.
      s.full p here (λ n. none (more p n));
  word = s.word;
  blank = s.blank;
}

-- work that changed no page's class
pub but_classes : (v w : Paged) (q : PageQueues) → SortedPages v q → w.count ≡ v.count
    → ((p : ℕ) → (page_at w p).class ≡ (page_at v p).class)
    → (named : ℕ → Type 0) → ((p : ℕ) → ¬ named p → page_at w p ≡ page_at v p) → SortedBut named w q
but_classes v w q s count class named others = record {
  once = s.once;
  all = s.all ∙ sym count;
  later = λ p from upto. class p ∙ s.later p from (omega arith);
  classes = λ c p here. class p ∙ s.classes c p here;
  full = λ p here none. subst FullPage (sym (others p none)) (s.full p here);
  word = λ p here. let f = s.full p here in
      let e : seen_class (page_at w p) ≡ seen_class (page_at v p) = ap
      (λ (o : Option ℕ). elim o as (λ _. ℕ) [ Some m ↦ m | None ↦ 0 ]) (class p) in
      let a = f.classed in let b = f.few in (omega arith, omega arith);
  blank = λ p here. class p ∙ s.blank p here;
}

-- the owner gained a slot
pub but_gained : (gained : Option ℕ) (v w : Paged) (q : PageQueues) → SortedPages v q → GainsSlot gained v w
    → SortedBut (λ p. gained ≡ Some p) w q
but_gained gained v w q s k =
    but_classes v w q s k.count (class gained k) (λ p. gained ≡ Some p) (λ p none. k.others p none)
  where
    class : (gained : Option ℕ) → GainsSlot gained v w → (p : ℕ) → (page_at w p).class ≡ (page_at v p).class
    class None k p = ap (λ (g : SeenPage). g.class) (k.others p (λ e. let z : ⊥ = cc in z))
    class (Some r) k p = ⊎_elim
        (λ (is : r ≡ p). subst (λ z. (page_at w z).class ≡ (page_at v z).class) is
        (ap (λ (g : SeenPage). g.class) k.here.1))
        (λ (other : r ≢ p). ap (λ (g : SeenPage). g.class) (k.others p (λ e. other (let z : r ≡ p = cc in z))))
        (cases_eq r p)

-- page p was looked at, and moved back to its class if it was not full
module _ (v : Paged) (q q' : PageQueues) (p : ℕ) (named named' : ℕ → Type 0) (s : SortedBut named v q)
    (fewer : (r : ℕ) → ¬ named' r → r ≢ p → ¬ named r) where
  stayed : q' ≡ q → (has_number p q.full ≡ false) ⊎ FullPage (page_at v p) → SortedBut named' v q'
  stayed is why = subst (SortedBut named' v) (sym is) (record {
    once = s.once;
    all = s.all;
    later = s.later;
    classes = s.classes;
    full = λ r here none. ⊎_elim
        (λ (e : r ≡ p). ⊎_elim
        (λ (no : has_number p q.full ≡ false). absurd (false≢true
        (sym no ∙ subst (λ z. has_number z q.full ≡ true) e here)))
        (λ (f : FullPage (page_at v p)). subst (λ z. FullPage (page_at v z)) (sym e) f)
        why)
        (λ (other : r ≢ p). s.full r here (fewer r none other))
        (cases_eq r p);
    word = s.word;
    blank = s.blank;
  })

  went : has_number p q.full ≡ true → q' ≡ at_back (seen_class (page_at v p) - 1) p q → (page_at v p).class
      ≡ Some (seen_class (page_at v p)) → SortedBut named' v q'
  went here is class = subst (SortedBut named' v) (sym is) (record {
    once = EachOnce-at_back d p q s.once few inside;
    all = s.all;
    later = s.later;
    classes = λ e r h. ⊎_elim
        (λ (t : has_number r (class_queue q e) ≡ true). s.classes e r t)
        (λ (t : (e ≡ d) × (r ≡ p)). let P : ℕ × ℕ → Type 0 = λ z. (page_at v z.1).class ≡ Some (z.0 + 1)
        in subst P (λ i. (sym t.0 i, sym t.1 i)) (class ∙ ap (λ (z : ℕ). Some z) next))
        (has_number-at_back d p q e r (let m = s.once.classes in let w = s.word p here in let w1 = w.1 in let w0 = w.0
        in omega arith) h);
    full = λ r h none. s.full r (has_number-from_without r p q.full h)
        (fewer r none (λ (e : r ≡ p). false≢true (sym gone ∙ subst (λ z. has_number z now.full ≡ true) e h)));
    word = λ r h. s.word r (has_number-from_without r p q.full h);
    blank = λ r h. s.blank r (has_number-from_without r p q.blank h);
  }) where
    d : ℕ
    d = seen_class (page_at v p) - 1

    now : PageQueues
    now = at_back d p q

    next : seen_class (page_at v p) ≡ d + 1
    next = let w = s.word p here in let w0 = w.0 in omega arith

    few : d < 8
    few = let w = s.word p here in let w1 = w.1 in let w0 = w.0 in omega arith

    inside : p < q.opened
    inside = full_opened p q s.once here

    gone : has_number p now.full ≡ false
    gone = (stands_at_back q p d s.once few inside).0

  pub but_returned : (page_at v p).class ≡ Some (seen_class (page_at v p)) ⊎ (has_number p q.full ≡ false)
      → ReturnsPage p v q q' → SortedBut named' v q'
  but_returned class why = ⊎_elim
      (λ (h : (q' ≡ q) × ((has_number p q.full ≡ false) ⊎ FullPage (page_at v p))). stayed h.0 h.1)
      (λ (h : (has_number p q.full ≡ true) × (q' ≡ at_back (seen_class (page_at v p) - 1) p q)
      × (¬ FullPage (page_at v p))). went h.0 h.1 (⊎_elim
      (λ (k : (page_at v p).class ≡ Some (seen_class (page_at v p))). k)
      (λ (k : has_number p q.full ≡ false). absurd (false≢true (sym k ∙ h.0)))
      class))
      why

-- a page of the full queue has its class word
pub full_classed : (v : Paged) (q : PageQueues) (p : ℕ) (named : ℕ → Type 0) → SortedBut named v q → (page_at v p).class
    ≡ Some (seen_class (page_at v p)) ⊎ (has_number p q.full ≡ false)
full_classed v q p named s = go (has_number p q.full) refl where
  go : (b : Bool) → has_number p q.full ≡ b → (page_at v p).class ≡ Some (seen_class (page_at v p))
      ⊎ (has_number p q.full ≡ false)
  go true is = inl (classed_is (page_at v p) (s.word p is).0)
  go false is = inr is

pub returns_opened : (p : ℕ) (v : Paged) (q q' : PageQueues) → ReturnsPage p v q q' → q'.opened ≡ q.opened
returns_opened p v q q' k = ⊎_elim
    (λ (h : (q' ≡ q) × ((has_number p q.full ≡ false) ⊎ FullPage (page_at v p))). ap (λ (z : PageQueues). z.opened) h.0)
    (λ (h : (has_number p q.full ≡ true) × (q' ≡ at_back (seen_class (page_at v p) - 1) p q)
    × (¬ FullPage (page_at v p))). ap (λ (z : PageQueues). z.opened) h.1)
    k

-- ---- the pages of an adopted shard

filed_blank : (v : Paged) (q : PageQueues) → FiledPages v q → (page_at v q.opened).class ≡ Some 0
    → FiledPages v (next_filed None q)
filed_blank v q f is = record {
  many = f.many;
  classes = f.classes;
  full = f.full;
  blank = λ p here. ⊎_elim
      (λ (h : has_number p q.blank ≡ true). f.blank p h)
      (λ (h : p ≡ q.opened). subst (λ z. (page_at v z).class ≡ Some 0) (sym h) is)
      (is_behind p q.opened q.blank here);
  rising = f.rising;
  below = λ c p here. let l = f.below c p here in omega arith;
}

filed_class : (v : Paged) (q : PageQueues) (c : ℕ) → FiledPages v q → c < 8 → (page_at v q.opened).class ≡ Some (c + 1)
    → FiledPages v (next_filed (Some c) q)
filed_class v q c f class is = record {
  many = length-set q.classes c (class_queue q c ++ q.opened ∷ []) ∙ f.many;
  classes = λ d p here. ⊎_elim
      (λ (e : d ≡ c). ⊎_elim
      (λ (h : has_number p (class_queue q c) ≡ true). subst (λ z. (page_at v p).class ≡ Some (z + 1)) (sym e)
      (f.classes c p h))
      (λ (h : p ≡ q.opened). let P : ℕ × ℕ → Type 0 = λ z. (page_at v z.1).class ≡ Some (z.0 + 1)
      in subst P (λ i. (sym e i, sym h i)) is)
      (is_behind p q.opened (class_queue q c) (sym (ap (has_number p) (class_now d e)) ∙ here)))
      (λ (e : d ≢ c). f.classes d p (sym (ap (has_number p) (class_queue-next_filed_other c d q e)) ∙ here))
      (cases_eq d c);
  full = f.full;
  blank = f.blank;
  rising = λ d. ⊎_elim
      (λ (e : d ≡ c). subst (RisesFrom 0) (sym (class_now d e))
      (rises_append 0 q.opened (class_queue q c) (f.rising c) (omega arith) (f.below c)))
      (λ (e : d ≢ c). subst (RisesFrom 0) (sym (class_queue-next_filed_other c d q e)) (f.rising d))
      (cases_eq d c);
  below = λ d p here. ⊎_elim
      (λ (e : d ≡ c). below_append q.opened (class_queue q c) (f.below c) p
      (sym (ap (has_number p) (class_now d e)) ∙ here))
      (λ (e : d ≢ c). let l = f.below d p (sym (ap (has_number p) (class_queue-next_filed_other c d q e)) ∙ here)
      in omega arith)
      (cases_eq d c);
} where
  class_now : (d : ℕ) → d ≡ c → class_queue (next_filed (Some c) q) d ≡ class_queue q c ++ q.opened ∷ []
  class_now d e = ap (class_queue (next_filed (Some c) q)) e
      ∙ class_queue-next_filed_same c q (let m = f.many in omega arith)

filed_next : (class : Option ℕ) (v : Paged) (q : PageQueues) → FiledPages v q
    → MatchOption class ((page_at v q.opened).class ≡ Some 0) (λ c. (page_at v q.opened).class ≡ Some (c + 1))
    → IfSome class (λ c. c < 8) → FiledPages v (next_filed class q)
filed_next None v q f is few = filed_blank v q f is
filed_next (Some c) v q f is few = filed_class v q c f few is

pub files_next : (class : Option ℕ) (k : ℕ) (v : Paged) (f g h : FilingQueues) → FilesFirst k v f g
    → MatchOption class ((page_at v k).class ≡ Some 0) (λ c. (page_at v k).class ≡ Some (c + 1))
    → IfSome class (λ c. c < 8) → h ≡ record g { queues = next_filed class g.queues } → FilesFirst (k + 1) v f h
files_next class k v f g h first is few next = subst (FilesFirst (k + 1) v f) (sym next) (record {
  filed = filed_next class v g.queues first.filed (subst (λ z. MatchOption class ((page_at v z).class ≡ Some 0)
      (λ c. (page_at v z).class ≡ Some (c + 1))) (sym first.opened) is) few;
  opened = next_filed-opened class g.queues ∙ ap (λ z. z + 1) first.opened;
  unopened = next_filed-unopened class g.queues ∙ first.unopened;
  pages = first.pages;
})
