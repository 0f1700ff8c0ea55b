-- A page is given another class, and an insert goes to that page.
use Rattle.std.proofs.Common.{◌≡◌, ◌≢◌, ℕ, suc, ◌+◌, ◌*◌, ◌<◌, ◌≤◌, ◌⊎◌, inl, inr, ⊎_elim, Bool, true, false}
use Rattle.std.proofs.Common.{Option, Some, None, MatchOption, IfSome, List, [], ◌∷◌, length, slice_get, refl, ap}
use Rattle.std.proofs.Common.{◌∙◌, sym, subst, arith}
use Rattle.std.specs.Prelude.{Result, Ok, Err}
use Rattle.std.proofs.lemmas.Bool.{cases_eq, cases_lt, false≢true}
use Rattle.sh_value.specs.declared.refusal.Refusal.TheVariants as refusal
use Rattle.sh_value.specs.declared.refusal.Refusal.{Refusal}
use Rattle.sh_queue.specs.Numbers.{has_number}
use Rattle.sh_queue.specs.Queues.{PageQueues, EachOnce, class_queue, at_front, one_more_segment}
use Rattle.sh_queue.proofs.PutBack.{without_number-hasnt}
use Rattle.sh_queue.proofs.ClassQueues.{class_queue-at_front_same}
use Rattle.sh_key.specs.Layout.{Layout}
use Rattle.sh_pass.specs.Owners.{SeenPage}
use Rattle.sh_shard.specs.Pages.{Paged, page_at, NothingMine, NamesSlot, PageInserts, GivesClass}
use Rattle.sh_lists.specs.Lists.{Lists}
use Rattle.sh_shard.specs.Slots.{SameSlots, OwnFirst, AllFree}
use Rattle.sh_shard.specs.Pages.{UsesFirst, lists_at, TakesSteps}
use Rattle.sh_shard.specs.Works.{WorksThroughout}
use Rattle.sh_shard.specs.Steps.{StepsAtMost}
use Rattle.sh_shard.specs.Bounds.{PrepareIsBounded, InsertIsBounded}
use Rattle.sh_shard.specs.Filing.{OpensFor, ComesInFront}
use Rattle.sh_shard.specs.Shards.{Sharded, SortedPages, NoneLeft, NoRoom, IsSpare, NeedsSegment}
use Rattle.sh_shard.specs.Shards.{IsBlank, NoneSpare, NoneOpenedBlank, IsLowest, IsNextFor, PreparesPage}
use Rattle.sh_shard.specs.Shards.{PrepareServes, InsertServes, IsQuick, FoundInQueue, LooksInVain, NextAfterSearch}
use Rattle.sh_shard.specs.Finding.{StoresAtFront, InsertsElsewhere}
use Rattle.sh_shard.specs.Searches.{Tried}
use Rattle.sh_shard.proofs.Works.{through_none}
use Rattle.sh_shard.proofs.Bounding.{steps_none}
use Rattle.sh_shard.proofs.Working.{names_before, first_since, first_from, begins_first}
use Rattle.sh_shard.proofs.Storing.{added_since, added_given, stored}
use Rattle.sh_shard.proofs.Turning.{front_split}
use Rattle.sh_shard.proofs.Searching.{front_has}
use Rattle.sh_shard.proofs.ClassDone.{none_left}
use Rattle.sh_shard.proofs.BlankPages.{some_given, not_whole}

-- ---- a page

-- a page of another class, or of none, is not in the queue of the class
not_in_class : (v : Paged) (q : PageQueues) (c p : ℕ) → SortedPages v q → (page_at v p).class ≢ Some (c + 1)
    → has_number p (class_queue q c) ≡ false
not_in_class v q c p sorted other = go (has_number p (class_queue q c)) refl where
  go : (b : Bool) → has_number p (class_queue q c) ≡ b → b ≡ false
  go false is = refl
  go true is = absurd (other (sorted.classes c p is))

pub blank_other : (c : ℕ) (g : SeenPage) → IsBlank g → g.class ≢ Some (c + 1)
blank_other c g blank is = let e : Some 0 ≡ Some (c + 1) = sym blank ∙ is in let f : 0 ≡ c + 1 = cc in omega arith

-- the next page for the class has another class, or none
next_other : (c p : ℕ) (o : Sharded) → IsNextFor c p o → (page_at o.pages p).class ≢ Some (c + 1)
next_other c p o (inl k) = blank_other c (page_at o.pages p) k.1.here
next_other c p o (inr (inl k)) = k.1.here.other
next_other c p o (inr (inr k)) = blank_other c (page_at o.pages p) k.2.here

pub prepared : (v w : Paged) (q q' : PageQueues) (c p : ℕ) → SortedPages v q → EachOnce q → c < 8 → p < q.opened
    → IsNextFor c p (record { pages = v; queues = q }) → (page_at v p).class ≢ Some (c + 1) → GivesClass p c v w
    → q' ≡ at_front c p q → PreparesPage c p (record { pages = v; queues = q }) (record { pages = w; queues = q' })
prepared v w q q' c p sorted once class inside next other gives moved = record {
  inside = let a = sorted.all in omega arith;
  next = next;
  gives = gives;
  front = ap (λ (z : PageQueues). class_queue z c) moved
      ∙ (class_queue-at_front_same c p q (let m = once.classes in omega arith)
      ∙ ap (λ xs. p ∷ xs) (without_number-hasnt p (class_queue q c) (not_in_class v q c p sorted other)));
  opened = inl (inside, ap (λ (z : PageQueues). z.opened) moved);
  queues = inl (inside, moved);
}

-- a segment was opened, since no opened page was blank
module _ (o m : Sharded) (sorted : SortedPages o.pages o.queues) (some : o.queues.unopened ≢ 0)
    (same : m.pages ≡ o.pages) (moved : m.queues ≡ one_more_segment o.queues) where
  first_blank : IsBlank (page_at m.pages o.queues.opened)
  first_blank = subst (λ (v : Paged). IsBlank (page_at v o.queues.opened)) (sym same)
      (sorted.later o.queues.opened (omega arith) (let a = sorted.all in omega arith))

  first_inside : o.queues.opened < m.queues.opened
  first_inside = let e : m.queues.opened ≡ o.queues.opened + 8 = ap (λ (q : PageQueues). q.opened) moved in omega arith

  pub opened_has_blank : NoneOpenedBlank m → ⊥
  opened_has_blank none = none o.queues.opened first_inside first_blank

  module _ (c p : ℕ) (none : NoneOpenedBlank o) (spare : NoneSpare c o.pages) where
    is_first : IsLowest IsBlank p m.pages → p ≡ o.queues.opened
    is_first lowest = ⊎_elim
        (λ (l : p < o.queues.opened). absurd (none p l
        (subst (λ (v : Paged). IsBlank (page_at v p)) same lowest.here)))
        (λ (l : o.queues.opened ≤ p). ⊎_elim
        (λ (is : p ≡ o.queues.opened). is)
        (λ (other : p ≢ o.queues.opened). absurd (lowest.lower o.queues.opened (omega arith) first_blank))
        (cases_eq p o.queues.opened))
        (cases_lt p o.queues.opened)

    next_from : IsNextFor c p m → IsNextFor c p o
    next_from (inl k) = inr (inr (spare, is_first k.1, subst (IsLowest IsBlank p) same k.1))
    next_from (inr (inl k)) = absurd (opened_has_blank k.0)
    next_from (inr (inr k)) = absurd (k.2.lower o.queues.opened (let e = k.1 in let f = first_inside in omega arith)
        first_blank)

    first_is : IsNextFor c p m → p ≡ o.queues.opened
    first_is (inl k) = is_first k.1
    first_is (inr (inl k)) = absurd (opened_has_blank k.0)
    first_is (inr (inr k)) = absurd (k.2.lower o.queues.opened (let e = k.1 in let f = first_inside in omega arith)
        first_blank)

    opens_more : (n : PageQueues) → IsNextFor c p m → OpensFor p m.queues n → OpensFor p o.queues n
    opens_more n next (inl k) = inr (first_is next, k.1 ∙ ap (λ (q : PageQueues). q.opened) moved)
    opens_more n next (inr k) = absurd (let e = first_is next in let f = k.0 in let g = first_inside in omega arith)

    comes_more : (n : PageQueues) → IsNextFor c p m → ComesInFront c p m.queues n → ComesInFront c p o.queues n
    comes_more n next (inl k) = inr (first_is next, k.1 ∙ ap (λ (q : PageQueues). at_front c p q) moved)
    comes_more n next (inr k) = absurd (let e = first_is next in let f = k.0 in let g = first_inside in omega arith)

    -- the lowest blank page is the first of the segment
    pub prepared_from : (n : Sharded) → PreparesPage c p m n → PreparesPage c p o n
    prepared_from n k =
        let P : Paged → Type 0 = λ v. (p < v.count) × GivesClass p c v n.pages in
        let all = subst P same (k.inside, k.gives) in record {
          inside = all.0;
          next = next_from k.next;
          gives = all.1;
          front = k.front ∙ ap (λ (q : PageQueues). p ∷ class_queue q c) moved;
          opened = opens_more n.queues k.next k.opened;
          queues = comes_more n.queues k.next k.queues;
        }

-- memory was refused to the segment
pub segment_refused : (c : ℕ) (o n : Sharded) (r : Refusal) → r ≡ refusal.Memory → n ≡ o → NeedsSegment c o
    → PrepareServes c o (Err r) n
segment_refused c o n r is same needs = subst (λ z. PrepareServes c o (Err z) n) (sym is) (same, needs)

-- no page of an unopened segment is spare
pub none_spare : (c opened : ℕ) (o : Sharded) → SortedPages o.pages o.queues → opened ≡ o.queues.opened
    → ((p : ℕ) → p < opened → ¬ IsSpare c (page_at o.pages p)) → NoneSpare c o.pages
none_spare c opened o sorted is none p inside spare = ⊎_elim
    (λ (h : p < opened). none p h spare)
    (λ (h : opened ≤ p).
    let e : Some 0 ≡ Some (suc spare.whole.class) = sym (sorted.later p (omega arith) inside) ∙ spare.whole.classed in
    let f : 0 ≡ suc spare.whole.class = cc in absurd (omega arith))
    (cases_lt p opened)

pub spare_next : (c k : ℕ) (o : Sharded) → ((p : ℕ) → p < k → ¬ IsSpare c (page_at o.pages p))
    → ¬ IsSpare c (page_at o.pages k) → (p : ℕ) → p < k + 1 → ¬ IsSpare c (page_at o.pages p)
spare_next c k o below here p inside = ⊎_elim
    (λ (is : p ≡ k). subst (λ z. ¬ IsSpare c (page_at o.pages z)) (sym is) here)
    (λ (other : p ≢ k). below p (smaller p k inside other))
    (cases_eq p k)
  where
    smaller : (p k : ℕ) → p < k + 1 → p ≢ k → p < k
    smaller p k l ne = ⊎_elim (λ (h : p < k). h) (λ (h : k ≤ p). absurd (ne (omega arith))) (cases_lt p k)

-- ---- an insert

-- at the front of the class, if the page there has a slot
pub used_at_front : (layout : Layout) (c p : ℕ) (value : List ℕ) (o n : Sharded) (r : Option ℕ)
    → SortedPages o.pages o.queues → slice_get (class_queue o.queues c) 0 ≡ Some p → p < o.queues.opened
    → MatchOption r ((n ≡ o) × NothingMine (page_at o.pages p)) (λ key. PageInserts p value key o.pages n.pages)
    → IfSome r (λ key. NamesSlot layout p key o.pages)
    → IfSome r (λ key. UsesFirst layout (SameSlots (lists_at o.pages p)) p key o.pages n.pages) → n.queues ≡ o.queues
    → IfSome r (λ _. TakesSteps (length value + 2) o.pages n.pages)
    → MatchOption r ((n ≡ o) × ((q : ℕ) → slice_get (class_queue o.queues c) 0 ≡ Some q
    → NothingMine (page_at o.pages q))) (λ key. StoresAtFront layout c key value o n)
used_at_front layout c p value o n None sorted front inside used names first same steps = (
  used.0,
  λ q e. let is : Some p ≡ Some q = sym front ∙ e in
      let f : p ≡ q = cc in subst (λ z. NothingMine (page_at o.pages z)) f used.1,
)
used_at_front layout c p value o n (Some key) sorted front inside used names first same steps = record {
  steps = steps;
  page = p;
  front = front;
  inside = inside;
  counted = let a = sorted.all in omega arith;
  queues = same;
  class = sorted.classes c p (front_has c p o.queues front);
  names = names;
  inserts = used;
  first = first;
}

-- no page is ahead of the front page
found_at_front : (c p : ℕ) (o n : Sharded) → slice_get (class_queue o.queues c) 0 ≡ Some p → n.queues ≡ o.queues
    → FoundInQueue c p o n
found_at_front c p o n front same =
    let f = front_split p (class_queue o.queues c) front in record {
      ahead = [];
      behind = f.0;
      queue = f.1;
      vain = λ q here. absurd (false≢true here);
      queues = same;
    }

pub served_at_front : (layout : Layout) (c key : ℕ) (value : List ℕ) (o n : Sharded)
    → StoresAtFront layout c key value o n → InsertServes layout c value o (Ok key) n
served_at_front layout c key value o n s = stored layout c s.page key value o n (record {
  inside = s.counted;
  class = s.class;
  names = s.names;
  tried = o.pages;
  through = through_none o.pages;
  inserts = s.inserts;
  first = first_from layout (SameSlots (lists_at o.pages s.page)) (OwnFirst (lists_at o.pages s.page)) s.page key o.pages
      n.pages (λ (l : Lists) come. inl come) s.first;
}) s.inside (ap (λ (q : PageQueues). q.opened) s.queues) (inl (found_at_front c s.page o n s.front s.queues))

module _ (layout : Layout) (c : ℕ) (value : List ℕ) where
  pub elsewhere_refused : (o n : Sharded) (r : Refusal) → PrepareServes c o (Err r) n
      → InsertsElsewhere layout c value o (Err r) n
  elsewhere_refused o n refusal.Full k = k
  elsewhere_refused o n refusal.Memory k = k
  elsewhere_refused o n refusal.BadKey k = absurd k
  elsewhere_refused o n refusal.Gone k = absurd k
  elsewhere_refused o n refusal.Crowded k = absurd k
  elsewhere_refused o n refusal.HoldsFull k = absurd k
  elsewhere_refused o n refusal.NotHeld k = absurd k
  elsewhere_refused o n refusal.TooLong k = absurd k
  elsewhere_refused o n refusal.Taken k = absurd k
  elsewhere_refused o n refusal.NoShard k = absurd k
  elsewhere_refused o n refusal.Waiting k = absurd k
  elsewhere_refused o n refusal.BadShape k = absurd k
  elsewhere_refused o n refusal.WrongKind k = absurd k

  -- the page that was given the class is its front
  pub elsewhere_stored : (p key : ℕ) (o n m : Sharded) → PreparesPage c p o n → StoresAtFront layout c key value n m
      → InsertsElsewhere layout c value o (Ok key) m
  elsewhere_stored p key o n m k s =
      let front : Some p ≡ Some s.page = sym (ap (λ xs. slice_get xs 0) k.front) ∙ s.front in
      let is : s.page ≡ p = cc in record {
        page = p;
        names = names_before layout p key o.pages n.pages k.gives.aside k.gives.shard
            (subst (λ z. NamesSlot layout z key n.pages) is s.names);
        given = n;
        prepares = k;
        inserts = subst (λ z. PageInserts z value key n.pages m.pages) is s.inserts;
        first = first_since layout (SameSlots (lists_at n.pages p)) (AllFree c) p key o.pages n.pages m.pages
            k.gives.aside k.gives.shard
            (λ (l : Lists) come. record { free = come.free ∙ k.gives.free.free; local = come.local ∙ k.gives.free.local })
            k.gives.beside
            (subst (λ z. UsesFirst layout (SameSlots (lists_at n.pages z)) z key n.pages m.pages) is s.first);
        queues = s.queues;
        steps = let a = k.gives.steps in let b = s.steps in omega arith;
      }

  -- after the search in vain
  pub served_after : (o n m : Sharded) → c < 8 → Tried c o n → SortedPages n.pages n.queues → EachOnce n.queues
      → (r : Result ℕ Refusal)
      → InsertsElsewhere layout c value n r m → InsertServes layout c value o r m
  served_after o n m class t sorted once (Ok key) k =
      let gives = k.prepares.gives in
      let names = names_before layout k.page key o.pages n.pages t.through.aside t.through.shard k.names in
      let next : NextAfterSearch c k.page key value o m = record {
        searched = n;
        left = none_left c o n t sorted once;
        opened = t.opened;
        given = k.given;
        prepares = k.prepares;
        queues = k.queues;
        inserts = k.inserts;
      } in
      let other : (page_at o.pages k.page).class ≢ Some (c + 1) = λ is. next_other c k.page n k.prepares.next
      (t.through.classes k.page ∙ is) in
      let first : UsesFirst layout (AllFree c) k.page key o.pages m.pages = first_since layout (AllFree c) (AllFree c)
      k.page key o.pages n.pages m.pages t.through.aside t.through.shard (λ (l : Lists) come. come)
      (λ q ne. t.looks.lists q) k.first in (
        added_since key value o.pages n.pages m.pages t.through (added_given k.page c k.page key value n.pages
            k.given.pages m.pages gives k.inserts),
        names.shard,
        record {
          page = k.page;
          inside = let a = k.prepares.inside in let e = gives.count in let f = k.inserts.count in omega arith;
          names = names.page;
          class = k.inserts.class ∙ ap (λ (g : SeenPage). g.class) gives.here;
          others = λ q ne. ap (λ (g : SeenPage). g.class) (k.inserts.others q ne)
              ∙ (ap (λ (g : SeenPage). g.class) (gives.others q ne) ∙ t.through.classes q);
          opened = let same : m.queues.opened ≡ k.given.queues.opened = ap (λ (q : PageQueues). q.opened) k.queues in
              let P : ℕ × ℕ → Type 0 = λ z. ((k.page < z.0) × (z.1 ≡ z.0))
              ⊎ ((k.page ≡ z.0) × (z.1 ≡ z.0 + 8)) in subst P (λ i. (t.opened i, sym same i)) k.prepares.opened;
          found = inr (
            other,
            first,
            begins_first layout c k.page key o.pages m.pages first,
            next,
            record {
              looked = n;
              looks = t.looks;
              queues = subst (ComesInFront c k.page n.queues) (sym k.queues) k.prepares.queues;
            },
          );
        },
      )
  served_after o n m class t sorted once (Err refusal.Full) k = subst (NoRoom c o) (sym k.0)
      (let left = none_left c o n t sorted once in record {
        left = left;
        looks = t.looks;
        blank = k.1.blank;
        whole = λ p inside whole. ⊎_elim
            (λ (is : whole.class ≡ c). not_whole c p n.pages class
            (left.done p inside (whole.classed ∙ ap (λ z. Some z) (suc_is whole.class is))).mine
            (whole.classed ∙ ap (λ z. Some z) (suc_is whole.class is)) whole)
            (λ (other : whole.class ≢ c). k.1.spare p inside (record {
              whole = whole;
              other = λ is. other (let e : Some (suc whole.class) ≡ Some (c + 1) = sym whole.classed ∙ is
                  in let f : suc whole.class ≡ c + 1 = cc in omega arith);
            }))
            (cases_eq whole.class c);
        unopened = k.1.unopened;
      }) where
        suc_is : (d : ℕ) → d ≡ c → suc d ≡ c + 1
        suc_is d is = omega arith
  served_after o n m class t sorted once (Err refusal.Memory) k = subst
      (λ (z : Sharded). WorksThroughout o.pages z.pages × NoneLeft c o.pages z.pages × NeedsSegment c z
      × LooksInVain c o z) (sym k.0) (t.through, none_left c o n t sorted once, k.1, t.looks)
  served_after o n m class t sorted once (Err refusal.BadKey) k = absurd k
  served_after o n m class t sorted once (Err refusal.Gone) k = absurd k
  served_after o n m class t sorted once (Err refusal.Crowded) k = absurd k
  served_after o n m class t sorted once (Err refusal.HoldsFull) k = absurd k
  served_after o n m class t sorted once (Err refusal.NotHeld) k = absurd k
  served_after o n m class t sorted once (Err refusal.TooLong) k = absurd k
  served_after o n m class t sorted once (Err refusal.Taken) k = absurd k
  served_after o n m class t sorted once (Err refusal.NoShard) k = absurd k
  served_after o n m class t sorted once (Err refusal.Waiting) k = absurd k
  served_after o n m class t sorted once (Err refusal.BadShape) k = absurd k
  served_after o n m class t sorted once (Err refusal.WrongKind) k = absurd k

-- the front page of a quick insert has a slot
pub not_quick : {A : Type 0} (c : ℕ) (o : Sharded) → ((p : ℕ) → slice_get (class_queue o.queues c) 0 ≡ Some p
    → NothingMine (page_at o.pages p)) → IsQuick c o → A
not_quick c o none q = absurd (false≢true (sym (none q.page q.front q.slot) ∙ q.mine))

pub prepared_has_slot : {A : Type 0} (c p : ℕ) (o n : Sharded) → c < 8 → PreparesPage c p o n
    → ((r : ℕ) → slice_get (class_queue n.queues c) 0 ≡ Some r → NothingMine (page_at n.pages r)) → A
prepared_has_slot c p o n class k none = some_given p c o.pages n.pages class k.gives
    (none p (ap (λ xs. slice_get xs 0) k.front))

-- ---- the number of steps of a prepare and of an insert

pub prepare_in : (c : ℕ) (o n : Sharded) (r : Result ℕ Refusal) → PrepareServes c o r n → PrepareIsBounded o n
prepare_in c o n (Ok p) k = let a = k.gives.steps in omega arith
prepare_in c o n (Err refusal.Full) k = subst (PrepareIsBounded o) (sym k.0) (steps_none 1 o.pages.owner)
prepare_in c o n (Err refusal.Memory) k = subst (PrepareIsBounded o) (sym k.0) (steps_none 1 o.pages.owner)
prepare_in c o n (Err refusal.BadKey) k = absurd k
prepare_in c o n (Err refusal.Gone) k = absurd k
prepare_in c o n (Err refusal.Crowded) k = absurd k
prepare_in c o n (Err refusal.HoldsFull) k = absurd k
prepare_in c o n (Err refusal.NotHeld) k = absurd k
prepare_in c o n (Err refusal.TooLong) k = absurd k
prepare_in c o n (Err refusal.Taken) k = absurd k
prepare_in c o n (Err refusal.NoShard) k = absurd k
prepare_in c o n (Err refusal.Waiting) k = absurd k
prepare_in c o n (Err refusal.BadShape) k = absurd k
prepare_in c o n (Err refusal.WrongKind) k = absurd k

elsewhere_in : (layout : Layout) (c : ℕ) (value : List ℕ) (o n : Sharded) (r : Result ℕ Refusal)
    → InsertsElsewhere layout c value o r n → StepsAtMost (length value + 3) o.pages.owner n.pages.owner
elsewhere_in layout c value o n (Ok key) k = k.steps
elsewhere_in layout c value o n (Err refusal.Full) k = subst
    (λ (z : Sharded). StepsAtMost (length value + 3) o.pages.owner z.pages.owner) (sym k.0) (steps_none _ o.pages.owner)
elsewhere_in layout c value o n (Err refusal.Memory) k = subst
    (λ (z : Sharded). StepsAtMost (length value + 3) o.pages.owner z.pages.owner) (sym k.0) (steps_none _ o.pages.owner)
elsewhere_in layout c value o n (Err refusal.BadKey) k = absurd k
elsewhere_in layout c value o n (Err refusal.Gone) k = absurd k
elsewhere_in layout c value o n (Err refusal.Crowded) k = absurd k
elsewhere_in layout c value o n (Err refusal.HoldsFull) k = absurd k
elsewhere_in layout c value o n (Err refusal.NotHeld) k = absurd k
elsewhere_in layout c value o n (Err refusal.TooLong) k = absurd k
elsewhere_in layout c value o n (Err refusal.Taken) k = absurd k
elsewhere_in layout c value o n (Err refusal.NoShard) k = absurd k
elsewhere_in layout c value o n (Err refusal.Waiting) k = absurd k
elsewhere_in layout c value o n (Err refusal.BadShape) k = absurd k
elsewhere_in layout c value o n (Err refusal.WrongKind) k = absurd k

pub served_in : (layout : Layout) (c : ℕ) (value : List ℕ) (o n m : Sharded) (r : Result ℕ Refusal) → Tried c o n
    → InsertsElsewhere layout c value n r m → InsertIsBounded (length value) o m
served_in layout c value o n m r t k = sum _ _ _ o.pages.count (length value) t.steps
    (elsewhere_in layout c value n m r k)
  where
    sum : (a b c k w : ℕ) → b ≤ a + (9 * k + 3) → c ≤ b + (w + 3) → c ≤ a + (9 * k + w + 53)
    sum a b c k w g h = omega arith
