-- A search of the pages of a class: they are tried in turn, until one has the value or all were tried.
use Rattle.std.proofs.Common.{◌≡◌, ◌≢◌, ℕ, suc, ◌+◌, ◌*◌, ◌<◌, ◌≤◌, ⊎_elim, true, false, Some, None, MatchOption, List}
use Rattle.std.proofs.Common.{[], ◌∷◌, ◌++◌, append_assoc, append-nil, length, slice_get, refl, ap, ◌∙◌, sym, subst}
use Rattle.std.proofs.Common.{arith}
use Rattle.std.specs.List.{last_or}
use Rattle.std.proofs.lemmas.Bool.{cases_eq, false≢true, or_cases}
use Rattle.sh_lists.specs.Numbers.{Distinct}
use Rattle.sh_lists.proofs.Distincts.{Misses-left}
use Rattle.sh_queue.specs.Numbers.{has_number}
use Rattle.sh_queue.specs.Queues.{PageQueues, EachOnce, class_queue, at_back, among_full}
use Rattle.sh_queue.proofs.Numbers.{has_number-append, has_number-from_Misses, has_number-first, has_number-last}
use Rattle.sh_queue.proofs.Numbers.{has_number-here}
use Rattle.sh_queue.proofs.PutBack.{has_number-only}
use Rattle.sh_queue.proofs.ClassQueues.{class_queue-at_back_front, class_queue-among_full_front}
use Rattle.sh_queue.proofs.PagePlaces.{class_distinct, length-class_queue}
use Rattle.sh_queue.proofs.ClassQueues.{has_number-at_back, has_number-among_full}
use Rattle.sh_pass.specs.Owners.{SeenPage}
use Rattle.sh_shard.specs.Pages.{Paged, SameLists, page_at, WorksOn, PageDone}
use Rattle.sh_shard.specs.Shards.{Sharded, SortedPages}
use Rattle.sh_shard.specs.Steps.{StepsAtMost}
use Rattle.sh_shard.specs.Turning.{set_aside, turned_past}
use Rattle.sh_shard.specs.Works.{KeepsOthers}
use Rattle.sh_shard.specs.Searches.{WorkedSince, SetsAside, Stood, Searched, Searching}
use Rattle.sh_shard.proofs.Turning.{aside_either, turned_last, turned_same, apart_ahead}
use Rattle.sh_shard.proofs.Works.{through_none, through_more, through_works}
use Rattle.sh_shard.proofs.Bounding.{steps_none, plain_then}
use Rattle.sh_shard.proofs.Waits.{waits_since}
use Rattle.sh_shard.proofs.Slots.{lists_none, lists_then}

-- ---- work on pages, one after the other

pub since_none : (c : ℕ) (o : Paged) → WorkedSince c o o
since_none c o = record { through = through_none o; bell = refl; kept = λ q ne x. refl; lists = lists_none o }

-- work on a page of class c leaves the slots of the pages of other classes
kept_works : (c p : ℕ) (o n m : Paged) → WorkedSince c o n → WorksOn p n m → (page_at n p).class ≡ Some (c + 1)
    → KeepsOthers c o m
kept_works c p o n m s w class q ne x = ⊎_elim
    (λ (e : q ≡ p). absurd (ne (sym (s.through.classes q)
    ∙ subst (λ (r : ℕ). (page_at n r).class ≡ Some (c + 1)) (sym e) class)))
    (λ (other : q ≢ p). ap (λ (g : SeenPage). g.mine x) (w.others q other) ∙ s.kept q ne x)
    (cases_eq q p)

pub since_works : (c p : ℕ) (o n m : Paged) → WorkedSince c o n → WorksOn p n m
    → (page_at n p).class ≡ Some (c + 1) → SameLists n m → WorkedSince c o m
since_works c p o n m s w class lists = record {
  through = through_more o n m s.through (through_works p n m w);
  bell = w.bell ∙ s.bell;
  kept = kept_works c p o n m s w class;
  lists = lists_then o n m s.lists lists;
}

done_here : (c p : ℕ) (o n m : Paged) → WorkedSince c o n → PageDone n m p → PageDone o m p
done_here c p o n m s d = record {
  mine = d.mine;
  waits = waits_since (page_at m p).cursor _ _ _ _ (s.through.met p) d.waits;
}

-- a page that nothing has touched since is still done
pub done_still : (o n m : Paged) (r : ℕ) → page_at m r ≡ page_at n r → PageDone o n r → PageDone o m r
done_still o n m r e h =
    let P : SeenPage → Type 0 = λ g. ((x : ℕ) → g.mine x ≡ false) × MatchOption g.cursor (g.armed ≡ true)
    (λ _. (page_at o r).met < g.met) in
    let both = subst P (sym e) (h.mine, h.waits) in record { mine = both.0; waits = both.1 }

done_kept : (c p : ℕ) (o n m : Paged) (r : ℕ) → WorkedSince c o n → WorksOn p n m → PageDone n m p → PageDone o n r
    → PageDone o m r
done_kept c p o n m r s w d h = ⊎_elim
    (λ (e : r ≡ p). subst (PageDone o m) (sym e) (done_here c p o n m s d))
    (λ (ne : r ≢ p). done_still o n m r (w.others r ne) h)
    (cases_eq r p)

-- ---- the queue of the class after a page went to the back or to the full queue

-- the page that was last is not among those ahead of it
last_in : (x last : ℕ) (xs : List ℕ) → xs ≢ [] → last_or (Some x) xs ≡ Some last → (last_or None xs ≡ Some last)
    × (has_number last xs ≡ true)
last_in x last [] ne e = absurd (ne refl)
last_in x last (y ∷ ys) ne e = (e, has_number-last last (y ∷ ys) e)

-- ---- the search

pub begins : (c last : ℕ) (o : Sharded) → EachOnce o.queues → last_or None (class_queue o.queues c) ≡ Some last
    → Searching c 0 last o o
begins c last o once e = record {
  since = since_none c o.pages;
  steps = steps_none 0 o.pages.owner;
  opened = refl;
  stood = λ p h. h;
  apart = class_distinct o.queues once c;
  tried = [];
  rest = class_queue o.queues c;
  whole = refl;
  vain = λ p h. absurd (false≢true h);
  past = refl;
  waited = [];
  queue = sym (append-nil (class_queue o.queues c));
  ends = e;
  few = let k = length-class_queue o.queues once c in omega arith;
  done = λ p h. absurd (false≢true h);
}

pub front_is : (c p turn last : ℕ) (o n : Sharded) (s : Searching c turn last o n)
    → slice_get (class_queue n.queues c) 0 ≡ Some p → (ys : List ℕ) × (s.rest ≡ p ∷ ys)
front_is c p turn last o n s e = go s.rest refl s.ends where
  go : (xs : List ℕ) → s.rest ≡ xs → last_or None xs ≡ Some last → (ys : List ℕ) × (s.rest ≡ p ∷ ys)
  go [] is l = absurd (let z : None ≡ Some last = l in cc)
  go (x ∷ xs) is l =
      let f : Some x ≡ Some p = sym (ap (λ ys. slice_get ys 0) (s.queue ∙ ap (λ ys. ys ++ s.waited) is)) ∙ e in
      let k : x ≡ p = cc in (xs, is ∙ ap (λ z. z ∷ xs) k)

pub front_has : (c p : ℕ) (q : PageQueues) → slice_get (class_queue q c) 0 ≡ Some p → has_number p (class_queue q c)
    ≡ true
front_has c p q e = has_number-first p (class_queue q c) e

pub settled_opened : (c p : ℕ) (o n : Sharded) → SetsAside c p o n → n.queues.opened ≡ o.queues.opened
settled_opened c p o n s = ⊎_elim (λ (b : n.queues ≡ at_back c p o.queues). ap (λ (q : PageQueues). q.opened) b)
    (λ (b : n.queues ≡ among_full p o.queues). ap (λ (q : PageQueues). q.opened) b)
    (aside_either c p o.pages o.queues n.queues s.queues)

-- every page in the class then was there before
settled_stood : (c p : ℕ) (n m z : Sharded) → EachOnce n.queues → c < 8 → m.queues ≡ n.queues
    → has_number p (class_queue n.queues c) ≡ true → SetsAside c p m z → Stood c n z
settled_stood c p n m z once l same here st r h = ⊎_elim
    (λ (b : z.queues ≡ at_back c p m.queues). ⊎_elim
    (λ (t : has_number r (class_queue m.queues c) ≡ true). before t)
    (λ (t : (c ≡ c) × (r ≡ p)). subst (λ k. has_number k (class_queue n.queues c) ≡ true) (sym t.1) here)
    (has_number-at_back c p m.queues c r inside (sym (ap (λ (k : PageQueues). has_number r (class_queue k c)) b) ∙ h)))
    (λ (b : z.queues ≡ among_full p m.queues). before (has_number-among_full c p m.queues c r
    (sym (ap (λ (k : PageQueues). has_number r (class_queue k c)) b) ∙ h)))
    (aside_either c p m.pages m.queues z.queues st.queues)
  where
    before : has_number r (class_queue m.queues c) ≡ true → has_number r (class_queue n.queues c) ≡ true
    before t = sym (ap (λ (k : PageQueues). has_number r (class_queue k c)) same) ∙ t

    inside : c < length m.queues.classes
    inside = let e : length m.queues.classes ≡ length n.queues.classes = ap (λ (k : PageQueues). length k.classes) same
        in let f = once.classes in omega arith

-- the pages that wait after one more page was tried
pub record Turned (c last : ℕ) (o z : Sharded) (p : ℕ) (ys : List ℕ) : Type 0 where
  pub since : WorkedSince c o.pages z.pages
  pub opened : z.queues.opened ≡ o.queues.opened
  pub stood : Stood c o z
  pub waited : List ℕ
  pub queue : class_queue z.queues c ≡ ys ++ waited
  pub done : (r : ℕ) → has_number r waited ≡ true → PageDone o.pages z.pages r

turned : (c p turn last : ℕ) (o n m z : Sharded) (s : Searching c turn last o n) (ys : List ℕ) → s.rest ≡ p ∷ ys
    → EachOnce n.queues → c < 8 → m.queues ≡ n.queues
    → WorksOn p n.pages m.pages → PageDone n.pages m.pages p → SetsAside c p m z
    → (page_at n.pages p).class ≡ Some (c + 1) → SameLists n.pages m.pages → Turned c last o z p ys
turned c p turn last o n m z s ys is once l same w d st class lists =
    let q : class_queue n.queues c ≡ p ∷ (ys ++ s.waited) = s.queue ∙ ap (λ xs. xs ++ s.waited) is in
    let q' : class_queue m.queues c ≡ p ∷ (ys ++ s.waited) = ap (λ (k : PageQueues). class_queue k c) same ∙ q in
    let since : WorkedSince c o.pages z.pages = subst (WorkedSince c o.pages) (sym st.pages)
    (since_works c p o.pages n.pages m.pages s.since w class lists) in
    let old : (r : ℕ) → has_number r s.waited ≡ true → PageDone o.pages z.pages r = λ r h. subst
    (λ k. PageDone o.pages k r) (sym st.pages) (done_kept c p o.pages n.pages m.pages r s.since w d (s.done r h)) in
    let new : PageDone o.pages z.pages p = subst (λ k. PageDone o.pages k p) (sym st.pages)
    (done_here c p o.pages n.pages m.pages s.since d) in
    let inside : c < length m.queues.classes = (let e : length m.queues.classes
    ≡ length n.queues.classes = ap (λ (k : PageQueues). length k.classes) same in let f = once.classes
    in omega arith) in
    let here : has_number p (class_queue n.queues c) ≡ true = ap (has_number p) q
    ∙ has_number-here p (ys ++ s.waited) in
    let stood : Stood c o z = λ r h. s.stood r (settled_stood c p n m z once l same here st r h) in
    let opened : z.queues.opened ≡ o.queues.opened = settled_opened c p m z st
    ∙ (ap (λ (k : PageQueues). k.opened) same ∙ s.opened) in
    ⊎_elim
    (λ (b : z.queues ≡ at_back c p m.queues).
    let out : Turned c last o z p ys = record {
      since = since;
      opened = opened;
      stood = stood;
      waited = s.waited ++ p ∷ [];
      queue = ap (λ (k : PageQueues). class_queue k c) b ∙ (class_queue-at_back_front c p m.queues (ys ++ s.waited)
          inside q' ∙ append_assoc ys s.waited (p ∷ []));
      done = λ r h. ⊎_elim (λ (t : has_number r s.waited ≡ true). old r t)
          (λ (t : has_number r (p ∷ []) ≡ true). subst (PageDone o.pages z.pages) (sym (has_number-only r p t)) new)
          (or_cases (has_number r s.waited) (has_number r (p ∷ [])) (sym (has_number-append r s.waited (p ∷ [])) ∙ h));
    } in out)
    (λ (b : z.queues ≡ among_full p m.queues).
    let out : Turned c last o z p ys = record {
      since = since;
      opened = opened;
      stood = stood;
      waited = s.waited;
      queue = ap (λ (k : PageQueues). class_queue k c) b ∙ class_queue-among_full_front c p m.queues (ys ++ s.waited)
          q';
      done = old;
    } in out)
    (aside_either c p m.pages m.queues z.queues st.queues)

-- the pages that were tried, and one more
vain_more : (c p turn last : ℕ) (o n m z : Sharded) (s : Searching c turn last o n) → WorksOn p n.pages m.pages
    → PageDone n.pages m.pages p → SetsAside c p m z → (r : ℕ) → has_number r (s.tried ++ p ∷ []) ≡ true
    → PageDone o.pages z.pages r
vain_more c p turn last o n m z s w d st r h = subst (λ (k : Paged). PageDone o.pages k r) (sym st.pages) (⊎_elim
    (λ (t : has_number r s.tried ≡ true). done_kept c p o.pages n.pages m.pages r s.since w d (s.vain r t))
    (λ (t : has_number r (p ∷ []) ≡ true). subst (PageDone o.pages m.pages) (sym (has_number-only r p t))
    (done_here c p o.pages n.pages m.pages s.since d))
    (or_cases (has_number r s.tried) (has_number r (p ∷ [])) (sym (has_number-append r s.tried (p ∷ [])) ∙ h)))

past_more : (c p turn last : ℕ) (o n m z : Sharded) (s : Searching c turn last o n) (ys : List ℕ) → s.rest ≡ p ∷ ys
    → m.queues ≡ n.queues → WorksOn p n.pages m.pages → SetsAside c p m z
    → z.queues ≡ turned_past c z.pages (s.tried ++ p ∷ []) o.queues
past_more c p turn last o n m z s ys is same w st =
    let apart : (r : ℕ) → has_number r s.tried ≡ true → r ≢ p = λ r h. apart_ahead p r s.tried ys
    (subst Distinct (s.whole ∙ ap (λ xs. s.tried ++ xs) is) s.apart) h in
    let still : (r : ℕ) → has_number r s.tried ≡ true → page_at z.pages r ≡ page_at n.pages r = λ r h.
    ap (λ (v : Paged). page_at v r) st.pages ∙ w.others r (apart r h) in
    let before : m.queues ≡ turned_past c z.pages s.tried o.queues = same
    ∙ (s.past ∙ sym (turned_same c n.pages z.pages s.tried o.queues still)) in
    st.queues ∙ (ap (λ (v : Paged). set_aside c p v m.queues) (sym st.pages)
    ∙ (ap (λ (q : PageQueues). set_aside c p z.pages q) before ∙ sym (turned_last c p z.pages s.tried o.queues)))

pub searching_more : (c p turn last : ℕ) (o n m z : Sharded) → Searching c turn last o n
    → slice_get (class_queue n.queues c) 0 ≡ Some p → EachOnce n.queues → c < 8 → m.queues ≡ n.queues
    → WorksOn p n.pages m.pages → PageDone n.pages m.pages p → SetsAside c p m z → z.queues.opened ≡ n.queues.opened
    → StepsAtMost 4 n.pages.owner m.pages.owner → SortedPages n.pages n.queues → SameLists n.pages m.pages → p ≢ last
    → Searching c (turn + 1) last o z
searching_more c p turn last o n m z s e once l same w d st opened four sorted lists ne =
    let f = front_is c p turn last o n s e in
    let class = sorted.classes c p (front_has c p n.queues e) in
    let t = turned c p turn last o n m z s f.0 f.1 once l same w d st class lists in
    let some : f.0 ≢ [] = λ k. ne (let is : Some p ≡ Some last = sym (ap (last_or None) (f.1 ∙ ap (λ ys. p ∷ ys) k))
    ∙ s.ends in let j : p ≡ last = cc in j) in
    let i = last_in p last f.0 some (sym (ap (last_or None) f.1) ∙ s.ends) in record {
      since = t.since;
      steps = subst (λ (v : Paged). StepsAtMost (4 * (turn + 1)) o.pages.owner v.owner) (sym st.pages)
          (plain_then _ _ _ (4 * turn) 4 (4 * (turn + 1)) s.steps four (omega arith));
      opened = t.opened;
      stood = t.stood;
      apart = s.apart;
      tried = s.tried ++ p ∷ [];
      rest = f.0;
      whole = s.whole ∙ (ap (λ xs. s.tried ++ xs) f.1 ∙ sym (append_assoc s.tried (p ∷ []) f.0));
      vain = vain_more c p turn last o n m z s w d st;
      past = past_more c p turn last o n m z s f.0 f.1 same w st;
      waited = t.waited;
      queue = t.queue;
      ends = i.0;
      few = let a = s.few in let b : length s.rest ≡ suc (length f.0) = ap length f.1 in omega arith;
      done = t.done;
    }

none_behind : (p : ℕ) (xs : List ℕ) (w : List ℕ) → Distinct (p ∷ (xs ++ w)) → last_or (Some p) xs ≡ Some p → xs ≡ []
none_behind p [] w d e = refl
none_behind p (y ∷ ys) w d e = absurd (false≢true (sym (has_number-from_Misses p (y ∷ ys)
    (Misses-left p (y ∷ ys) w d.0)) ∙ has_number-last p (y ∷ ys) e))

pub ended : (c p turn last : ℕ) (o n m z : Sharded) → Searching c turn last o n → slice_get (class_queue n.queues c) 0
    ≡ Some p → EachOnce n.queues → c < 8 → m.queues ≡ n.queues
    → WorksOn p n.pages m.pages → PageDone n.pages m.pages p → SetsAside c p m z
    → StepsAtMost 4 n.pages.owner m.pages.owner → SortedPages n.pages n.queues → SameLists n.pages m.pages → p ≡ last
    → Searched c o z
ended c p turn last o n m z s e once l same w d st four sorted lists is =
    let f = front_is c p turn last o n s e in
    let class = sorted.classes c p (front_has c p n.queues e) in
    let t = turned c p turn last o n m z s f.0 f.1 once l same w d st class lists in
    let q : class_queue n.queues c ≡ p ∷ (f.0 ++ s.waited) = s.queue ∙ ap (λ xs. xs ++ s.waited) f.1 in
    let none : f.0 ≡ [] = none_behind p f.0 s.waited (subst Distinct q (class_distinct n.queues once c))
    (sym (ap (last_or None) f.1) ∙ (s.ends ∙ ap (λ (k : ℕ). Some k) (sym is))) in
    let all : class_queue o.queues c ≡ s.tried ++ p ∷ [] = s.whole
    ∙ ap (λ xs. s.tried ++ xs) (f.1 ∙ ap (λ ys. p ∷ ys) none) in
    record {
      since = t.since;
      steps = subst (λ (v : Paged). StepsAtMost (4 * o.pages.count) o.pages.owner v.owner) (sym st.pages)
          (plain_then _ _ _ (4 * turn) 4 (4 * o.pages.count) s.steps four
          (let k = s.few in let r : length s.rest ≡ suc (length f.0) = ap length f.1 in let a = sorted.all in
          let h = s.since.through.count in omega arith));
      opened = t.opened;
      stood = t.stood;
      vain = record {
        through = t.since.through;
        bell = t.since.bell;
        vain = λ r h. vain_more c p turn last o n m z s w d st r (sym (ap (has_number r) all) ∙ h);
        queues = past_more c p turn last o n m z s f.0 f.1 same w st
            ∙ ap (λ xs. turned_past c z.pages xs o.queues) (sym all);
      };
      done = λ r h. t.done r (sym (ap (has_number r) (t.queue ∙ ap (λ xs. xs ++ t.waited) none))
          ∙ h);
    }

-- a search runs out neither of turns nor of pages
pub out_of_turns : {A : Type 0} (c turn last k : ℕ) (o n : Sharded) → Searching c turn last o n → n.queues.opened ≡ k
    → k ≤ turn → A
out_of_turns {A} c turn last k o n s e l = go s.rest refl s.ends where
  go : (xs : List ℕ) → s.rest ≡ xs → last_or None xs ≡ Some last → A
  go [] is m = absurd (let z : None ≡ Some last = m in cc)
  go (x ∷ xs) is m = let a = s.few in let b : length s.rest ≡ suc (length xs) = ap length is in absurd (omega arith)

pub out_of_pages : {A : Type 0} (c turn last : ℕ) (o n : Sharded) → Searching c turn last o n
    → slice_get (class_queue n.queues c) 0 ≡ None → A
out_of_pages {A} c turn last o n s e = go s.rest refl s.ends where
  go : (xs : List ℕ) → s.rest ≡ xs → last_or None xs ≡ Some last → A
  go [] is m = absurd (let z : None ≡ Some last = m in cc)
  go (x ∷ xs) is m = absurd (let z : Some x ≡ None = sym (ap (λ ys. slice_get ys 0)
      (s.queue ∙ ap (λ ys. ys ++ s.waited) is)) ∙ e in cc)

none_last : (x : ℕ) (xs : List ℕ) → last_or (Some x) xs ≡ None → ⊥
none_last x [] e = let z : Some x ≡ None = e in cc
none_last x (y ∷ ys) e = none_last y ys e

no_queue : (xs : List ℕ) → last_or None xs ≡ None → xs ≡ []
no_queue [] e = refl
no_queue (x ∷ xs) e = absurd (none_last x xs e)

pub no_pages : (c : ℕ) (o : Sharded) → last_or None (class_queue o.queues c) ≡ None → Searched c o o
no_pages c o e = record {
  since = since_none c o.pages;
  steps = steps_none (4 * o.pages.count) o.pages.owner;
  opened = refl;
  stood = λ p h. h;
  vain = record {
    through = through_none o.pages;
    bell = refl;
    vain = λ p h. go (class_queue o.queues c) p e h;
    queues = sym (ap (λ xs. turned_past c o.pages xs o.queues) (no_queue (class_queue o.queues c) e));
  };
  done = λ p h. go (class_queue o.queues c) p e h;
} where
  go : (xs : List ℕ) (p : ℕ) → last_or None xs ≡ None → has_number p xs ≡ true → PageDone o.pages o.pages p
  go [] p e h = absurd (false≢true h)
  go (x ∷ xs) p e h = absurd (none_last x xs e)
