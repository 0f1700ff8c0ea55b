-- The search, the bell, and the search again.
use Rattle.std.proofs.Common.{◌≡◌, ℕ, ◌+◌, ◌*◌, ◌<◌, ◌≤◌, ◌||◌, inl, inr, ⊎_elim, Bool, true, false, Option, Some, None}
use Rattle.std.proofs.Common.{MatchOption, IfSome, List, ◌++◌, refl, ap, ◌∙◌, sym, subst, arith}
use Rattle.std.specs.Prelude.{Ok, MatchBool}
use Rattle.sh_key.specs.Layout.{Layout}
use Rattle.sh_queue.specs.Numbers.{has_number}
use Rattle.sh_queue.specs.Queues.{PageQueues, EachOnce, class_queue}
use Rattle.sh_pass.specs.Owners.{SeenPage, SeenBell}
use Rattle.sh_shard.specs.Steps.{StepsAtMost}
use Rattle.sh_shard.specs.Bounds.{InsertIsBounded}
use Rattle.sh_lists.specs.Lists.{Lists}
use Rattle.sh_shard.specs.Slots.{OwnFirst}
use Rattle.sh_shard.specs.Pages.{Paged, SameLists, page_at, lists_at, PageDone, BellTakes, StepsForRings}
use Rattle.sh_shard.specs.Turning.{come_back_each, any_of_class}
use Rattle.sh_shard.specs.Shards.{Sharded, SortedPages, InsertServes, SearchedInVain}
use Rattle.sh_shard.specs.Works.{WorksThroughout, BellDone, ReadFromBell}
use Rattle.sh_shard.specs.Finding.{StoresIn, StoresInQueue}
use Rattle.sh_shard.specs.Searches.{Searched, ReadsRings, BellWaits, RingsOut, Tried}
use Rattle.sh_shard.proofs.Works.{through_more, through_takes, read_more, read_later}
use Rattle.sh_shard.proofs.Bounding.{rings_then, rings_most}
use Rattle.sh_shard.proofs.BellOrder.{each_same, any_same, each_append, any_append, alone_takes, reads_then, reads_both}
use Rattle.sh_shard.proofs.BellOrder.{reads_keep}
use Rattle.sh_shard.proofs.Hearing.{through_hears}
use Rattle.sh_shard.proofs.Working.{names_before, first_since}
use Rattle.sh_shard.proofs.Slots.{lists_then, own_since}
use Rattle.sh_shard.proofs.Waits.{waits_since}
use Rattle.sh_shard.proofs.Searching.{done_still}
use Rattle.sh_shard.proofs.Storing.{stored}
use Rattle.sh_shard.proofs.ClassDone.{class_done}

-- a link that was not written is met at once
pub rings_first : (c : ℕ) (read : Bool) (o n : Sharded) → ReadsRings c read o n → StepsForRings 1 o.pages n.pages
    → BellWaits o n → MatchOption n.pages.bell.cursor ⊥ (λ _. Unit {0}) → RingsOut c read o n
rings_first c read o n h t w some = record {
  steps = omega arith;
  through = through_hears c read o n h;
  opened = h.opened;
  rung = h.rung;
  rings = h.rings;
  heard = h.heard;
  gained = h.gained;
  lists = h.lists;
  bell = go n.pages.bell.cursor w some;
  pages = h.pages;
  queue = h.queue;
} where
  go : (k : Option ℕ) → MatchOption k (Unit {0}) (λ _. o.pages.bell.met < n.pages.bell.met)
      → MatchOption k ⊥ (λ _. Unit {0}) → MatchOption k (o.pages.bell.takes < n.pages.bell.takes)
      (λ _. o.pages.bell.met < n.pages.bell.met)
  go None w s = absurd s
  go (Some q) w s = w

either_none : (a b : Bool) → (a || b) ≡ false → (a ≡ false) × (b ≡ false)
either_none true b e = absurd (let z : ⊥ = cc in z)
either_none false b e = (refl, e)

pub rings_both : (c : ℕ) (a b read : Bool) (o n m z : Sharded) → read ≡ (a || b) → ReadsRings c a o n
    → StepsForRings 1 o.pages n.pages → BellTakes n.pages m.pages → m.queues ≡ n.queues → ReadsRings c b m z
    → StepsForRings 1 m.pages z.pages → BellWaits m z → RingsOut c read o z
rings_both c a b read o n m z is h x t same k y w = record {
  steps = rings_then 2 1 3 o.pages m.pages z.pages (rings_then 1 1 2 o.pages n.pages m.pages x t.steps (omega arith)) y
      (omega arith);
  through = through_more o.pages n.pages z.pages (through_hears c a o n h)
      (through_more n.pages m.pages z.pages (through_takes n.pages m.pages t) (through_hears c b m z k));
  opened = k.opened ∙ (ap (λ (x : PageQueues). x.opened) same ∙ h.opened);
  rung = h.rung ++ k.rung;
  rings = record {
    reads = reads_both h.rung k.rung o.pages m.pages z.pages
        (reads_then h.rung o.pages n.pages m.pages h.rings.reads (alone_takes n.pages m.pages t)) k.rings.reads;
    queues = k.rings.queues ∙ (ap (λ (q : PageQueues). come_back_each z.pages k.rung q)
        (same ∙ (h.rings.queues ∙ sym (each_same n.pages z.pages class h.rung o.queues)))
        ∙ sym (each_append z.pages h.rung k.rung o.queues));
  };
  heard = is ∙ (ap (λ x. x || b) (h.heard ∙ sym (any_same n.pages z.pages class c h.rung))
      ∙ (ap (λ x. any_of_class c z.pages h.rung || x) k.heard ∙ sym (any_append c z.pages h.rung k.rung)));
  gained = λ p e. ⊎_elim
      (λ (r : has_number p (class_queue m.queues c) ≡ true). ⊎_elim
      (λ (f : has_number p (class_queue o.queues c) ≡ true). inl f)
      (λ (f : ReadFromBell p o.pages n.pages). inr (read_more p o.pages n.pages z.pages f (through_more n.pages m.pages
      z.pages (through_takes n.pages m.pages t) (through_hears c b m z k))))
      (h.gained p (sym (ap (λ (x : PageQueues). has_number p (class_queue x c)) same) ∙ r)))
      (λ (r : ReadFromBell p m.pages z.pages). inr (read_later p o.pages m.pages z.pages (through_more o.pages n.pages
      m.pages (through_hears c a o n h) (through_takes n.pages m.pages t)) r))
      (k.gained p e);
  lists = lists_then o.pages n.pages z.pages h.lists (lists_then n.pages m.pages z.pages t.lists k.lists);
  bell = go z.pages.bell.cursor w;
  pages = λ r q e. let f = either_none a b (sym is ∙ r) in k.pages f.1 q
      (ap (λ (g : SeenPage). g.class) (t.pages q) ∙ (h.classes q ∙ e)) ∙ (t.pages q ∙ h.pages f.0 q e);
  queue = λ r q e. let f = either_none a b (sym is ∙ r) in h.queue f.0 q
      (ap (λ x. has_number q (class_queue x c)) (sym same) ∙ k.queue f.1 q e);
} where
  class : (r : ℕ) → (page_at z.pages r).class ≡ (page_at n.pages r).class
  class r = k.classes r ∙ ap (λ (g : SeenPage). g.class) (t.pages r)

  go : (x : Option ℕ) → MatchOption x (Unit {0}) (λ _. m.pages.bell.met < z.pages.bell.met)
      → MatchOption x (o.pages.bell.takes < z.pages.bell.takes) (λ _. o.pages.bell.met < z.pages.bell.met)
  go None w = omega (arith, h.takes, t.takes, k.takes)
  go (Some q) w = omega (arith, h.met, t.met, w)

weaken_bell : (x : Option ℕ) (a b d e f g : ℕ) → a ≤ b → e ≤ f → MatchOption x (b < d) (λ _. f < g)
    → MatchOption x (a < d) (λ _. e < g)
weaken_bell None a b d e f g l m h = omega arith
weaken_bell (Some q) a b d e f g l m h = omega arith

bell_since : (o n m : Paged) → WorksThroughout o n → BellDone n m → BellDone o m
bell_since o n m t d = weaken_bell m.bell.cursor _ _ _ _ _ _ t.bell_takes t.bell_met d

done_since : (p : ℕ) (o n m : Paged) → WorksThroughout o n → PageDone n m p → PageDone o m p
done_since p o n m s d = record { mine = d.mine; waits = waits_since (page_at m p).cursor _ _ _ _ (s.met p) d.waits }

tried_in : (a b c k l : ℕ) → b ≤ a + 4 * k → c ≤ b + (l + 3) → l ≡ k → c ≤ a + (9 * k + 3)
tried_in a b c k l x y e = omega arith

tried_in_two : (a b c d k l j : ℕ) → b ≤ a + 4 * k → c ≤ b + (l + 3) → d ≤ c + 4 * j → l ≡ k → j ≡ l
    → d ≤ a + (9 * k + 3)
tried_in_two a b c d k l j x y z e f = omega arith

-- no page of the class was read: the result of the first search still holds
pub tried_once : (c : ℕ) (o n m : Sharded) → Searched c o n → SortedPages n.pages n.queues → RingsOut c false n m
    → Tried c o m
tried_once c o n m s k r = record {
  steps = tried_in _ _ _ o.pages.count n.pages.count s.steps (rings_most 3 n.pages m.pages r.steps)
      s.since.through.count;
  through = through_more o.pages n.pages m.pages s.since.through r.through;
  kept = λ q ne x. reads_keep r.rung n.pages m.pages r.rings.reads q x ∙ s.since.kept q ne x;
  opened = r.opened ∙ s.opened;
  looks = record {
    searched = n;
    first = s.vain;
    rung = r.rung;
    heard = m;
    rings = r.rings;
    again = subst (λ (b : Bool). MatchBool b (SearchedInVain c m m) (m ≡ m)) r.heard refl;
    lists = lists_then o.pages n.pages m.pages s.since.lists r.lists;
  };
  bell = bell_since o.pages n.pages m.pages s.since.through r.bell;
  done = λ p h. let there = r.queue refl p h in done_still o.pages n.pages m.pages p
      (r.pages refl p (k.classes c p there)) (s.done p there);
}

-- a page of the class was read: the second search decides
pub tried_twice : (c : ℕ) (read : Bool) (o n m z : Sharded) → read ≡ true → Searched c o n → RingsOut c read n m
    → Searched c m z → Tried c o z
tried_twice c read o n m z did s r t =
    let before = through_more o.pages n.pages m.pages s.since.through r.through in record {
      steps = tried_in_two _ _ _ _ o.pages.count n.pages.count m.pages.count s.steps
          (rings_most 3 n.pages m.pages r.steps) t.steps s.since.through.count r.through.count;
      through = through_more o.pages m.pages z.pages before t.since.through;
      kept = λ q ne x. t.since.kept q (λ e. ne (sym (before.classes q) ∙ e)) x
          ∙ (reads_keep r.rung n.pages m.pages r.rings.reads q x ∙ s.since.kept q ne x);
      opened = t.opened ∙ (r.opened ∙ s.opened);
      looks = record {
        searched = n;
        first = s.vain;
        rung = r.rung;
        heard = m;
        rings = r.rings;
        again = subst (λ (b : Bool). MatchBool b (SearchedInVain c m z) (z ≡ m)) (sym did ∙ r.heard) t.vain;
        lists = lists_then o.pages n.pages z.pages s.since.lists
            (lists_then n.pages m.pages z.pages r.lists t.since.lists);
      };
      bell = let d : BellDone o.pages m.pages = bell_since o.pages n.pages m.pages
          s.since.through r.bell in
          let P : SeenBell → Type 0 = λ b. MatchOption b.cursor (o.pages.bell.takes < b.takes)
          (λ _. o.pages.bell.met < b.met) in subst P (sym t.since.bell) d;
      done = λ p h. done_since p o.pages m.pages z.pages before (t.done p h);
    }

-- the first search found a page
pub looked_once : (layout : Layout) (c key : ℕ) (value : List ℕ) (o n : Sharded)
    → StoresInQueue layout c key value o n → InsertServes layout c value o (Ok key) n
looked_once layout c key value o n s = stored layout c s.page key value o n s.stores s.inside s.opened
    (inl s.finds)

-- the second search found a page, which was in the queue or was read from the bell
found_again : (layout : Layout) (c key : ℕ) (value : List ℕ) (read : Bool) (o n m z : Sharded) → read ≡ true
    → Searched c o n → SortedPages n.pages n.queues → EachOnce n.queues → RingsOut c read n m
    → StoresInQueue layout c key value m z → InsertServes layout c value o (Ok key) z
found_again layout c key value read o n m z did s sorted once r t =
    let before : WorksThroughout o.pages m.pages = through_more o.pages n.pages m.pages s.since.through r.through in
    let class : (page_at o.pages t.page).class ≡ Some (c + 1) = sym (before.classes t.page) ∙ t.stores.class in
    let stores : StoresIn layout c t.page key value o.pages z.pages = record {
      inside = let a = t.stores.inside in let e = before.count in omega arith;
      class = class;
      names = names_before layout t.page key o.pages m.pages before.aside before.shard t.stores.names;
      tried = t.stores.tried;
      through = through_more o.pages m.pages t.stores.tried before t.stores.through;
      inserts = t.stores.inserts;
      first = let same : SameLists o.pages m.pages = lists_then o.pages n.pages m.pages s.since.lists r.lists in
          first_since layout (OwnFirst (lists_at m.pages t.page)) (OwnFirst (lists_at o.pages t.page)) t.page key
          o.pages m.pages z.pages before.aside before.shard
          (λ (l : Lists) come. own_since (lists_at o.pages t.page) (lists_at m.pages t.page) l (same t.page) come)
          (λ q ne. same q) t.stores.first;
    } in
    stored layout c t.page key value o z stores
    (let a = t.inside in let e = r.opened in let f = s.opened in omega arith)
    (t.opened ∙ (r.opened ∙ s.opened)) (inr (
      record {
        searched = n;
        first = s.vain;
        rung = r.rung;
        heard = m;
        rings = r.rings;
        some = sym r.heard ∙ did;
        finds = t.finds;
      },
      ⊎_elim
          (λ (h : has_number t.page (class_queue n.queues c) ≡ true). inl (s.stood t.page h))
          (λ (h : ReadFromBell t.page n.pages m.pages). inr (record {
            searched = n.pages;
            done = class_done c o n s.since.through s.done sorted once;
            heard = m.pages;
            reads = h;
            bell = bell_since o.pages n.pages m.pages s.since.through r.bell;
            tried = t.stores.tried;
            again = t.stores.through;
            inserts = t.stores.inserts;
          }))
          (r.gained t.page t.here),
    ))

pub looked_again : (layout : Layout) (c : ℕ) (value : List ℕ) (read : Bool) (o n m z : Sharded) (r : Option ℕ)
    → read ≡ true → Searched c o n → SortedPages n.pages n.queues → EachOnce n.queues → RingsOut c read n m
    → MatchOption r (Searched c m z) (λ key. StoresInQueue layout c key value m z)
    → MatchOption r (Tried c o z) (λ key. InsertServes layout c value o (Ok key) z)
looked_again layout c value read o n m z None did s sorted once k t = tried_twice c read o n m z did s k t
looked_again layout c value read o n m z (Some key) did s sorted once k t = found_again layout c key value read o n m z
    did s sorted once k t

-- the number of steps
found_in_two : (a b c d k l j w : ℕ) → b ≤ a + 4 * k → c ≤ b + (l + 3) → d ≤ c + (4 * j + w + 50) → l ≡ k → j ≡ l
    → d ≤ a + (9 * k + w + 53)
found_in_two a b c d k l j w x y z e f = omega arith

pub looked_in : (c w : ℕ) (read : Bool) (o n m z : Sharded) (r : Option ℕ) → Searched c o n → RingsOut c read n m
    → IfSome r (λ _. StepsAtMost (4 * m.pages.count + w + 50) m.pages.owner z.pages.owner)
    → IfSome r (λ _. InsertIsBounded w o z)
looked_in c w read o n m z None s k t = tt
looked_in c w read o n m z (Some key) s k t = found_in_two _ _ _ _ o.pages.count n.pages.count m.pages.count w s.steps
    (rings_most 3 n.pages m.pages k.steps) t s.since.through.count k.through.count
