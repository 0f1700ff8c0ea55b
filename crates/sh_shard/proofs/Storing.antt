-- A value was added: what follows for the work before, and the number of steps that led there.
use Rattle.std.proofs.Common.{◌≡◌, ℕ, suc, ◌+◌, ◌*◌, ◌<◌, ◌≤◌, ◌⊎◌, inl, true, Some, List, [], ◌∷◌, ◌++◌, length}
use Rattle.std.proofs.Common.{slice_get, ap, ◌∙◌, sym, subst, arith}
use Rattle.std.specs.Prelude.{Ok}
use Rattle.sh_lists.specs.Numbers.{Distinct}
use Rattle.sh_queue.specs.Numbers.{has_number}
use Rattle.sh_queue.specs.Queues.{PageQueues, class_queue}
use Rattle.sh_history.specs.declared.entry.Entry.TheVariants as entry
use Rattle.sh_history.specs.declared.log.LogEntry.TheVariants.{Known}
use Rattle.sh_key.specs.Layout.{Layout}
use Rattle.sh_pass.specs.Owners.{SeenPage}
use Rattle.sh_lists.specs.Lists.{Lists}
use Rattle.sh_shard.specs.Slots.{OwnFirst}
use Rattle.sh_shard.specs.Pages.{Paged, page_at, lists_at, PageInserts, UsesFirst, GivesClass, NamesSlot}
use Rattle.sh_shard.specs.Shards.{Sharded, SortedPages, Added, InsertServes, CameByBell}
use Rattle.sh_shard.specs.Shards.{FoundAfterBell, FoundInQueue}
use Rattle.sh_shard.specs.Steps.{StepsAtMost}
use Rattle.sh_shard.specs.Works.{WorksThroughout}
use Rattle.sh_shard.specs.Finding.{StoresIn, StoresInQueue}
use Rattle.sh_shard.specs.Searches.{Searching}
use Rattle.sh_shard.proofs.Working.{names_before, first_since}
use Rattle.sh_shard.proofs.Slots.{own_since}
use Rattle.sh_shard.proofs.Turning.{turned_same, apart_ahead}
use Rattle.sh_shard.proofs.Searching.{front_is, front_has, done_still}
use Rattle.sh_pass.proofs.OwnRuns.{aside_then}

pub added_here : (p key : ℕ) (value : List ℕ) (o n : Paged) → PageInserts p value key o n → Added value key o n
added_here p key value o n i = record { aside = i.aside; put = i.put; log = i.log; shard = i.shard; count = i.count }

pub added_since : (key : ℕ) (value : List ℕ) (o n m : Paged) → WorksThroughout o n → Added value key n m
    → Added value key o m
added_since key value o n m s i = record {
  aside = aside_then s.aside i.aside;
  put = i.put ∙ s.put;
  log = i.log ∙ (λ j. s.log j ++ Known (entry.Insert (s.aside.same.pass j) key value) ∷ []);
  shard = i.shard ∙ s.shard;
  count = i.count ∙ s.count;
}

-- in a page that was given a class
pub added_given : (p c q key : ℕ) (value : List ℕ) (o n m : Paged) → GivesClass p c o n → PageInserts q value key n m
    → Added value key o m
added_given p c q key value o n m g i = record {
  aside = aside_then g.aside i.aside;
  put = i.put ∙ g.put;
  log = i.log ∙ (λ j. g.log j ++ Known (entry.Insert (g.aside.same.pass j) key value) ∷ []);
  shard = i.shard ∙ g.shard;
  count = i.count ∙ g.count;
}

-- where the search found page p
found_ahead : (c p key turn last : ℕ) (value : List ℕ) (o n m : Sharded) (s : Searching c turn last o n)
    → slice_get (class_queue n.queues c) 0 ≡ Some p → PageInserts p value key n.pages m.pages → m.queues ≡ n.queues
    → FoundInQueue c p o m
found_ahead c p key turn last value o n m s front i same =
    let f = front_is c p turn last o n s front in
    let all : class_queue o.queues c ≡ s.tried ++ p ∷ f.0 = s.whole ∙ ap (λ xs. s.tried ++ xs) f.1 in
    let still : (r : ℕ) → has_number r s.tried ≡ true → page_at m.pages r ≡ page_at n.pages r = λ r h. i.others r
    (apart_ahead p r s.tried f.0 (subst Distinct all s.apart) h) in record {
      ahead = s.tried;
      behind = f.0;
      queue = all;
      vain = λ r h. done_still o.pages n.pages m.pages r (still r h) (s.vain r h);
      queues = same ∙ (s.past ∙ sym (turned_same c n.pages m.pages s.tried o.queues still));
    }

-- a search found page p of the class, where the value is now
pub found : (layout : Layout) (c p key turn last : ℕ) (value : List ℕ) (o n m : Sharded) → Searching c turn last o n
    → SortedPages n.pages n.queues → slice_get (class_queue n.queues c) 0 ≡ Some p → p < n.queues.opened
    → NamesSlot layout p key n.pages → PageInserts p value key n.pages m.pages
    → UsesFirst layout (OwnFirst (lists_at n.pages p)) p key n.pages m.pages → m.queues ≡ n.queues
    → StoresInQueue layout c key value o m
found layout c p key turn last value o n m s sorted front inside names i first same = record {
  page = p;
  here = s.stood p (front_has c p n.queues front);
  inside = let e = s.opened in omega arith;
  opened = ap (λ (k : PageQueues). k.opened) same ∙ s.opened;
  finds = found_ahead c p key turn last value o n m s front i same;
  stores = record {
    inside = let a = sorted.all in let e = s.since.through.count in omega arith;
    class = sym (s.since.through.classes p) ∙ sorted.classes c p (front_has c p n.queues front);
    names = names_before layout p key o.pages n.pages s.since.through.aside s.since.through.shard names;
    tried = n.pages;
    through = s.since.through;
    inserts = i;
    first = first_since layout (OwnFirst (lists_at n.pages p)) (OwnFirst (lists_at o.pages p)) p key o.pages n.pages
        m.pages s.since.through.aside s.since.through.shard
        (λ (l : Lists) come. own_since (lists_at o.pages p) (lists_at n.pages p) l (s.since.lists p) come)
        (λ q ne. s.since.lists q) first;
  };
}

-- the number of steps
pub found_in : (c p turn last w : ℕ) (o n m : Sharded) → Searching c turn last o n → SortedPages n.pages n.queues
    → slice_get (class_queue n.queues c) 0 ≡ Some p
    → StepsAtMost (w + 54) n.pages.owner m.pages.owner
    → StepsAtMost (4 * o.pages.count + w + 50) o.pages.owner m.pages.owner
found_in c p turn last w o n m s sorted e t =
    let f = front_is c p turn last o n s e in
    let r : length s.rest ≡ suc (length f.0) = ap length f.1 in
    sum _ _ _ turn (length s.rest) (length f.0) n.queues.opened n.queues.unopened n.pages.count o.pages.count w s.steps
    t s.few r sorted.all s.since.through.count
  where
    sum : (a b c k x y q u n o w : ℕ) → b ≤ a + 4 * k → c ≤ b + (w + 54) → k + x ≤ q → x ≡ suc y → q + 8 * u ≡ n
        → n ≡ o → c ≤ a + (4 * o + w + 50)
    sum a b c k x y q u n o w g h i j l m = omega arith

-- page p of class c has the value: the insert was served, wherever the page came from
pub stored : (layout : Layout) (c p key : ℕ) (value : List ℕ) (o n : Sharded)
    → StoresIn layout c p key value o.pages n.pages → p < o.queues.opened → n.queues.opened ≡ o.queues.opened
    → FoundInQueue c p o n ⊎ (FoundAfterBell c p o n × ((has_number p (class_queue o.queues c) ≡ true)
    ⊎ CameByBell c p key value o.pages n.pages)) → InsertServes layout c value o (Ok key) n
stored layout c p key value o n s inside same where_it_was = (
  added_since key value o.pages s.tried n.pages s.through (added_here p key value s.tried n.pages s.inserts),
  s.names.shard,
  record {
    page = p;
    inside = let a = s.inside in let e = s.through.count in let f = s.inserts.count in omega arith;
    names = s.names.page;
    class = s.inserts.class ∙ (s.through.classes p ∙ s.class);
    others = λ q ne. ap (λ (g : SeenPage). g.class) (s.inserts.others q ne) ∙ s.through.classes q;
    opened = inl (inside, same);
    found = inl (s.class, s.first, where_it_was);
  },
)
