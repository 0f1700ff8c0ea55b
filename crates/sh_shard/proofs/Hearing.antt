-- What is read from the bell.
use Rattle.std.proofs.Common.{◌≡◌, ◌≢◌, ℕ, ◌+◌, ◌-◌, ◌<◌, ◌≤◌, ◌==◌, ◌||◌, ◌⊎◌, inl, inr, ⊎_elim, Bool, true, false}
use Rattle.std.proofs.Common.{Some, [], ◌∷◌, ◌++◌, refl, ap, ◌∙◌, sym, subst, arith}
use Rattle.std.proofs.Math.Bool.{or-false}
use Rattle.std.proofs.lemmas.Bool.{false≢true}
use Rattle.std.proofs.lemmas.Bool.Decides.{nat_tests}
use Rattle.sh_queue.specs.Numbers.{has_number}
use Rattle.sh_queue.specs.Queues.{PageQueues, EachOnce, class_queue, at_back}
use Rattle.sh_queue.proofs.ClassQueues.{has_number-at_back}
use Rattle.sh_pass.specs.Owners.{SeenPage}
use Rattle.sh_shard.specs.Pages.{Paged, page_at, seen_class, BellReads, BellStops}
use Rattle.sh_shard.specs.Turning.{come_back, come_back_each, any_of_class}
use Rattle.sh_shard.specs.Shards.{Sharded}
use Rattle.sh_shard.specs.Searches.{ReadsRing, ReadsRings}
use Rattle.sh_shard.specs.Works.{WorksThroughout, ReadFromBell}
use Rattle.sh_shard.proofs.ClassWords.{word_of}
use Rattle.sh_shard.proofs.Sides.{aside_none}
use Rattle.sh_shard.proofs.Slots.{lists_none, lists_then}
use Rattle.sh_shard.proofs.Works.{through_none, through_reads, through_stops, read_more, read_of}
use Rattle.sh_shard.proofs.BellOrder.{stays_there, comes_there, each_same, any_same, each_append, any_append}
use Rattle.sh_shard.proofs.BellOrder.{alone_none, alone_stops, reads_then, reads_last}
use Rattle.sh_pass.proofs.OwnRuns.{aside_then}

pub through_hears : (c : ℕ) (read : Bool) (o n : Sharded) → ReadsRings c read o n → WorksThroughout o.pages n.pages
through_hears c read o n h = record {
  aside = h.aside;
  put = h.put;
  log = h.log;
  shard = h.shard;
  count = h.count;
  classes = h.classes;
  takes = λ q. omega (arith, h.page_takes q);
  met = λ q. omega (arith, h.page_met q);
  bell_takes = omega (arith, h.takes);
  bell_met = h.met;
}

pub hears_none : (c : ℕ) (o : Sharded) → ReadsRings c false o o
hears_none c o = record {
  opened = refl;
  rung = [];
  rings = record { reads = alone_none o.pages; queues = refl };
  heard = refl;
  gained = λ p h. inl h;
  lists = lists_none o.pages;
  aside = aside_none _;
  put = refl;
  log = refl;
  shard = refl;
  count = refl;
  classes = λ q. refl;
  page_takes = λ q. refl;
  page_met = λ q. refl;
  takes = refl;
  met = omega arith;
  pages = λ r q e. refl;
  queue = λ r q
      e. e;
}

read_class : (p : ℕ) (o n : Paged) → BellReads p o n → (r : ℕ) → (page_at n r).class ≡ (page_at o r).class
read_class p o n b r = read_of p (λ g. g.class) o n b (ap (λ (g : SeenPage). g.class) b.here) r

not_either : (a b : Bool) (word c : ℕ) → b ≡ (a || (word == c + 1)) → b ≡ false → (a ≡ false) × (word ≢ c + 1)
not_either a b word c e f = go a (sym e ∙ f) where
  go : (a : Bool) → (a || (word == c + 1)) ≡ false → (a ≡ false) × (word ≢ c + 1)
  go true h = absurd (false≢true (sym h))
  go false h = (refl, λ k. false≢true (sym h ∙ (let z : (word == c + 1) ≡ true = grind (arith, nat_tests) in z)))

-- one page more
pub hears_more : (c word : ℕ) (read read' : Bool) (o n m : Sharded) → c < 8 → ReadsRings c read o n → EachOnce n.queues
    → ReadsRing word n m → read' ≡ (read || (word == c + 1)) → ReadsRings c read' o m
hears_more c word read read' o n m l h once d either = record {
  opened = heard_opened ∙ h.opened;
  rung = h.rung ++ d.page ∷ [];
  rings = record {
    reads = reads_last h.rung d.page o.pages n.pages m.pages h.rings.reads d.reads;
    queues = d.back ∙ (ap (λ (z : PageQueues). come_back d.page m.pages z) before
        ∙ sym (each_append m.pages h.rung (d.page ∷ []) o.queues));
  };
  heard = either ∙ (ap (λ b. b || (word == c + 1)) (h.heard ∙ sym (any_same n.pages m.pages class c h.rung))
      ∙ (ap (λ b. any_of_class c m.pages h.rung || b) last ∙ sym (any_append c m.pages h.rung (d.page ∷ []))));
  gained = λ q e. ⊎_elim
      (λ (t : m.queues ≡ n.queues). stood q (sym (ap (λ (z : PageQueues). has_number q (class_queue z c)) t) ∙ e))
      (λ (t : (m.queues ≡ at_back (word - 1) d.page n.queues) × (0 < word) × (word ≤ 8)). ⊎_elim
      (λ (f : has_number q (class_queue n.queues c) ≡ true). stood q f)
      (λ (f : (c ≡ word - 1) × (q ≡ d.page)). inr (subst (λ z. ReadFromBell z o.pages m.pages) (sym f.1) now))
      (has_number-at_back (word - 1) d.page n.queues c q
      (let z = once.classes in let t1 = t.1 in let t2 = t.2 in omega arith)
      (sym (ap (λ (z : PageQueues). has_number q (class_queue z c)) t.0) ∙ e)))
      d.queues;
  lists = lists_then o.pages n.pages m.pages h.lists d.reads.lists;
  aside = aside_then h.aside d.reads.aside;
  put = d.reads.put ∙ h.put;
  log = d.reads.log ∙ h.log;
  shard = d.reads.shard ∙ h.shard;
  count = d.reads.count ∙ h.count;
  classes = λ q. read_class d.page n.pages m.pages d.reads q ∙ h.classes q;
  page_takes = λ q. read_of d.page (λ g. g.takes) n.pages m.pages d.reads (ap (λ (g : SeenPage). g.takes) d.reads.here)
      q ∙ h.page_takes q;
  page_met = λ q. read_of d.page (λ g. g.met) n.pages m.pages d.reads (ap (λ (g : SeenPage). g.met) d.reads.here) q
      ∙ h.page_met q;
  takes = d.reads.takes ∙ h.takes;
  met = let a = h.met in let b = d.reads.met in omega arith;
  pages = λ r q e. let k = quiet r in d.reads.others q (λ (is : q ≡ d.page). k.1 (word_is q is e)) ∙ h.pages k.0 q e;
  queue = λ r q e. let k = quiet r in h.queue k.0 q (⊎_elim
      (λ (t : m.queues ≡ n.queues). sym (ap (λ (z : PageQueues). has_number q (class_queue z c)) t) ∙ e)
      (λ (t : (m.queues ≡ at_back (word - 1) d.page n.queues) × (0 < word) × (word ≤ 8)). again q k.1 t.0 t.1 t.2
      (sym (ap (λ (z : PageQueues). has_number q (class_queue z c)) t.0) ∙ e))
      d.queues);
} where
  class : (r : ℕ) → (page_at m.pages r).class ≡ (page_at n.pages r).class
  class r = read_class d.page n.pages m.pages d.reads r

  before : n.queues ≡ come_back_each m.pages h.rung o.queues
  before = h.rings.queues ∙ sym (each_same n.pages m.pages class h.rung o.queues)

  last : (word == c + 1) ≡ any_of_class c m.pages (d.page ∷ [])
  last = ap (λ (k : ℕ). k == c + 1) (sym (word_of (page_at m.pages d.page) word d.class))
      ∙ sym (or-false (seen_class (page_at m.pages d.page) == c + 1))

  quiet : read' ≡ false → (read ≡ false) × (word ≢ c + 1)
  quiet none = not_either read read' word c either none

  heard_opened : m.queues.opened ≡ n.queues.opened
  heard_opened = ⊎_elim
      (λ (t : m.queues ≡ n.queues). ap (λ (z : PageQueues). z.opened) t)
      (λ (t : (m.queues ≡ at_back (word - 1) d.page n.queues) × (0 < word) × (word ≤ 8)). ap
      (λ (z : PageQueues). z.opened) t.0)
      d.queues

  now : ReadFromBell d.page o.pages m.pages
  now = record {
    before = n.pages;
    after = m.pages;
    first = through_hears c read o n h;
    reads = d.reads;
    rest = through_none m.pages;
  }

  stood : (q : ℕ) → has_number q (class_queue n.queues c) ≡ true
      → (has_number q (class_queue o.queues c) ≡ true) ⊎ ReadFromBell q o.pages m.pages
  stood q e = ⊎_elim
      (λ (f : has_number q (class_queue o.queues c) ≡ true). inl f)
      (λ (f : ReadFromBell q o.pages n.pages). inr (read_more q o.pages n.pages m.pages f (through_reads d.page n.pages
      m.pages d.reads)))
      (h.gained q e)

  word_is : (q : ℕ) → q ≡ d.page → (page_at o.pages q).class ≡ Some (c + 1) → word ≡ c + 1
  word_is q is e =
      let f : Some word ≡ Some (c + 1) = sym d.class ∙ (read_class d.page n.pages m.pages d.reads d.page
      ∙ (h.classes d.page ∙ (ap (λ z. (page_at o.pages z).class) (sym is) ∙ e))) in
      let g : word ≡ c + 1 = cc in g

  again : (q : ℕ) → word ≢ c + 1 → m.queues ≡ at_back (word - 1) d.page n.queues → 0 < word → word ≤ 8
      → has_number q (class_queue (at_back (word - 1) d.page n.queues) c) ≡ true → has_number q (class_queue n.queues c)
      ≡ true
  again q ne is some few e = ⊎_elim (λ (t : has_number q (class_queue n.queues c) ≡ true). t)
      (λ (t : (c ≡ word - 1) × (q ≡ d.page)). absurd (ne (let z = t.0 in omega arith)))
      (has_number-at_back (word - 1) d.page n.queues c q (let z = once.classes in omega arith) e)

-- the bell's cursor stopped
pub hears_stops : (c : ℕ) (read : Bool) (o n m : Sharded) → ReadsRings c read o n → m.queues ≡ n.queues
    → BellStops n.pages m.pages → ReadsRings c read o m
hears_stops c read o n m h same s = record {
  opened = ap (λ (z : PageQueues). z.opened) same ∙ h.opened;
  rung = h.rung;
  rings = record {
    reads = reads_then h.rung o.pages n.pages m.pages h.rings.reads (alone_stops n.pages m.pages s);
    queues = same ∙ (h.rings.queues ∙ sym (each_same n.pages m.pages class h.rung o.queues));
  };
  heard = h.heard ∙ sym (any_same n.pages m.pages class c h.rung);
  gained = λ q e. ⊎_elim
      (λ (f : has_number q (class_queue o.queues c) ≡ true). inl f)
      (λ (f : ReadFromBell q o.pages n.pages). inr (read_more q o.pages n.pages m.pages f (through_stops n.pages m.pages
      s)))
      (h.gained q (sym (ap (λ (z : PageQueues). has_number q (class_queue z c)) same) ∙ e));
  lists = lists_then o.pages n.pages m.pages h.lists s.lists;
  aside = aside_then h.aside s.aside;
  put = s.put ∙ h.put;
  log = s.log ∙ h.log;
  shard = s.shard ∙ h.shard;
  count = s.count ∙ h.count;
  classes = λ q. ap (λ (g : SeenPage). g.class) (s.pages q) ∙ h.classes q;
  page_takes = λ q. ap (λ (g : SeenPage). g.takes) (s.pages q) ∙ h.page_takes q;
  page_met = λ q. ap (λ (g : SeenPage). g.met) (s.pages q) ∙ h.page_met q;
  takes = s.takes ∙ h.takes;
  met = let a = h.met in let b = s.met in omega arith;
  pages = λ r q e. s.pages q ∙ h.pages r q e;
  queue = λ r q e. h.queue r q (sym (ap (λ (z : PageQueues). has_number q (class_queue z c)) same) ∙ e);
} where
  class : (r : ℕ) → (page_at m.pages r).class ≡ (page_at n.pages r).class
  class r = ap (λ (g : SeenPage). g.class) (s.pages r)

-- ---- one page that is read

pub heard_still : (p word : ℕ) (o n : Paged) (q : PageQueues) → BellReads p o n → (page_at n p).class ≡ Some word
    → has_number p q.full ≡ false
    → ReadsRing word (record { pages = o; queues = q }) (record { pages = n; queues = q })
heard_still p word o n q reads class absent = record {
  page = p;
  reads = reads;
  class = class;
  queues = inl refl;
  back = stays_there p n q absent;
}

pub heard_back : (p word : ℕ) (o n : Paged) (q r : PageQueues) → BellReads p o n → (page_at n p).class ≡ Some word
    → has_number p q.full ≡ true → (0 < word) × (word ≤ 8) → r ≡ at_back (word - 1) p q
    → ReadsRing word (record { pages = o; queues = q }) (record { pages = n; queues = r })
heard_back p word o n q r reads class here few moved = record {
  page = p;
  reads = reads;
  class = class;
  queues = inr (moved, few.0, few.1);
  back = comes_there p word n q r here class moved;
}
