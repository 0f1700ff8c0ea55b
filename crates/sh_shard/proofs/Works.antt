-- Work on many pages and on the bell, over one piece of work after another.
use Rattle.std.proofs.Common.{◌≡◌, ◌≢◌, ℕ, ◌≤◌, ⊎_elim, refl, ap, ◌∙◌, sym, subst, arith}
use Rattle.std.proofs.lemmas.Bool.{cases_eq}
use Rattle.sh_pass.specs.Owners.{SeenPage, SeenBell}
use Rattle.sh_shard.specs.Pages.{Paged, page_at, WorksOn, BellTakes, BellStops, BellReads}
use Rattle.sh_shard.specs.Works.{WorksThroughout, ReadFromBell}
use Rattle.sh_shard.proofs.Sides.{aside_none}
use Rattle.sh_pass.proofs.OwnRuns.{aside_then}

pub through_none : (o : Paged) → WorksThroughout o o
through_none o = record {
  aside = aside_none o.owner;
  put = refl;
  log = refl;
  shard = refl;
  count = refl;
  classes = λ q. refl;
  takes = λ q. omega arith;
  met = λ q. omega arith;
  bell_takes = omega arith;
  bell_met = omega
      arith;
}

pub through_more : (o n m : Paged) → WorksThroughout o n → WorksThroughout n m → WorksThroughout o m
through_more o n m a b = record {
  aside = aside_then a.aside b.aside;
  put = b.put ∙ a.put;
  log = b.log ∙ a.log;
  shard = b.shard ∙ a.shard;
  count = b.count ∙ a.count;
  classes = λ q. b.classes q ∙ a.classes q;
  takes = λ q. omega (arith, a.takes q, b.takes q);
  met = λ q. omega (arith, a.met q, b.met q);
  bell_takes = omega (arith, a.bell_takes, b.bell_takes);
  bell_met = omega (arith, a.bell_met, b.bell_met);
}

as_much : (a b : ℕ) → a ≡ b → b ≤ a
as_much a b e = omega arith

pub through_takes : (o n : Paged) → BellTakes o n → WorksThroughout o n
through_takes o n b = record {
  aside = b.aside;
  put = b.put;
  log = b.log;
  shard = b.shard;
  count = b.count;
  classes = λ q. ap (λ (g : SeenPage). g.class) (b.pages q);
  takes = λ q. as_much (page_at n q).takes (page_at o q).takes (ap (λ (g : SeenPage). g.takes) (b.pages q));
  met = λ q. as_much (page_at n q).met (page_at o q).met (ap (λ (g : SeenPage). g.met) (b.pages q));
  bell_takes = let e = b.takes in omega arith;
  bell_met = let e = b.met in omega arith;
}

pub through_stops : (o n : Paged) → BellStops o n → WorksThroughout o n
through_stops o n b = record {
  aside = b.aside;
  put = b.put;
  log = b.log;
  shard = b.shard;
  count = b.count;
  classes = λ q. ap (λ (g : SeenPage). g.class) (b.pages q);
  takes = λ q. as_much (page_at n q).takes (page_at o q).takes (ap (λ (g : SeenPage). g.takes) (b.pages q));
  met = λ q. as_much (page_at n q).met (page_at o q).met (ap (λ (g : SeenPage). g.met) (b.pages q));
  bell_takes = let e = b.takes in omega arith;
  bell_met = b.met;
}

-- what is the same at the page that was read is the same at each
pub read_of : (p : ℕ) {B : Type 0} (f : SeenPage → B) (o n : Paged) → BellReads p o n
    → f (page_at n p) ≡ f (page_at o p) → (q : ℕ) → f (page_at n q) ≡ f (page_at o q)
read_of p f o n b e q = ⊎_elim (λ (is : q ≡ p). subst (λ z. f (page_at n z) ≡ f (page_at o z)) (sym is) e)
    (λ (ne : q ≢ p). ap f (b.others q ne)) (cases_eq q p)

pub through_reads : (p : ℕ) (o n : Paged) → BellReads p o n → WorksThroughout o n
through_reads p o n b = record {
  aside = b.aside;
  put = b.put;
  log = b.log;
  shard = b.shard;
  count = b.count;
  classes = read_of p (λ g. g.class) o n b (ap (λ (g : SeenPage). g.class) b.here);
  takes = λ q. as_much (page_at n q).takes (page_at o q).takes
      (read_of p (λ g. g.takes) o n b (ap (λ (g : SeenPage). g.takes) b.here) q);
  met = λ q. as_much (page_at n q).met (page_at o q).met (read_of p (λ g. g.met) o n b
      (ap (λ (g : SeenPage). g.met) b.here) q);
  bell_takes = let e = b.takes in omega arith;
  bell_met = let e = b.met in omega arith;
}

works_of : (p : ℕ) {B : Type 0} (R : B → B → Type 0) (f : SeenPage → B) (o n : Paged) → WorksOn p o n
    → ((b : B) → R b b) → R (f (page_at o p)) (f (page_at n p)) → (q : ℕ) → R (f (page_at o q)) (f (page_at n q))
works_of p R f o n w same e q = ⊎_elim (λ (is : q ≡ p). subst (λ z. R (f (page_at o z)) (f (page_at n z))) (sym is) e)
    (λ (ne : q ≢ p). subst (λ z. R (f (page_at o q)) z) (ap f (sym (w.others q ne))) (same (f (page_at o q))))
    (cases_eq q p)

pub through_works : (p : ℕ) (o n : Paged) → WorksOn p o n → WorksThroughout o n
through_works p o n w = record {
  aside = w.aside;
  put = w.put;
  log = w.log;
  shard = w.shard;
  count = w.count;
  classes = works_of p (λ a b. b ≡ a) (λ g. g.class) o n w (λ b. refl) w.class;
  takes = works_of p (λ a b. a ≤ b) (λ g. g.takes) o n w (λ b. omega arith) w.takes;
  met = works_of p (λ a b. a ≤ b) (λ g. g.met) o n w (λ b. omega arith) w.met;
  bell_takes = as_much n.bell.takes o.bell.takes (ap (λ (b : SeenBell). b.takes) w.bell);
  bell_met = as_much n.bell.met o.bell.met (ap (λ (b : SeenBell). b.met) w.bell);
}

-- ---- a page that was read from the bell, in more work

pub read_more : (p : ℕ) (o n m : Paged) → ReadFromBell p o n → WorksThroughout n m → ReadFromBell p o m
read_more p o n m r t = record {
  before = r.before;
  after = r.after;
  first = r.first;
  reads = r.reads;
  rest = through_more r.after n m r.rest t;
}

pub read_later : (p : ℕ) (o n m : Paged) → WorksThroughout o n → ReadFromBell p n m → ReadFromBell p o m
read_later p o n m t r = record {
  before = r.before;
  after = r.after;
  first = through_more o n r.before t r.first;
  reads = r.reads;
  rest = r.rest;
}
