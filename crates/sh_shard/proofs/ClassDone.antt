-- Each page of a class is done, once its queue is searched.
use Rattle.std.proofs.Common.{◌≡◌, ℕ, ◌+◌, ◌<◌, ◌≤◌, ◌⊎◌, ⊎_elim, true, Option, Some, MatchOption, ◌∙◌, sym, subst}
use Rattle.std.proofs.Common.{arith}
use Rattle.std.proofs.lemmas.Bool.{cases_lt}
use Rattle.sh_queue.specs.Numbers.{has_number}
use Rattle.sh_queue.specs.Queues.{EachOnce, class_queue}
use Rattle.sh_queue.proofs.PagePlaces.{opened_somewhere}
use Rattle.sh_shard.specs.Pages.{Paged, page_at, PageDone}
use Rattle.sh_shard.specs.Shards.{Sharded, SortedPages, FullPage, NoneLeft}
use Rattle.sh_shard.specs.Works.{WorksThroughout, ClassDone}
use Rattle.sh_shard.specs.Searches.{Tried}

full_done : (o n : Paged) (p : ℕ) → FullPage (page_at n p) → PageDone o n p
full_done o n p f = record {
  mine = f.mine;
  waits = subst (λ (c : Option ℕ). MatchOption c ((page_at n p).armed ≡ true)
      (λ _. (page_at o p).met < (page_at n p).met)) (sym f.cursor) f.armed;
}

pub class_done : (c : ℕ) (o n : Sharded) → WorksThroughout o.pages n.pages
    → ((p : ℕ) → has_number p (class_queue n.queues c) ≡ true → PageDone o.pages n.pages p)
    → SortedPages n.pages n.queues → EachOnce n.queues → ClassDone c o.pages n.pages
class_done c o n through done k once = record {
  through = through;
  done = λ p l is.
      ⊎_elim (λ (h : p < n.queues.opened). inside p h is) (λ (h : n.queues.opened ≤ p). blank p (k.later p h l) is)
      (cases_lt p n.queues.opened);
} where
  blank : (p : ℕ) → (page_at n.pages p).class ≡ Some 0 → (page_at n.pages p).class ≡ Some (c + 1)
      → PageDone o.pages n.pages p
  blank p t is = let e : Some 0 ≡ Some (c + 1) = sym t ∙ is in let f : 0 ≡ c + 1 = cc in absurd (omega arith)

  inside : (p : ℕ) → p < n.queues.opened → (page_at n.pages p).class ≡ Some (c + 1) → PageDone o.pages n.pages p
  inside p l is = ⊎_elim
      (λ (r : (d : ℕ) × (d < 8) × (has_number p (class_queue n.queues d) ≡ true)).
      let e : Some (r.0 + 1) ≡ Some (c + 1) = sym (k.classes r.0 p r.2) ∙ is in
      let f : r.0 + 1 ≡ c + 1 = cc in
      let g : r.0 ≡ c = omega arith in
      done p (subst (λ z. has_number p (class_queue n.queues z) ≡ true) g r.2))
      (λ (h : (has_number p n.queues.full ≡ true) ⊎ (has_number p n.queues.blank ≡ true)). ⊎_elim
      (λ (t : has_number p n.queues.full ≡ true). full_done o.pages n.pages p (k.full p t))
      (λ (t : has_number p n.queues.blank ≡ true). blank p (k.blank p t) is)
      h)
      (opened_somewhere p n.queues once l)

pub none_left : (c : ℕ) (o n : Sharded) → Tried c o n → SortedPages n.pages n.queues → EachOnce n.queues
    → NoneLeft c o.pages n.pages
none_left c o n s k once = record {
  through = s.through;
  kept = s.kept;
  bell = s.bell;
  done = (class_done c o n s.through s.done k once).done;
}
