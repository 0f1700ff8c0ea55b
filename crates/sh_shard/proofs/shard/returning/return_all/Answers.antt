use Rattle.std.proofs.Common.{ℕ, ◌≢◌, ◌+◌, ◌<◌, ◌≤◌, ⊎_elim, refl, ◌∙◌, sym, arith}
use Rattle.std.proofs.lemmas.Bool.{cases_lt}
use Rattle.sh_queue.proofs.PagePlaces.{full_opened}
use Rattle.sh_shard.proofs.FullPages.{but_none, but_fewer, but_returned, full_classed, returns_opened}
use Rattle.sh_shard.proofs.Filing.{returned_none, returned_more, returns_rising, returns_below_more}
use Rattle.sh_shard.proofs.shard.returning.return_all.Goals as goal

pub loop-page-init : goal.loop-page-init
loop-page-init g c = record {
  sorted = but_fewer c.args.pages.now c.args.queues.now _ _ c.requires (λ p _. omega arith);
  opened = sym c.opened-opened.ensures.opened;
  rising = returned_none c.args.queues.now;
  each = refl;
}

pub return_page-requires-clause-inside : goal.return_page-requires-clause-inside
return_page-requires-clause-inside g c = let a = c.loop-page.invariant.sorted.all
    in let b = c.loop-page.invariant.opened in let l = c.loop-page-test.true in omega arith

pub return_page-requires-clause-classed : goal.return_page-requires-clause-classed
return_page-requires-clause-classed g c = λ here. (c.loop-page.invariant.sorted.word c.loop-page.page here).0

pub return_page-requires-clause-few : goal.return_page-requires-clause-few
return_page-requires-clause-few g c = λ here. (c.loop-page.invariant.sorted.word c.loop-page.page here).1

later : (k r : ℕ) → ((k + 1 ≤ r) → ⊥) → r ≢ k → (k ≤ r) → ⊥
later k r none other from = ⊎_elim (λ (h : k < r). none (omega arith)) (λ (h : r ≤ k). other (omega arith))
    (cases_lt k r)

pub loop-page-preserved : goal.loop-page-preserved
loop-page-preserved g c =
    let i = c.loop-page.invariant in record {
      sorted = but_returned c.args.pages.now c.loop-page.queues c.return_page.new.queues c.loop-page.page
          (λ p. c.loop-page.page ≤ p) (λ p. c.loop-page.page + 1 ≤ p) i.sorted
          (λ r none other. later c.loop-page.page r none other)
          (full_classed c.args.pages.now c.loop-page.queues c.loop-page.page _ i.sorted) c.return_page.ensures;
      opened = returns_opened c.loop-page.page c.args.pages.now c.loop-page.queues c.return_page.new.queues
          c.return_page.ensures ∙ i.opened;
      rising = returned_more c.loop-page.page c.args.pages.now c.args.queues.now c.loop-page.queues
          c.return_page.new.queues i.rising i.sorted.once
          (λ here. i.sorted.word c.loop-page.page here) c.return_page.ensures;
      each = returns_below_more c.loop-page.page c.args.pages.now c.args.queues.now c.loop-page.queues
          c.return_page.new.queues i.each c.return_page.ensures;
    }

pub returns-clause-rising : goal.returns-clause-rising
returns-clause-rising g c = returns_rising c.loop-page.page c.args.queues.now c.loop-page.queues
    c.loop-page.invariant.rising

pub returns-clause-each : goal.returns-clause-each
returns-clause-each g c = record {
  below = c.loop-page.page;
  all = let o = c.opened-opened.ensures.opened in let l = c.loop-page-test.false in omega arith;
  each = c.loop-page.invariant.each;
}

pub returns-clause-sorted : goal.returns-clause-sorted
returns-clause-sorted g c = but_none c.args.pages.now c.loop-page.queues (λ p. c.loop-page.page ≤ p)
    c.loop-page.invariant.sorted
    (λ p here from. let inside = full_opened p c.loop-page.queues c.loop-page.invariant.sorted.once here
    in let o = c.loop-page.invariant.opened in let l = c.loop-page-test.false in omega arith)
