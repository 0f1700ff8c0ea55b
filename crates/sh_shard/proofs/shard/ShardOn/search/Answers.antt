use Rattle.std.proofs.Common.{◌≡◌, ◌<◌, Some, None, length, slice_get, ap, ◌∙◌, sym, subst}
use Rattle.std.specs.List.{last_or}
use Rattle.sh_queue.specs.Numbers.{has_number}
use Rattle.sh_queue.specs.Queues.{PageQueues, EachOnce, class_queue}
use Rattle.sh_shard.specs.Shards.{Sharded, SortedPages}
use Rattle.sh_shard.proofs.Searching.{begins, searching_more, ended, no_pages, out_of_pages, front_has}
use Rattle.sh_shard.proofs.Storing.{found, found_in}
use Rattle.sh_shard.proofs.Searching.{settled_opened}
use Rattle.sh_shard.proofs.shard.ShardOn.search.Goals as goal

pub returns-in_default-clause-searched : goal.returns-in_default-clause-searched
returns-in_default-clause-searched g c = no_pages c.args.c c.args.self.now
    (ap (λ (z : Sharded). last_or None (class_queue z.queues c.args.c)) (sym c.self.view_is)
    ∙ (sym c.last.ensures.last ∙ c.in_default.is))

pub loop-turn-init : goal.loop-turn-init
loop-turn-init g c = record {
  searching = begins c.args.c c.in-Some.last c.args.self.now
      (subst (λ (z : Sharded). EachOnce z.queues) c.self.view_is c.opened-opened.ensures.once)
      (ap (λ (z : Sharded). last_or None (class_queue z.queues c.args.c)) (sym c.self.view_is)
      ∙ (sym c.last.ensures.last ∙ c.in-Some.is));
  opened = ap (λ (z : Sharded). z.queues.opened) (sym c.self.view_is) ∙ sym c.opened-opened.ensures.opened;
}

pub returns-in_default-front : goal.returns-in_default-front
returns-in_default-front g c = out_of_pages c.args.c c.loop-turn._turn c.in-Some.last c.args.self.now c.loop-turn.self
    c.loop-turn.invariant.searching (ap (λ (z : Sharded). slice_get (class_queue z.queues c.args.c) 0)
    (sym c.self-in-loop-turn.view_is) ∙ (sym c.front.ensures.front ∙ c.in_default-front.is))

pub try_page-requires-clause-here : goal.try_page-requires-clause-here
try_page-requires-clause-here g c =
    let front : slice_get (class_queue c.loop-turn.self.queues c.args.c) 0
    ≡ Some c.in-Some-front.page = ap (λ (z : Sharded). slice_get (class_queue z.queues c.args.c) 0)
    (sym c.self-in-loop-turn.view_is) ∙ (sym c.front.ensures.front ∙ c.in-Some-front.is) in
    front_has c.args.c c.in-Some-front.page c.loop-turn.self.queues front

pub set_aside-requires-clause-here : goal.set_aside-requires-clause-here
set_aside-requires-clause-here g c =
    let front : slice_get (class_queue c.loop-turn.self.queues c.args.c) 0
    ≡ Some c.in-Some-front.page = ap (λ (z : Sharded). slice_get (class_queue z.queues c.args.c) 0)
    (sym c.self-in-loop-turn.view_is) ∙ (sym c.front.ensures.front ∙ c.in-Some-front.is) in
    ap (λ (q : PageQueues). has_number c.in-Some-front.page (class_queue q c.args.c)) c.try_page.ensures.queues
    ∙ front_has c.args.c c.in-Some-front.page c.loop-turn.self.queues front

pub returns-in-Some-try_page-clause-searched : goal.returns-in-Some-try_page-clause-searched
returns-in-Some-try_page-clause-searched g c =
    let front : slice_get (class_queue c.loop-turn.self.queues c.args.c) 0
    ≡ Some c.in-Some-front.page = ap (λ (z : Sharded). slice_get (class_queue z.queues c.args.c) 0)
    (sym c.self-in-loop-turn.view_is) ∙ (sym c.front.ensures.front ∙ c.in-Some-front.is) in
    let sorted : SortedPages c.loop-turn.self.pages c.loop-turn.self.queues = subst
    (λ (z : Sharded). SortedPages z.pages z.queues) c.self-in-loop-turn.view_is c.self-in-loop-turn.invariant in
    let inside : c.in-Some-front.page < c.loop-turn.self.queues.opened = subst
    (λ (z : Sharded). c.in-Some-front.page < z.queues.opened) c.self-in-loop-turn.view_is
    c.in-Some-front.ensures.opened in
    found g.L.KeyLayout.layout c.args.c c.in-Some-front.page c.in-Some-try_page.key c.loop-turn._turn c.in-Some.last
    c.args.value.now c.args.self.now c.loop-turn.self c.try_page.new.self c.loop-turn.invariant.searching sorted
    front inside c.in-Some-try_page.ensures.key c.in-Some-try_page.ensures.tried c.in-Some-try_page.ensures.first
    c.try_page.ensures.queues

pub returns-in-Some-try_page-clause-steps : goal.returns-in-Some-try_page-clause-steps
returns-in-Some-try_page-clause-steps g c =
    let front : slice_get (class_queue c.loop-turn.self.queues c.args.c) 0
    ≡ Some c.in-Some-front.page = ap (λ (z : Sharded). slice_get (class_queue z.queues c.args.c) 0)
    (sym c.self-in-loop-turn.view_is) ∙ (sym c.front.ensures.front ∙ c.in-Some-front.is) in
    let sorted : SortedPages c.loop-turn.self.pages c.loop-turn.self.queues = subst
    (λ (z : Sharded). SortedPages z.pages z.queues) c.self-in-loop-turn.view_is c.self-in-loop-turn.invariant in
    found_in c.args.c c.in-Some-front.page c.loop-turn._turn c.in-Some.last (length c.args.value.now) c.args.self.now
    c.loop-turn.self c.try_page.new.self c.loop-turn.invariant.searching sorted front c.in-Some-try_page.ensures.steps

pub returns-then-page-last-clause-searched : goal.returns-then-page-last-clause-searched
returns-then-page-last-clause-searched g c =
    let front : slice_get (class_queue c.loop-turn.self.queues c.args.c) 0
    ≡ Some c.in-Some-front.page = ap (λ (z : Sharded). slice_get (class_queue z.queues c.args.c) 0)
    (sym c.self-in-loop-turn.view_is) ∙ (sym c.front.ensures.front ∙ c.in-Some-front.is) in
    let once : EachOnce c.loop-turn.self.queues = subst (λ (z : Sharded). EachOnce z.queues) c.self-in-loop-turn.view_is
    c.self-in-loop-turn.invariant.once in
    let sorted : SortedPages c.loop-turn.self.pages c.loop-turn.self.queues = subst
    (λ (z : Sharded). SortedPages z.pages z.queues) c.self-in-loop-turn.view_is c.self-in-loop-turn.invariant in
    let tried = c.in_default-try_page.ensures.tried in
    ended c.args.c c.in-Some-front.page c.loop-turn._turn c.in-Some.last c.args.self.now c.loop-turn.self
    c.try_page.new.self c.set_aside.new.self c.loop-turn.invariant.searching front once c.requires.class
    c.try_page.ensures.queues tried.0 tried.1 c.set_aside.ensures c.in_default-try_page.ensures.steps sorted
    c.in_default-try_page.ensures.first c.if-page-last.true

pub loop-turn-preserved : goal.loop-turn-preserved
loop-turn-preserved g c =
    let front : slice_get (class_queue c.loop-turn.self.queues c.args.c) 0
    ≡ Some c.in-Some-front.page = ap (λ (z : Sharded). slice_get (class_queue z.queues c.args.c) 0)
    (sym c.self-in-loop-turn.view_is) ∙ (sym c.front.ensures.front ∙ c.in-Some-front.is) in
    let once : EachOnce c.loop-turn.self.queues = subst (λ (z : Sharded). EachOnce z.queues) c.self-in-loop-turn.view_is
    c.self-in-loop-turn.invariant.once in
    let tried = c.in_default-try_page.ensures.tried in
    let opened : c.set_aside.new.self.queues.opened ≡ c.loop-turn.self.queues.opened = settled_opened c.args.c
    c.in-Some-front.page c.try_page.new.self c.set_aside.new.self c.set_aside.ensures
    ∙ ap (λ (q : PageQueues). q.opened) c.try_page.ensures.queues in
    let sorted : SortedPages c.loop-turn.self.pages c.loop-turn.self.queues = subst
    (λ (z : Sharded). SortedPages z.pages z.queues) c.self-in-loop-turn.view_is c.self-in-loop-turn.invariant in
    record {
      searching = searching_more c.args.c c.in-Some-front.page c.loop-turn._turn c.in-Some.last c.args.self.now
          c.loop-turn.self c.try_page.new.self c.set_aside.new.self c.loop-turn.invariant.searching front once
          c.requires.class c.try_page.ensures.queues tried.0 tried.1 c.set_aside.ensures opened
          c.in_default-try_page.ensures.steps sorted c.in_default-try_page.ensures.first c.if-page-last.false;
      opened = opened ∙ c.loop-turn.invariant.opened;
    }
