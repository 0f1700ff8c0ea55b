use Rattle.std.proofs.Common.{◌≡◌, ◌<◌, MatchOption, true, refl, sym, subst}
use Rattle.sh_queue.specs.Numbers.{has_number}
use Rattle.sh_queue.specs.Queues.{class_queue}
use Rattle.sh_shard.specs.Pages.{page_at, NothingMine}
use Rattle.sh_shard.specs.Shards.{Sharded}
use Rattle.sh_shard.specs.Searches.{SetsAside}
use Rattle.sh_shard.proofs.Sorting.{sorted_back, sorted_full, full_page}
use Rattle.sh_shard.proofs.Turning.{aside_waits, aside_full}
use Rattle.sh_shard.proofs.shard.ShardOn.set_aside.Goals as goal

pub invariant_of-self : goal.invariant_of-self
invariant_of-self g c =
    let here : has_number c.args.page (class_queue c.self.inside.queues c.args.c)
    ≡ true = subst (λ (z : Sharded). has_number c.args.page (class_queue z.queues c.args.c) ≡ true)
    (sym c.self.view_is) c.requires.here in
    let inside : c.args.page < c.self.inside.queues.opened = subst (λ (z : Sharded). c.args.page < z.queues.opened)
    (sym c.self.view_is) c.requires.inside in
    sorted_back c.self.inside.pages c.self.inside.queues c.self.invariant c.to_back.new.self c.args.c c.args.page
    c.requires.class inside (c.self.invariant.classes c.args.c c.args.page here) c.to_back.ensures

pub invariant_of-self-else-has_cursor : goal.invariant_of-self-else-has_cursor
invariant_of-self-else-has_cursor g c =
    let here : has_number c.args.page (class_queue c.self.inside.queues c.args.c)
    ≡ true = subst (λ (z : Sharded). has_number c.args.page (class_queue z.queues c.args.c) ≡ true)
    (sym c.self.view_is) c.requires.here in
    let nothing : NothingMine (page_at c.self.inside.pages c.args.page) = subst
    (λ (z : Sharded). NothingMine (page_at z.pages c.args.page)) (sym c.self.view_is) c.requires.nothing in
    let waits : MatchOption (page_at c.self.inside.pages c.args.page).cursor
    ((page_at c.self.inside.pages c.args.page).armed ≡ true) (λ _. Unit {0}) = subst
    (λ (z : Sharded). MatchOption (page_at z.pages c.args.page).cursor ((page_at z.pages c.args.page).armed ≡ true)
    (λ _. Unit {0})) (sym c.self.view_is) c.requires.waits in
    let inside : c.args.page < c.self.inside.queues.opened = subst (λ (z : Sharded). c.args.page < z.queues.opened)
    (sym c.self.view_is) c.requires.inside in
    sorted_full c.self.inside.pages c.self.inside.queues c.self.invariant c.to_full.new.self c.args.page inside
    (full_page c.self.inside.pages c.self.inside.queues c.self.invariant c.args.c c.args.page c.requires.class here
    nothing c.if-has_cursor.ensures waits) c.to_full.ensures

pub returns-then-has_cursor : goal.returns-then-has_cursor
returns-then-has_cursor g c = subst (λ (o : Sharded). SetsAside c.args.c c.args.page o (record {
  pages = c.self.inside.pages;
  queues = c.to_back.new.self;
})) c.self.view_is (record {
  pages = refl;
  queues = aside_waits c.args.c c.args.page c.self.inside.pages c.self.inside.queues c.to_back.new.self
      c.if-has_cursor.ensures c.to_back.ensures;
})

pub returns-else-has_cursor : goal.returns-else-has_cursor
returns-else-has_cursor g c = subst (λ (o : Sharded). SetsAside c.args.c c.args.page o (record {
  pages = c.self.inside.pages;
  queues = c.to_full.new.self;
})) c.self.view_is (record {
  pages = refl;
  queues = aside_full c.args.c c.args.page c.self.inside.pages c.self.inside.queues c.to_full.new.self
      c.if-has_cursor.ensures c.to_full.ensures;
})
