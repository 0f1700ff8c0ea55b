use Rattle.std.proofs.Common.{◌<◌, inl, inr, ◌∙◌, sym, subst}
use Rattle.sh_shard.specs.Pages.{page_at}
use Rattle.sh_shard.specs.Shards.{Sharded, IsSpare, IsLowest, NoneOpenedBlank, PreparesPage}
use Rattle.sh_shard.proofs.Sorting.{sorted_given}
use Rattle.sh_shard.proofs.Preparing.{prepared}
use Rattle.sh_shard.proofs.shard.ShardOn.give_spare.Goals as goal

pub give_class-requires-clause-may : goal.give_class-requires-clause-may
give_class-requires-clause-may g c =
    let e = c.self.view_is ∙ c.in-Some.ensures.same in
    let spare : IsSpare c.args.class (page_at c.self.inside.pages c.in-Some.page) = subst
    (λ (z : Sharded). IsSpare c.args.class (page_at z.pages c.in-Some.page)) (sym e)
    c.in-Some.ensures.lowest.1.here in
    inr spare.whole

pub invariant_of-self : goal.invariant_of-self
invariant_of-self g c =
    let e = c.self.view_is ∙ c.in-Some.ensures.same in
    let inside : c.in-Some.page < c.self.inside.queues.opened = subst
    (λ (z : Sharded). c.in-Some.page < z.queues.opened) (sym e) c.in-Some.ensures.lowest.0 in
    sorted_given c.self.inside.pages c.self.inside.queues c.self.invariant
    c.give_class.new.self c.to_front.new.self c.args.class c.in-Some.page c.requires.class inside c.give_class.ensures
    c.to_front.ensures

pub returns : goal.returns
returns g c =
    let e = c.self.view_is ∙ c.in-Some.ensures.same in
    let inside : c.in-Some.page < c.self.inside.queues.opened = subst
    (λ (z : Sharded). c.in-Some.page < z.queues.opened) (sym e) c.in-Some.ensures.lowest.0 in
    let none : NoneOpenedBlank (record { pages = c.self.inside.pages; queues = c.self.inside.queues }) = subst
    NoneOpenedBlank (sym e) c.requires.blank in
    let lowest : IsLowest (IsSpare c.args.class) c.in-Some.page c.self.inside.pages = subst
    (λ (z : Sharded). IsLowest (IsSpare c.args.class) c.in-Some.page z.pages) (sym e)
    c.in-Some.ensures.lowest.1 in
    let P : Sharded → Type 0 = λ z. PreparesPage c.args.class c.in-Some.page z
    (record { pages = c.give_class.new.self; queues = c.to_front.new.self }) in
    subst P e (prepared c.self.inside.pages c.give_class.new.self c.self.inside.queues c.to_front.new.self
    c.args.class c.in-Some.page c.self.invariant c.self.invariant.once c.requires.class inside
    (inr (inl (none, lowest))) lowest.here.other c.give_class.ensures c.to_front.ensures)
