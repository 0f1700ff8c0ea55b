use Rattle.std.proofs.Common.{refl, inl, ◌∙◌, sym, subst}
use Rattle.sh_shard.specs.Pages.{page_at}
use Rattle.sh_shard.specs.Shards.{Sharded, IsBlank, IsLowest, NoneOpenedBlank, PreparesPage}
use Rattle.sh_shard.proofs.Sorting.{sorted_given}
use Rattle.sh_shard.proofs.BlankPages.{front_blank, lowest_blank, none_opened_blank}
use Rattle.sh_shard.proofs.Preparing.{prepared, blank_other}
use Rattle.sh_shard.proofs.shard.ShardOn.give_blank.Goals as goal

pub give_class-requires-clause-may : goal.give_class-requires-clause-may
give_class-requires-clause-may g c = inl (c.self.invariant.blank c.in-Some.page
    (front_blank c.in-Some.page c.self.inside.queues (sym c.blank.ensures.front ∙ c.in-Some.is)))

pub invariant_of-self : goal.invariant_of-self
invariant_of-self g c = sorted_given c.self.inside.pages c.self.inside.queues c.self.invariant
    c.give_class.new.self c.to_front.new.self c.args.class c.in-Some.page c.requires
    c.in-Some.ensures.opened c.give_class.ensures c.to_front.ensures

pub returns-clause-given : goal.returns-clause-given
returns-clause-given g c =
    let P : Sharded → Type 0 = λ z. PreparesPage c.args.class c.in-Some.page z
    (record { pages = c.give_class.new.self; queues = c.to_front.new.self }) in
    let was : IsBlank (page_at c.self.inside.pages c.in-Some.page) = c.self.invariant.blank c.in-Some.page
    (front_blank c.in-Some.page c.self.inside.queues (sym c.blank.ensures.front ∙ c.in-Some.is)) in
    let lowest : IsLowest IsBlank c.in-Some.page c.self.inside.pages = lowest_blank
    (record { pages = c.self.inside.pages; queues = c.self.inside.queues }) c.self.invariant
    c.self.invariant.once c.in-Some.page c.in-Some.ensures.opened was c.in-Some.ensures.lowest in
    subst P c.self.view_is (prepared c.self.inside.pages c.give_class.new.self c.self.inside.queues c.to_front.new.self
    c.args.class c.in-Some.page c.self.invariant c.self.invariant.once c.requires c.in-Some.ensures.opened
    (inl (c.in-Some.ensures.opened, lowest)) (blank_other c.args.class (page_at c.self.inside.pages c.in-Some.page) was)
    c.give_class.ensures c.to_front.ensures)

pub returns-in_default-clause-given : goal.returns-in_default-clause-given
returns-in_default-clause-given g c =
    let none : NoneOpenedBlank (record { pages = c.self.inside.pages; queues = c.self.inside.queues }) =
    none_opened_blank (record { pages = c.self.inside.pages; queues = c.self.inside.queues }) c.self.invariant
    c.self.invariant.once (sym c.blank.ensures.front ∙ c.in_default.is) in
    (refl, subst NoneOpenedBlank c.self.view_is none)
