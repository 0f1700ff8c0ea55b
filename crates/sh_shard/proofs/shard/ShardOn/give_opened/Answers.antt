use Rattle.std.proofs.Common.{◌≡◌, ◌≢◌, refl, ap, ◌∙◌, sym, subst}
use Rattle.sh_shard.specs.Shards.{Sharded, SortedPages}
use Rattle.sh_shard.proofs.BlankPages.{none_blank}
use Rattle.sh_shard.proofs.Preparing.{opened_has_blank, prepared_from}
use Rattle.sh_shard.proofs.shard.ShardOn.give_opened.Goals as goal

pub returns-then-unopened-eq0 : goal.returns-then-unopened-eq0
returns-then-unopened-eq0 g c =
    let n : Sharded = c.args.self.now in
    let sorted : SortedPages n.pages n.queues = subst (λ (z : Sharded). SortedPages z.pages z.queues) c.self.view_is
    c.self.invariant in
    let none : n.queues.unopened ≡ 0 = ap (λ (z : Sharded). z.queues.unopened) (sym c.self.view_is)
    ∙ (sym c.unopened.ensures ∙ c.if-unopened-eq0.true) in
    (refl, record { blank = none_blank n sorted none c.requires.blank; spare = c.requires.spare; unopened = none })

pub unreachable-requires : goal.unreachable-requires
unreachable-requires g c =
    let sorted : SortedPages c.args.self.now.pages c.args.self.now.queues = subst
    (λ (z : Sharded). SortedPages z.pages z.queues) c.self.view_is c.self.invariant in
    let some : c.args.self.now.queues.unopened ≢ 0 = λ none. c.if-unopened-eq0.false (c.unopened.ensures
    ∙ (ap (λ (z : Sharded). z.queues.unopened) c.self.view_is ∙ none)) in
    opened_has_blank c.args.self.now c.open_segment.new.self sorted some c.open_segment.ensures.pages
    c.in_ok-open_segment.ensures.opened c.in-None.ensures.given.1

pub returns : goal.returns
returns g c =
    let sorted : SortedPages c.args.self.now.pages c.args.self.now.queues = subst
    (λ (z : Sharded). SortedPages z.pages z.queues) c.self.view_is c.self.invariant in
    let some : c.args.self.now.queues.unopened ≢ 0 = λ none. c.if-unopened-eq0.false (c.unopened.ensures
    ∙ (ap (λ (z : Sharded). z.queues.unopened) c.self.view_is ∙ none)) in
    prepared_from c.args.self.now c.open_segment.new.self sorted some c.open_segment.ensures.pages
    c.in_ok-open_segment.ensures.opened c.args.class c.in-Some.page c.requires.blank c.requires.spare
    c.give_blank.new.self c.in-Some.ensures.given
