use Rattle.std.proofs.Common.{refl, sym, subst}
use Rattle.sh_states.specs.declared.states.PageState.{PageState}
use Rattle.sh_states.specs.States.{state_at}
use Rattle.sh_shard.specs.Kept.{KeepsPages}
use Rattle.sh_shard.specs.Pages.{Paged, BellReads, BellStops}
use Rattle.sh_shard.proofs.PageLaws.{kept_rung}
use Rattle.sh_shard.proofs.Keeping.{at_bell, may_touch, keeps_bell}
use Rattle.sh_shard.proofs.PageSteps.{paged_of}
use Rattle.sh_shard.proofs.BellSteps.{bell_read, bell_stopped}
use Rattle.sh_shard.proofs.pages.PagesOn.follow_bell.Goals as goal

pub follow_bell-found-requires-clause-touch : goal.follow_bell-found-requires-clause-touch
follow_bell-found-requires-clause-touch g c = may_touch c.in-Some.page c.self.invariant
    (at_bell c.in-Some.page c.self.invariant c.in-Some.is).inside

pub disarm-requires : goal.disarm-requires
disarm-requires g c = (at_bell c.in-Some.page c.self.invariant c.in-Some.is).inside

pub returns-then-found-eq0 : goal.returns-then-found-eq0
returns-then-found-eq0 g c =
    let P : Paged → Type 0 = λ z. BellStops z (paged_of g.L.KeyLayout.layout c.follow_bell-found.new.self
    c.self.inside.shard c.self.inside.states) in
    subst P c.self.view_is (bell_stopped g.L.KeyLayout.layout c.in-Some.page c.follow_bell-found.result
    c.self.inside.shard c.self.inside.states c.self.inside.owner c.follow_bell-found.new.self
    c.follow_bell-found.ensures.acts c.follow_bell-found.ensures.bell c.follow_bell-found.ensures.page
    c.follow_bell-found.ensures.put c.follow_bell-found.ensures.arm c.if-found-eq0.true)

pub invariant_of-self-2 : goal.invariant_of-self-2
invariant_of-self-2 g c =
    let k = c.self.invariant in
    let b = at_bell c.in-Some.page k c.in-Some.is in
    let st : PageState = state_at c.self.inside.states c.in-Some.page in
    subst (KeepsPages g.L.KeyLayout.layout c.follow_bell-found.new.self c.self.inside.shard
    c.link_item-self-inside.result) (sym c.disarm.ensures)
    (keeps_bell c.in-Some.page c.follow_bell-found.result c.link_item-self-inside.result _ k
    c.follow_bell-found.ensures.acts c.follow_bell-found.ensures.bell c.follow_bell-found.ensures.page
    c.follow_bell-found.ensures.does.stands b.inside c.if-found-eq0.false c.link_item-self-inside.ensures
    (kept_rung st _ c.follow_bell-found.result (k.pages c.in-Some.page b.inside) c.if-found-eq0.false))

pub returns : goal.returns
returns g c =
    let k = c.self.invariant in
    let b = at_bell c.in-Some.page k c.in-Some.is in
    let P : Paged → Type 0 = λ z. BellReads c.in-Some.page z
    (paged_of g.L.KeyLayout.layout c.follow_bell-found.new.self c.self.inside.shard c.disarm.new.self) in
    subst P c.self.view_is (bell_read g.L.KeyLayout.layout c.in-Some.page c.follow_bell-found.result c.self.inside.shard
    c.self.inside.states _ _ c.self.inside.owner c.follow_bell-found.new.self
    c.follow_bell-found.ensures.acts c.follow_bell-found.ensures.bell c.follow_bell-found.ensures.page
    c.follow_bell-found.ensures.put c.follow_bell-found.ensures.arm c.if-found-eq0.false
    c.disarm.ensures refl b.inside b.armed)
