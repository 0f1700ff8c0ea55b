use Rattle.std.proofs.Common.{subst}
use Rattle.sh_shard.specs.Pages.{Paged, BellTakes}
use Rattle.sh_shard.proofs.PageSteps.{paged_of}
use Rattle.sh_shard.proofs.BellSteps.{bell_took}
use Rattle.sh_shard.proofs.pages.PagesOn.take_bell.Goals as goal

pub returns : goal.returns
returns g c =
    let P : Paged → Type 0 = λ z. BellTakes z (paged_of g.L.KeyLayout.layout c.take_bell-found.new.self
    c.self.inside.shard c.self.inside.states) in
    subst P c.self.view_is (bell_took g.L.KeyLayout.layout c.take_bell-found.result c.self.inside.shard
    c.self.inside.states c.self.inside.owner c.take_bell-found.new.self
    c.take_bell-found.ensures.acts c.take_bell-found.ensures.bell c.take_bell-found.ensures.pages
    c.take_bell-found.ensures.put c.take_bell-found.ensures.arm)
