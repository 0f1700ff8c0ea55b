use Rattle.std.proofs.Common.{None, refl, subst}
use Rattle.sh_shard.specs.Pages.{Paged, GainsSlot}
use Rattle.sh_shard.proofs.Booking.{holds_after}
use Rattle.sh_shard.proofs.Coming.{kept_after}
use Rattle.sh_shard.proofs.PageSteps.{paged_of}
use Rattle.sh_shard.proofs.pages.PagesOn.read_guard.Goals as goal

pub invariant_of-self : goal.invariant_of-self
invariant_of-self g c = (kept_after None None c.read_guard.new.self c.self.inside.states c.self.invariant
    c.read_guard.ensures.leaves c.read_guard.ensures.remains.stands (refl, refl)).keeps

pub returns-clause-gained : goal.returns-clause-gained
returns-clause-gained g c =
    let P : Paged → Type 0 = λ z. GainsSlot None z (paged_of g.L.KeyLayout.layout c.read_guard.new.self
    c.self.inside.shard c.self.inside.states) in
    subst P c.self.view_is (kept_after None None c.read_guard.new.self c.self.inside.states c.self.invariant
    c.read_guard.ensures.leaves c.read_guard.ensures.remains.stands (refl, refl)).comes

pub returns-clause-holds : goal.returns-clause-holds
returns-clause-holds g c = holds_after (invariant_of-self g c) c.read_guard.ensures.remains
    c.self.invariant.owned c.read_guard.ensures.leaves.same.shape
