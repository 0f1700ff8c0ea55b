use Rattle.std.proofs.Common.{None, refl, subst}
use Rattle.sh_shard.specs.Pages.{Paged, GainsSlot}
use Rattle.sh_shard.proofs.Booking.{holds_after}
use Rattle.sh_shard.proofs.Coming.{kept_after}
use Rattle.sh_shard.proofs.PageSteps.{paged_of}
use Rattle.sh_shard.proofs.pages.PagesOn.peek_at.Goals as goal

pub invariant_of-self : goal.invariant_of-self
invariant_of-self g c = (kept_after None None c.peek_at.new.self c.self.inside.states c.self.invariant
    c.peek_at.ensures.leaves c.peek_at.ensures.remains.stands (refl, refl)).keeps

pub returns-clause-gained : goal.returns-clause-gained
returns-clause-gained g c =
    let P : Paged → Type 0 = λ z. GainsSlot None z (paged_of g.L.KeyLayout.layout c.peek_at.new.self
    c.self.inside.shard c.self.inside.states) in
    subst P c.self.view_is (kept_after None None c.peek_at.new.self c.self.inside.states c.self.invariant
    c.peek_at.ensures.leaves c.peek_at.ensures.remains.stands (refl, refl)).comes

pub returns-clause-holds : goal.returns-clause-holds
returns-clause-holds g c = holds_after (invariant_of-self g c) c.peek_at.ensures.remains
    c.self.invariant.owned c.peek_at.ensures.leaves.same.shape
