use Rattle.std.proofs.Common.{refl, subst}
use Rattle.sh_shard.specs.Pages.{Paged, HoldsPages}
use Rattle.sh_shard.proofs.Booking.{knows_words}
use Rattle.sh_shard.proofs.pages.PagesOn.shape.Goals as goal

pub returns-clause-holds : goal.returns-clause-holds
returns-clause-holds g c = subst (λ (v : Paged). HoldsPages g.L.KeyLayout.layout v) c.self.view_is (record {
  stands = c.shape.ensures.stands;
  idle = c.self.invariant.idle;
  owned = c.self.invariant.owned;
  shape = c.shape.ensures.same;
  bell = refl;
  known = knows_words c.self.invariant;
})
