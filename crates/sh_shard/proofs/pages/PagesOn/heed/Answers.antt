use Rattle.std.proofs.Common.{ap}
use Rattle.sh_pass.specs.Passes.{Caller}
use Rattle.sh_shard.proofs.Booking.{holds_after, keeps_heeded}
use Rattle.sh_shard.proofs.pages.PagesOn.heed.Goals as goal

pub returns-clause-holds : goal.returns-clause-holds
returns-clause-holds g c =
    holds_after
    (keeps_heeded c.args.receipt c.heed.ensures.heeds c.heed.ensures.remains.stands c.self.invariant)
    c.heed.ensures.remains c.self.invariant.owned
    (ap (λ (v : Caller). v.view.shape) c.heed.ensures.heeds)
