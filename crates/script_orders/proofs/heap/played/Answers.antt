use Rattle.std.proofs.Common.{ℕ, List, subst}
use Rattle.std.specs.Prelude.{Ok}
use Rattle.sh_core.specs.Kept.{RunsWorld}
use Rattle.script_orders.specs.Reached.{done_by}
use Rattle.script_orders.proofs.heap.played.Goals as goal

pub returns : goal.returns
returns g c =
    let p = c.args.program.now in
    subst (λ (order : List ℕ). RunsWorld g.L.KeyLayout.layout p.shape (done_by p order) (Ok c.play.new.self.world))
    c.in_ok-play.ensures.order c.in_ok-play.ensures.played.plays
