use Rattle.std.proofs.Common.{ℕ, List, sym, subst}
use Rattle.std.specs.Prelude.{Ok}
use Rattle.sh_core.specs.Kept.{RunsWorld}
use Rattle.script_orders.specs.Reached.{done_by}
use Rattle.script_orders.proofs.GoneOn.{played_on}
use Rattle.script_orders.proofs.heap.Heap.outcome.Goals as goal

pub returns-clause-played : goal.returns-clause-played
returns-clause-played g c =
    let layout = g.L.KeyLayout.layout in
    let p = c.args.program.now in
    let before = c.args.self.now in
    let after = c.step.new.world in
    record {
      heap = c.requires.played.heap;
      begins = c.requires.played.begins;
      plays = subst (λ (order : List ℕ). RunsWorld layout p.shape (done_by p order) (Ok after))
          (sym c.in_ok-push_lines.ensures)
          (played_on layout p before.order.items c.args.pass c.args.behind c.args.line c.args.event.now
          c.in_ok-outcome.outcome before.world after c.requires.played.plays c.requires.next c.requires.there
          c.in_ok-outcome.ensures.ok);
    }

pub returns-clause-is : goal.returns-clause-is
returns-clause-is g c = c.in_ok-outcome.ensures.ok.outcome_is
