use Rattle.std.proofs.Common.{ℕ, List, sym, subst, ◌∙◌}
use Rattle.std.specs.Prelude.{Ok}
use Rattle.sh_shape.specs.Shape.{Numbers, IsShape}
use Rattle.sh_core.specs.Kept.{HoldsWords, RunsWorld}
use Rattle.script_orders.specs.Reached.{world_before, done_by}
use Rattle.script_orders.proofs.Playing.{played_none}
use Rattle.script_orders.proofs.heap.Heap.new.Goals as goal

pub returns : goal.returns
returns g c =
    let layout = g.L.KeyLayout.layout in
    let p = c.args.program.now in
    let k = c.in_ok-world.world in
    let runs = c.in_ok-world.ensures in
    let from = c.words.ensures.reached in
    record {
      heap = record { is_layout = from.is_layout; is_shape = subst IsShape runs.1 from.is_shape; fits = runs.0 };
      begins = subst (λ (ws : List ℕ). HoldsWords p.shape ws (world_before layout p).words)
          (sym (c.in_ok-from_slice.ensures.items ∙ c.words.ensures.is))
          (subst (λ (n : Numbers). HoldsWords n k.words (world_before layout p).words) runs.1 (runs.2).words);
      plays = subst (λ (order : List ℕ). RunsWorld layout p.shape (done_by p order) (Ok k)) (sym c.new.ensures.items)
          (played_none layout p k runs);
    }
