use Rattle.std.proofs.Common.{ap, ◌∙◌, length, subst, sym}
use Rattle.sh_pool.specs.PoolSlots.{AreLast}
use Rattle.sh_pool.proofs.Homes.{newcomers_are_last}
use Rattle.sh_pool.proofs.Newcomers.{newcomers_count}
use Rattle.sh_pool.proofs.pool.all_states.Goals as goal

pub returns-in-Ok-clause-last : goal.returns-in-Ok-clause-last
returns-in-Ok-clause-last g c = let heap = c.args.heap.now in
    subst (AreLast heap heap.shape.passes) (sym c.in-Ok.ensures.all) (newcomers_are_last heap heap.shape.passes)

pub returns-in-Ok-clause-count : goal.returns-in-Ok-clause-count
returns-in-Ok-clause-count g c = let heap = c.args.heap.now in
    ap length c.in-Ok.ensures.all ∙ newcomers_count heap heap.shape.passes
