use Rattle.std.proofs.Common.{◌≡◌, vec_capacity, vec_len}
use Rattle.sh_table.specs.Seats.{IsDealer}
use Rattle.sh_pass.specs.Passes.{newcomers}
use Rattle.sh_pass.proofs.heap.Heap.states.Given as goal

abbrev pub invariant-loop-n : goal.invariant-loop-n
invariant-loop-n g l = IsDealer l.self l.n l.dealer × (l.states.items ≡ newcomers l.self l.n) × (vec_len l.states ≡ l.n)
    × (vec_capacity l.states ≡ l.count)
