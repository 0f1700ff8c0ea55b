use Rattle.std.proofs.Common.{◌≡◌, length}
use Rattle.std.specs.Vec.Iter.{into_iter_items}
use Rattle.sh_pass.specs.Passes.{AreOf}
use Rattle.sh_whole.proofs.calling.give_back_all.Given as goal

-- there is a pool slot for each pass that is left
abbrev pub invariant-loop-pass : goal.invariant-loop-pass
invariant-loop-pass g l = record {
  of : AreOf l.pool (into_iter_items l.pass-iterator);
  count : length l.pool_slots.items ≡ length (into_iter_items l.pass-iterator);
}
