use Rattle.std.proofs.Common.{vec_len}
use Rattle.sh_whole.proofs.calling.lose_all.Given as goal

abbrev pub decreases-loop-pool_slot : goal.decreases-loop-pool_slot
decreases-loop-pool_slot g l = vec_len l.pool_slots
