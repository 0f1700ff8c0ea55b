use Rattle.script_heap.proofs.Stuck.{no_pass_is_stuck}
use Rattle.script_heap.proofs.laws.no_pass_is_stuck.Goals as goal

pub returns : goal.returns
returns c = no_pass_is_stuck
