use Rattle.script_heap.proofs.FirstInsert.{first_insert_is_not_full}
use Rattle.script_heap.proofs.laws.first_insert_is_not_full.Goals as goal

pub returns : goal.returns
returns c = first_insert_is_not_full
