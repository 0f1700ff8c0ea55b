use Rattle.script_heap.proofs.OwnerLaws.{lines_keep_owners_apart}
use Rattle.script_heap.proofs.OwnersTold.{lines_tell_owners}
use Rattle.script_heap.proofs.laws.lines_keep_owners_apart.Goals as goal

pub returns-clause-apart : goal.returns-clause-apart
returns-clause-apart c = lines_keep_owners_apart

pub returns-clause-told : goal.returns-clause-told
returns-clause-told c = lines_tell_owners
