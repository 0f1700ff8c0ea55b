use Rattle.sh_step.proofs.NoteLaws.{none_noted}
use Rattle.sh_step.proofs.part.notes.Notes.new.Goals as goal

pub invariant_of-result : goal.invariant_of-result
invariant_of-result c = none_noted _ _ c.new-2.ensures.items c.new.ensures.items
