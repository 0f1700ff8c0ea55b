use Rattle.sh_step.proofs.NoteLaws.{none_noted}
use Rattle.sh_step.proofs.part.notes.Notes.clear.Goals as goal

pub invariant_of-self : goal.invariant_of-self
invariant_of-self c = none_noted _ _ c.clear-2.ensures.items c.clear.ensures.items
