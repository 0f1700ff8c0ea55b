use Rattle.sh_step.proofs.NoteLaws.{notes_leave}
use Rattle.sh_step.proofs.part.notes.Notes.forget.Goals as goal

pub invariant_of-self : goal.invariant_of-self
invariant_of-self c = notes_leave c.args.number c.self.inside.newest.items c.self.inside.notes.items _ _
    c.forget_notes-2.ensures.items c.forget_notes.ensures.items c.self.invariant
