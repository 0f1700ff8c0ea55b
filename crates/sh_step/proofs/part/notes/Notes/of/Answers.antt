use Rattle.std.proofs.Common.{◌∙◌, ap}
use Rattle.sh_step.specs.Collections.{noted}
use Rattle.sh_step.proofs.NoteLaws.{noted_newest}
use Rattle.sh_step.proofs.part.notes.Notes.of.Goals as goal

pub returns : goal.returns
returns c = c.value_noted.ensures
    ∙ (noted_newest c.args.number c.self.inside.newest.items c.self.inside.notes.items c.self.invariant
    ∙ ap (noted c.args.number) c.self.view_is)
