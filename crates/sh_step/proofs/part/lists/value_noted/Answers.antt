use Rattle.std.proofs.Common.{◌∙◌, sym, ap}
use Rattle.std.specs.Prelude.{option_map}
use Rattle.sh_step.proofs.ListLaws.{noted_is_found}
use Rattle.sh_step.proofs.part.lists.value_noted.Goals as goal

pub returns-in-Some : goal.returns-in-Some
returns-in-Some c = sym (noted_is_found c.args.number c.args.notes.now.items
    ∙ ap (option_map (λ x. x.1)) (sym c.newest_note.ensures ∙ c.in-Some.is))

pub returns-in-None : goal.returns-in-None
returns-in-None c = sym (noted_is_found c.args.number c.args.notes.now.items
    ∙ ap (option_map (λ x. x.1)) (sym c.newest_note.ensures ∙ c.in-None.is))
