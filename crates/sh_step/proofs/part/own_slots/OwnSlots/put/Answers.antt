use Rattle.std.proofs.Common.{◌∷◌, ◌∙◌, ap}
use Rattle.sh_step.proofs.RunsLaws.{slots_in_first}
use Rattle.sh_step.proofs.part.own_slots.OwnSlots.put.Goals as goal

pub returns-clause-ok : goal.returns-clause-ok
returns-clause-ok c =
    slots_in_first _ c.self.inside.runs.items c.run_of_slot.result _ c.in_ok-put_first.ensures.ok c.run_of_slot.ensures
    ∙ ap (λ xs. c.args.slot_ref ∷ xs) c.self.view_is
