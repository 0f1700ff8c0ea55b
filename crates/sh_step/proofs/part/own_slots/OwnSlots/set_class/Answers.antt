use Rattle.std.proofs.Common.{◌++◌, ◌==◌, ◌∙◌, ap}
use Rattle.sh_slots.specs.Slots.{slot_refs}
use Rattle.sh_step.specs.Collections.{off}
use Rattle.sh_step.specs.Runs.{slots_in}
use Rattle.sh_step.proofs.RunsLaws.{slots_in_first}
use Rattle.sh_step.proofs.part.own_slots.OwnSlots.set_class.Goals as goal

pub returns-clause-slots : goal.returns-clause-slots
returns-clause-slots c =
    slots_in_first _ c.forget_page.new.runs.items c.run_of_page.result _ c.put_in_room.ensures c.run_of_page.ensures
    ∙ ap (λ xs. slot_refs c.args.page 0 c.args.count ++ xs) (c.forget_page.ensures.slots
    ∙ (ap (λ rs. off (λ x. x.page == c.args.page) (slots_in rs)) c.in_ok-make_room.ensures.items
    ∙ ap (λ xs. off (λ x. x.page == c.args.page) xs) c.self.view_is))
