use Rattle.std.proofs.Common.{◌∙◌, ap, sym, ◌≡◌, ◌==◌, true, []}
use Rattle.std.proofs.Common.{arith, ◌<◌, deque_len}
use Rattle.std.specs.Prelude.{length}
use Rattle.sh_slots.specs.Slots.{same_slot}
use Rattle.sh_step.specs.Collections.{has, without}
use Rattle.sh_step.specs.Runs.{slots_in, slots_of}
use Rattle.sh_step.proofs.ListLaws.{position_within, on_some, none_left}
use Rattle.sh_step.proofs.RunsWithout.{without_in_run, without_a_run, found_has}
use Rattle.sh_step.proofs.part.runs.remove_from.Goals as goal

pub run_without-left-requires : goal.run_without-left-requires
run_without-left-requires c = found_has c.args.slot_ref c.args.runs.now.items c.args.i c.index.result.now c.requires
    (sym c.index.ensures)

pub returns-then-is_empty_run : goal.returns-then-is_empty_run
returns-then-is_empty_run c =
    let items = c.args.runs.now.items in
    let run = c.index.result.now in
    let ok = c.args.runs.now.ok in
    let few = position_within (λ r. has (same_slot c.args.slot_ref) (slots_of r)) items c.args.i c.requires in
    let within : c.args.i < deque_len c.args.runs.now = omega arith in
    let left : (length (slots_of c.run_without-left.result) == 0) ≡ true =
    sym c.is_empty_run.ensures ∙ c.if-is_empty_run.true in
    let gone : without (same_slot c.args.slot_ref) (slots_of run) ≡ [] =
    sym c.run_without-left.ensures.slots ∙ none_left _ left in
    let items_left = on_some c.remove.result _ (c.remove.ensures.succeeds run within) c.remove.ensures.items in
    ap slots_in items_left ∙ without_a_run c.args.slot_ref items c.args.i run c.requires (sym c.index.ensures) gone

pub returns-else-is_empty_run : goal.returns-else-is_empty_run
returns-else-is_empty_run c =
    ap slots_in c.put_at.ensures ∙ without_in_run c.args.slot_ref c.args.runs.now.items c.args.i c.index.result.now
    c.run_without-left.result c.requires (sym c.index.ensures) c.run_without-left.ensures.slots
