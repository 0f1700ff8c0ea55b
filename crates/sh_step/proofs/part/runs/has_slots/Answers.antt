use Rattle.std.proofs.Common.{arith, ◌+◌, ◌-◌, ◌&&◌, ◌∙◌, Bool, sym, ap}
use Rattle.sh_slots.specs.declared.hand.SlotRef.{SlotRef}
use Rattle.sh_slots.specs.Slots.{same_slot, slot_refs}
use Rattle.sh_step.specs.Collections.{has, every}
use Rattle.sh_step.specs.Runs.{slots_in}
use Rattle.sh_step.proofs.ListLaws.{every_more, every_none}
use Rattle.sh_step.proofs.part.runs.has_slots.Goals as goal

pub returns-then-not-seen-slot : goal.returns-then-not-seen-slot
returns-then-not-seen-slot c =
    let less = c.loop-slot-test.true in
    let few = c.requires in
    let test : SlotRef → Bool = λ x. has (same_slot x) (slots_in c.args.runs.now.items) in
    let rest = every test (slot_refs c.args.page (c.loop-slot.slot + 1) (c.args.count - (c.loop-slot.slot + 1))) in
    let seen = sym (c.slots_seen-seen.ensures c.loop-slot.slot (omega arith)) in
    sym (c.loop-slot.invariant ∙ (every_more test c.args.page c.loop-slot.slot c.args.count less
    ∙ ap (λ b. b && rest) (seen ∙ c.if-not-seen-slot.true)))

pub loop-slot-preserved : goal.loop-slot-preserved
loop-slot-preserved c =
    let less = c.loop-slot-test.true in
    let few = c.requires in
    let test : SlotRef → Bool = λ x. has (same_slot x) (slots_in c.args.runs.now.items) in
    let rest = every test (slot_refs c.args.page (c.loop-slot.slot + 1) (c.args.count - (c.loop-slot.slot + 1))) in
    let seen = sym (c.slots_seen-seen.ensures c.loop-slot.slot (omega arith)) in
    c.loop-slot.invariant ∙ (every_more test c.args.page c.loop-slot.slot c.args.count less
    ∙ ap (λ b. b && rest) (seen ∙ c.if-not-seen-slot.false))

pub returns : goal.returns
returns c = sym (c.loop-slot.invariant ∙ every_none (λ x. has (same_slot x) (slots_in c.args.runs.now.items))
    c.args.page c.loop-slot.slot c.args.count c.loop-slot-test.false)
