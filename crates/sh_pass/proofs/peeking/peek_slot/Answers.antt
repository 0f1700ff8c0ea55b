use Rattle.std.proofs.Common.{◌<◌, ◌∙◌, subst, sym}
use Rattle.sh_shape.specs.Places.{all_pages}
use Rattle.sh_shape.specs.Shape.{Numbers}
use Rattle.sh_slots.specs.declared.hand.SlotRef.{SlotRef}
use Rattle.sh_step.specs.Plans.{plan_of}
use Rattle.sh_pass.specs.Peeks.{SaysLive}
use Rattle.sh_pass.proofs.PeekLaws.{can_peek, page_in, peek_does, peek_leaves, slot_below}
use Rattle.sh_pass.proofs.peeking.peek_slot.Goals as goal

pub peek_state-word-requires : goal.peek_state-word-requires
peek_state-word-requires g c =
    let at = sym c.slot_of_place-slot_ref.ensures in
    can_peek c.slot_of_place-slot_ref.result c.name_of_slot-name.result c.shape.result.now
    c.requires.seat c.requires.idle c.shape.ensures c.name_of_slot-name.ensures
    (subst (λ (x : SlotRef). x.page < all_pages c.args.table.now.shape) at
    (page_in c.args.table.now.shape c.args.place c.requires.place))
    (subst (λ (x : SlotRef). x.slot < 48) at (slot_below c.args.place))

pub returns-clause-does : goal.returns-clause-does
returns-clause-does g c = peek_does c.slot_of_place-slot_ref.result c.name_of_slot-name.result c.shape.result.now
    c.peek_state-word.result c.requires.seat c.shape.ensures c.name_of_slot-name.ensures c.peek_state-word.ensures
    c.args.place c.live_key.result c.slot_of_place-slot_ref.ensures
    (subst (λ (s : Numbers). SaysLive (plan_of g.L.KeyLayout.layout s) c.slot_of_place-slot_ref.result
    c.peek_state-word.result c.live_key.result) (c.shape-2.ensures ∙ sym c.shape.ensures) c.live_key.ensures)

pub returns-clause-leaves : goal.returns-clause-leaves
returns-clause-leaves g c = peek_leaves c.slot_of_place-slot_ref.result c.name_of_slot-name.result c.shape.result.now
    c.peek_state-word.result c.requires.seat c.shape.ensures c.name_of_slot-name.ensures c.peek_state-word.ensures
    c.requires.idle
