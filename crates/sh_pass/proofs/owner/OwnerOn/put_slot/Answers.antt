use Rattle.std.proofs.Common.{◌∙◌, ℕ, refl, sym, subst}
use Rattle.sh_step.specs.declared.action.Action.TheVariants as action
use Rattle.sh_step.specs.declared.moves.Move.TheVariants as move
use Rattle.sh_table.specs.Seats.{CanDo, Did}
use Rattle.sh_pass.specs.Owners.{heap_slot, slot_in}
use Rattle.sh_pass.proofs.OwnMay.{may_put_slot, owns_it}
use Rattle.sh_pass.proofs.OwnSeats.{can, does, stood, seat_at}
use Rattle.sh_pass.proofs.OwnPageSteps.{put_does}
use Rattle.sh_pass.proofs.owner.OwnerOn.put_slot.Goals as goal

pub put_slot-requires : goal.put_slot-requires
put_slot-requires g c =
    let layout = g.L.KeyLayout.layout in
    let v = c.args.self.now in
    let touch = c.requires.touch in
    let seat = seat_at (c.heap.view_is ∙ c.kept-heap.ensures) c.self.invariant.seat in
    let s = stood v c.self.view_is seat in
    let P : ℕ → Type 0 = λ q. CanDo layout c.heap.inside.table (action.PutSlot (slot_in c.args.name c.args.slot))
    (move.PutSlot (record { page = q; slot = c.args.slot })) c.self.inside.seated.seat in
    subst P (sym c.number.ensures) (can v _ _ c.self.view_is seat
    (may_put_slot layout v c.args.name touch (s.owner.owned c.args.name.shard touch.owned) c.args.slot
    (s.owner.mine (heap_slot v c.args.name c.args.slot) c.requires.mine).2 c.requires.mine))

pub returns : goal.returns
returns g c =
    let layout = g.L.KeyLayout.layout in
    let v = c.args.self.now in
    let touch = c.requires.touch in
    let seat = seat_at (c.heap.view_is ∙ c.kept-heap.ensures) c.self.invariant.seat in
    let s = stood v c.self.view_is seat in
    let P : ℕ → Type 0 = λ q. Did layout c.heap.inside.table (action.PutSlot (slot_in c.args.name c.args.slot))
    (move.PutSlot (record { page = q; slot = c.args.slot })) c.put_slot.result c.self.inside.seated.seat
    c.put_slot.new.seat in
    let d = does v c.self.view_is seat (subst P c.number.ensures c.put_slot.ensures) in
    let k = put_does layout v _ c.args.name s.owner c.args.slot c.put_slot.result d in
    record { does = d; acts = k.0; bells = k.1; page = k.2; calm = d.says refl (owns_it layout v c.args.name touch) }
