use Rattle.std.proofs.Common.{◌∙◌, ℕ, ap, sym, subst}
use Rattle.sh_step.specs.declared.action.Action.TheVariants as action
use Rattle.sh_step.specs.declared.moves.Move.TheVariants as move
use Rattle.sh_table.specs.Seats.{CanDo, Did}
use Rattle.sh_pass.specs.Owners.{heap_slot, slot_in}
use Rattle.sh_pass.proofs.OwnMay.{may_fill_slot}
use Rattle.sh_pass.proofs.OwnSeats.{can, does, stood, seat_at}
use Rattle.sh_pass.proofs.OwnPageSteps.{fill_slot_does}
use Rattle.sh_pass.proofs.owner.OwnerOn.fill_slot.Goals as goal

pub fill_slot-requires : goal.fill_slot-requires
fill_slot-requires g c =
    let layout = g.L.KeyLayout.layout in
    let v = c.args.self.now in
    let touch = c.requires.touch in
    let seat = seat_at (c.heap.view_is ∙ c.kept-heap.ensures) c.self.invariant.seat in
    let s = stood v c.self.view_is seat in
    let P : ℕ → Type 0 = λ q. CanDo layout c.heap.inside.table
    (action.FillSlot (slot_in c.args.name c.args.slot) c.args.value.now)
    (move.FillSlot (record { page = q; slot = c.args.slot }) c.args.value.now) c.self.inside.seated.seat in
    subst P (sym c.number.ensures) (can v _ _ c.self.view_is seat
    (may_fill_slot layout v c.args.name touch (s.owner.owned c.args.name.shard touch.owned) c.args.slot
    c.args.value.now (s.owner.mine (heap_slot v c.args.name c.args.slot) c.requires.mine).2 c.requires.mine
    c.requires.classed c.requires.fits))

pub returns : goal.returns
returns g c =
    let layout = g.L.KeyLayout.layout in
    let v = c.args.self.now in
    let touch = c.requires.touch in
    let seat = seat_at (c.heap.view_is ∙ c.kept-heap.ensures) c.self.invariant.seat in
    let s = stood v c.self.view_is seat in
    let P : ℕ → Type 0 = λ q. Did layout c.heap.inside.table
    (action.FillSlot (slot_in c.args.name c.args.slot) c.args.value.now)
    (move.FillSlot (record { page = q; slot = c.args.slot }) c.args.value.now) 0 c.self.inside.seated.seat
    c.fill_slot.new.seat in
    let d = does v c.self.view_is seat (subst P c.number.ensures c.fill_slot.ensures) in
    let k = fill_slot_does layout v _ c.args.name s.owner c.args.slot c.args.value.now d in
    record {
      slot_ref = ap (λ q. record { page = q; slot = c.args.slot }) c.number.ensures;
      below = (s.owner.mine (heap_slot v c.args.name c.args.slot) c.requires.mine).2;
      does = d;
      acts = k.0;
      bells =
          k.1;
      page = k.2;
      put = k.3;
    }
