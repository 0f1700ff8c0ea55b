use Rattle.std.proofs.Common.{ℕ, ◌+◌, Bool, false, Option, [], ◌∷◌, ◌∙◌, ap, sym, subst, arith}
use Rattle.std.specs.Bool.{then_some}
use Rattle.sh_slots.specs.Slots.{slot_ref_of}
use Rattle.sh_slots.specs.declared.hand.Hand.TheVariants.{Idle, Removing, Leaving}
use Rattle.sh_slots.specs.declared.hand.SlotRef.{SlotRef}
use Rattle.sh_step.specs.declared.body.Body.{Body}
use Rattle.sh_step.specs.Rows.{hand}
use Rattle.sh_pass.specs.Deciding.{Stepped, EntryTells}
use Rattle.sh_pass.specs.Growing.{Grows, RemoveEnters, removal, with_slot}
use Rattle.sh_pass.proofs.DecidedLaws.{removal_marked, removal_vain}
use Rattle.sh_pass.specs.Telling.{words_asked}
use Rattle.sh_pass.proofs.EndsTold.{none_then, tells_after}
use Rattle.sh_pass.proofs.GrowthLaws.{grows_on, grows_after, grows_as, left_on}
use Rattle.sh_pass.proofs.told_entering.remove_told_at.Goals as goal

pub returns-then-there-clause-grows : goal.returns-then-there-clause-grows
returns-then-there-clause-grows g c =
    let v = c.args.seat.now.me.0 in
    let w = c.enter_to_remove-there.new.seat.me.0 in
    let Q : Bool → Type 0 = λ b. RemoveEnters c.args.key c.args.name b v w in
    let e : Grows (hand v.own.body (Removing c.args.key)) [] 1 v w
    = subst Q c.if-there.true c.enter_to_remove-there.ensures.grows in
    let m = c.mark_at-first.ensures.grows in
    let all = grows_on (8 + words_asked g.M.EndRoom.asks) _ (grows_after 2 e m (omega arith)) c.give_back_told-ended.ensures.grows (omega arith) in
    let P : Option SlotRef → Type 0 = λ r. Grows (with_slot (hand v.own.body Idle) r)
    (removal v.pass c.args.key c.mark_at-first.result ∷ []) (8 + words_asked g.M.EndRoom.asks) v c.give_back_told-ended.new.seat.me.0 in
    subst P (sym c.then_some.ensures)
    (grows_as _ _ (ap (λ (p : Body). with_slot (hand p Idle)
    (then_some c.give_back_told-ended.result.1 c.slot_ref-slot_ref.result))
    (m.body ∙ ap (λ (p : Body). hand p (Leaving (slot_ref_of c.args.name))) e.body))
    (ap (λ (n : ℕ). removal n c.args.key c.mark_at-first.result ∷ []) e.same.pass) all)

pub returns-then-there-clause-first : goal.returns-then-there-clause-first
returns-then-there-clause-first g c =
    let P : Bool → Type 0 = λ b. Stepped (EntryTells c.args.key c.args.name b) c.args.seat.now.me.0
    c.enter_to_remove-there.new.seat.me.0 in
    removal_marked c.args.seat.now.me.0 c.enter_to_remove-there.new.seat.me.0 c.mark_at-first.new.seat.me.0
    c.give_back_told-ended.new.seat.me.0 c.args.key c.args.name _
    (subst P c.if-there.true c.enter_to_remove-there.ensures.first)
    c.mark_at-first.ensures.first c.give_back_told-ended.ensures.grows

pub returns-else-there-clause-first : goal.returns-else-there-clause-first
returns-else-there-clause-first g c =
    let P : Bool → Type 0 = λ b. Stepped (EntryTells c.args.key c.args.name b) c.args.seat.now.me.0
    c.enter_to_remove-there.new.seat.me.0 in
    removal_vain c.args.seat.now.me.0 c.enter_to_remove-there.new.seat.me.0 c.give_back_told-ended-else-there.new.seat.me.0
    c.args.key c.args.name (subst P c.if-there.false c.enter_to_remove-there.ensures.first)
    c.give_back_told-ended-else-there.ensures.grows

pub returns-else-there-clause-grows : goal.returns-else-there-clause-grows
returns-else-there-clause-grows g c =
    let v = c.args.seat.now.me.0 in
    let w = c.enter_to_remove-there.new.seat.me.0 in
    let Q : Bool → Type 0 = λ b. RemoveEnters c.args.key c.args.name b v w in
    let e : Grows (hand v.own.body (Leaving (slot_ref_of c.args.name))) (removal v.pass c.args.key false ∷ []) 1 v w
    = subst Q c.if-there.false c.enter_to_remove-there.ensures.grows in
    let P : Option SlotRef → Type 0 = λ r. Grows (with_slot (hand v.own.body Idle) r)
    (removal v.pass c.args.key false ∷ []) (8 + words_asked g.M.EndRoom.asks) v c.give_back_told-ended-else-there.new.seat.me.0 in
    subst P (sym c.then_some-else-there.ensures)
    (left_on (8 + words_asked g.M.EndRoom.asks) (slot_ref_of c.args.name)
    (then_some c.give_back_told-ended-else-there.result.1 c.slot_ref-slot_ref.result) e
    c.give_back_told-ended-else-there.ensures.grows (omega arith))

pub returns-then-there-clause-tells : goal.returns-then-there-clause-tells
returns-then-there-clause-tells g c =
    let v = c.args.seat.now.me.0 in
    let w = c.enter_to_remove-there.new.seat.me.0 in
    let u = c.mark_at-first.new.seat.me.0 in
    let Q : Bool → Type 0 = λ b. RemoveEnters c.args.key c.args.name b v w in
    let e : Grows (hand v.own.body (Removing c.args.key)) [] 1 v w
    = subst Q c.if-there.true c.enter_to_remove-there.ensures.grows in
    tells_after g.M.EndRoom.asks g.M.EndRoom.takes g.L.KeyLayout.layout v u c.give_back_told-ended.new.seat.me.0
    c.give_back_told-ended.result.0 c.args.room.now c.give_back_told-ended.new.room
    (c.mark_at-first.ensures.grows.same.shape ∙ e.same.shape)
    (none_then c.enter_to_remove-there.ensures.ends c.mark_at-first.ensures.ends) c.give_back_told-ended.ensures.tells

pub returns-else-there-clause-tells : goal.returns-else-there-clause-tells
returns-else-there-clause-tells g c =
    let v = c.args.seat.now.me.0 in
    let w = c.enter_to_remove-there.new.seat.me.0 in
    let Q : Bool → Type 0 = λ b. RemoveEnters c.args.key c.args.name b v w in
    let e : Grows (hand v.own.body (Leaving (slot_ref_of c.args.name))) (removal v.pass c.args.key false ∷ []) 1 v w
    = subst Q c.if-there.false c.enter_to_remove-there.ensures.grows in
    tells_after g.M.EndRoom.asks g.M.EndRoom.takes g.L.KeyLayout.layout v w
    c.give_back_told-ended-else-there.new.seat.me.0 c.give_back_told-ended-else-there.result.0 c.args.room.now
    c.give_back_told-ended-else-there.new.room e.same.shape c.enter_to_remove-there.ensures.ends
    c.give_back_told-ended-else-there.ensures.tells
