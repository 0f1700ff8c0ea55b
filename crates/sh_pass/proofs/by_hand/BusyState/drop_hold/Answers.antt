use Rattle.std.proofs.Common.{◌≡◌, ◌==◌, ℕ, List, Some, None, refl, ap, ◌∙◌, sym, subst}
use Rattle.sh_step.specs.declared.action.Action.TheVariants as action
use Rattle.sh_step.specs.declared.moves.Move.TheVariants as move
use Rattle.sh_slots.specs.declared.hand.SlotRef.{SlotRef}
use Rattle.sh_slots.specs.Slots.{after_drop}
use Rattle.sh_step.specs.Collections.{without}
use Rattle.sh_step.proofs.MoveLaws.{no_drop}
use Rattle.sh_pass.specs.Busy.{IsBusy}
use Rattle.sh_pass.proofs.MayLaws.{may_drop_hold}
use Rattle.sh_pass.proofs.HeldLaws.{kept_less, hold_found, no_hold}
use Rattle.sh_pass.proofs.BusyLaws.{not_idle_to_drop, not_held, refused_row, named_here, done, busy_with}
use Rattle.sh_pass.proofs.by_hand.BusyState.drop_hold.Goals as goal

pub returns-in_default : goal.returns-in_default
returns-in_default g c = record {
  busy = c.requires;
  acts = not_idle_to_drop g.L.KeyLayout.layout
      c.args.self.now.seated.seat.me.0 c.args.key c.args.self.now.hand c.requires.hand c.in_default.not-Idle;
}

pub returns-in_default-find-clause-acts : goal.returns-in_default-find-clause-acts
returns-in_default-find-clause-acts g c = not_held g.L.KeyLayout.layout c.args.self.now.seated.seat.me.0 c.args.key
    (no_hold c.args.self.now.seated.held.items _ c.args.self.now.seated.seat.me.0.own.body.holds c.args.key _
    c.requires.kept.holds c.as_slice.ensures.value c.find.ensures c.in_default-find.is)

pub returns-in_default-place_of_key-clause-acts : goal.returns-in_default-place_of_key-clause-acts
returns-in_default-place_of_key-clause-acts g c = refused_row g.L.KeyLayout.layout c.args.self.now.seated.seat.me.0
    (action.DropHold c.args.key) (no_drop _ c.args.self.now.seated.seat.me.0.own.body c.args.key
    (named_here g.L.KeyLayout.layout c.shape.result.now c.args.self.now.seated.seat.me.0.shape c.args.key _ None
    (c.shape.ensures ∙ sym c.requires.seat.shape) c.place_of_key.ensures c.in_default-place_of_key.is))

pub drop_hold-found-requires : goal.drop_hold-found-requires
drop_hold-found-requires g c = record {
  seat = c.requires.seat;
  may = may_drop_hold _ c.args.self.now.seated.seat.me.0.own.body
      c.args.key c.in-Some-place_of_key.name (named_here g.L.KeyLayout.layout c.shape.result.now
      c.args.self.now.seated.seat.me.0.shape c.args.key _ (Some c.in-Some-place_of_key.name)
      (c.shape.ensures ∙ sym c.requires.seat.shape) c.place_of_key.ensures c.in-Some-place_of_key.is)
      (c.requires.hand ∙ c.in-Idle.is) (hold_found c.args.self.now.seated.held.items _
      c.args.self.now.seated.seat.me.0.own.body.holds
      c.args.key c.in-Some.at _ c.requires.kept.holds c.as_slice.ensures.value c.find.ensures c.in-Some.is).1;
}

pub returns-clause-busy : goal.returns-clause-busy
returns-clause-busy g c =
    let held : List ℕ = c.args.self.now.seated.held.items in
    let body = c.args.self.now.seated.seat.me.0.own.body in
    let f = hold_found c.args.self.now.seated.held.items _ c.args.self.now.seated.seat.me.0.own.body.holds c.args.key
    c.in-Some.at _ c.requires.kept.holds c.as_slice.ensures.value c.find.ensures c.in-Some.is in
    let begun : after_drop _ _ ≡ c.after_drop-self.result = ap (λ (x : SlotRef). after_drop x c.drop_hold-found.result)
    (sym c.slot_ref.ensures) ∙ sym c.after_drop-self.ensures in
    let P : List ℕ → Type 0 = λ xs. IsBusy g.L.KeyLayout.layout c.args.table.now c.drop_hold-found.new.seat xs
    c.args.self.now.seated.named c.after_drop-self.result c.args.self.now.seated.number in
    subst P (f.2 ∙ sym c.remove.ensures.items) (busy_with (action.DropHold c.args.key)
    (move.DropHold c.args.key c.in-Some-place_of_key.name) (without (λ k. k == c.args.key) held)
    c.after_drop-self.result _ c.requires c.drop_hold-found.ensures refl begun c.requires.left
    (kept_less c.args.key held body.holds _ c.requires.kept f.0 refl))

pub returns-clause-acts : goal.returns-clause-acts
returns-clause-acts g c = done (action.DropHold c.args.key) (move.DropHold c.args.key c.in-Some-place_of_key.name) refl
    (may_drop_hold _ c.args.self.now.seated.seat.me.0.own.body c.args.key c.in-Some-place_of_key.name
    (named_here g.L.KeyLayout.layout c.shape.result.now c.args.self.now.seated.seat.me.0.shape c.args.key _
    (Some c.in-Some-place_of_key.name) (c.shape.ensures ∙ sym c.requires.seat.shape) c.place_of_key.ensures
    c.in-Some-place_of_key.is) (c.requires.hand ∙ c.in-Idle.is)
    (hold_found c.args.self.now.seated.held.items _ c.args.self.now.seated.seat.me.0.own.body.holds c.args.key
    c.in-Some.at _
    c.requires.kept.holds c.as_slice.ensures.value c.find.ensures c.in-Some.is).1) c.drop_hold-found.ensures
