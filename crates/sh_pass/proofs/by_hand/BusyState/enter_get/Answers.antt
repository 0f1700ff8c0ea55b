use Rattle.std.proofs.Common.{◌∷◌, ◌++◌, [], ℕ, List, Some, None, refl, ap, ◌∙◌, sym, subst}
use Rattle.sh_step.specs.declared.action.Action.TheVariants as action
use Rattle.sh_step.specs.declared.moves.Move.TheVariants as move
use Rattle.sh_slots.specs.declared.enter.GetAnswer.TheVariants as answer
use Rattle.sh_slots.specs.declared.hand.Hand.TheVariants.{Leaving}
use Rattle.sh_slots.specs.declared.hand.SlotRef.{SlotRef}
use Rattle.sh_step.specs.Plans.{plan_of}
use Rattle.sh_step.specs.Rows.{hand}
use Rattle.sh_step.proofs.MoveLaws.{no_get}
use Rattle.sh_pass.specs.Busy.{IsBusy}
use Rattle.sh_pass.specs.Growing.{got}
use Rattle.sh_pass.proofs.MayLaws.{may_enter_get}
use Rattle.sh_pass.proofs.PartLaws.{answered, entered_got, entered_crowded}
use Rattle.sh_pass.proofs.HeldLaws.{kept_more}
use Rattle.sh_pass.proofs.BusyLaws.{not_idle_to_get, holds_full, few_left, refused_row, named_here, done, busy_with}
use Rattle.sh_pass.proofs.BusyLaws.{busy_still}
use Rattle.sh_pass.proofs.by_hand.BusyState.enter_get.Goals as goal

pub returns-in_default : goal.returns-in_default
returns-in_default g c = record {
  busy = c.requires;
  acts = not_idle_to_get g.L.KeyLayout.layout
      c.args.self.now.seated.seat.me.0 c.args.key c.args.self.now.hand c.requires.hand c.in_default.not-Idle;
}

pub returns-then-is_full-clause-acts : goal.returns-then-is_full-clause-acts
returns-then-is_full-clause-acts g c = holds_full g.L.KeyLayout.layout c.args.self.now.seated.seat.me.0 c.args.key
    c.args.self.now.seated.held.items c.is_full.result c.requires.kept.count c.is_full.ensures.value c.if-is_full.true

pub returns-in_default-place_of_key-clause-acts : goal.returns-in_default-place_of_key-clause-acts
returns-in_default-place_of_key-clause-acts g c = refused_row g.L.KeyLayout.layout c.args.self.now.seated.seat.me.0
    (action.EnterGet c.args.key) (no_get _ c.args.self.now.seated.seat.me.0.own.body c.args.key
    (named_here g.L.KeyLayout.layout c.shape.result.now c.args.self.now.seated.seat.me.0.shape c.args.key _ None
    (c.shape.ensures ∙ sym c.requires.seat.shape) c.place_of_key.ensures c.in_default-place_of_key.is))

pub enter_get-found-requires : goal.enter_get-found-requires
enter_get-found-requires g c = record {
  seat = c.requires.seat;
  may = may_enter_get _ c.args.self.now.seated.seat.me.0.own.body
      c.args.key c.in-Some.name (named_here g.L.KeyLayout.layout c.shape.result.now
      c.args.self.now.seated.seat.me.0.shape
      c.args.key _ (Some c.in-Some.name) (c.shape.ensures ∙ sym c.requires.seat.shape) c.place_of_key.ensures
      c.in-Some.is) (c.requires.hand ∙ c.in-Idle.is) (few_left c.args.self.now.seated.held.items
      c.args.self.now.seated.seat.me.0.own.body.holds c.is_full.result c.requires.kept.count
      c.requires.seat.stands.part.few_holds c.is_full.ensures.value c.if-is_full.false);
}

pub returns-in-Got-clause-busy : goal.returns-in-Got-clause-busy
returns-in-Got-clause-busy g c =
    let held : List ℕ = c.args.self.now.seated.held.items in
    let body = c.args.self.now.seated.seat.me.0.own.body in
    let left = entered_got (plan_of g.L.KeyLayout.layout c.args.self.now.seated.seat.me.0.shape) body c.args.key
    c.in-Some.name c.enter_get-found.result (answered g.L.KeyLayout.layout c.args.self.now.seated.seat.me.0.shape
    c.in-Some.name.generation c.enter_get-found.result c.guard_max.result _ answer.Got c.guard_max.ensures
    c.answer_to_get.ensures c.in-Got.is) in
    let P : List ℕ → Type 0 = λ xs. IsBusy g.L.KeyLayout.layout c.args.table.now c.enter_get-found.new.seat xs
    c.args.self.now.seated.named c.args.self.now.hand c.args.self.now.seated.number in
    subst P (sym c.push.ensures.items) (busy_with (action.EnterGet c.args.key) (move.EnterGet c.args.key c.in-Some.name)
    (held ++ c.args.key ∷ []) c.args.self.now.hand (got body c.args.key) c.requires c.enter_get-found.ensures left.0
    c.requires.hand c.requires.left
    (kept_more c.args.key held body.holds _ c.requires.kept refl))

pub returns-in-Got-clause-acts : goal.returns-in-Got-clause-acts
returns-in-Got-clause-acts g c = done (action.EnterGet c.args.key) (move.EnterGet c.args.key c.in-Some.name) refl
    (may_enter_get _ c.args.self.now.seated.seat.me.0.own.body c.args.key c.in-Some.name
    (named_here g.L.KeyLayout.layout c.shape.result.now c.args.self.now.seated.seat.me.0.shape c.args.key _
    (Some c.in-Some.name) (c.shape.ensures ∙ sym c.requires.seat.shape) c.place_of_key.ensures c.in-Some.is)
    (c.requires.hand ∙ c.in-Idle.is) (few_left c.args.self.now.seated.held.items
    c.args.self.now.seated.seat.me.0.own.body.holds
    c.is_full.result c.requires.kept.count c.requires.seat.stands.part.few_holds c.is_full.ensures.value
    c.if-is_full.false)) c.enter_get-found.ensures

pub returns-in-Crowded-clause-busy : goal.returns-in-Crowded-clause-busy
returns-in-Crowded-clause-busy g c =
    let body = c.args.self.now.seated.seat.me.0.own.body in
    let left = entered_crowded (plan_of g.L.KeyLayout.layout c.args.self.now.seated.seat.me.0.shape) body c.args.key
    c.in-Some.name c.enter_get-found.result (answered g.L.KeyLayout.layout c.args.self.now.seated.seat.me.0.shape
    c.in-Some.name.generation c.enter_get-found.result c.guard_max.result _ answer.Crowded c.guard_max.ensures
    c.answer_to_get.ensures c.in-Crowded.is) in
    busy_still (action.EnterGet c.args.key) (move.EnterGet c.args.key c.in-Some.name) (Leaving c.slot_ref.result)
    c.requires
    c.enter_get-found.ensures (left.0 ∙ ap (λ (x : SlotRef). hand body (Leaving x)) (sym c.slot_ref.ensures))

pub returns-in-Crowded-clause-acts : goal.returns-in-Crowded-clause-acts
returns-in-Crowded-clause-acts g c = done (action.EnterGet c.args.key) (move.EnterGet c.args.key c.in-Some.name) refl
    (may_enter_get _ c.args.self.now.seated.seat.me.0.own.body c.args.key c.in-Some.name
    (named_here g.L.KeyLayout.layout c.shape.result.now c.args.self.now.seated.seat.me.0.shape c.args.key _
    (Some c.in-Some.name) (c.shape.ensures ∙ sym c.requires.seat.shape) c.place_of_key.ensures c.in-Some.is)
    (c.requires.hand ∙ c.in-Idle.is) (few_left c.args.self.now.seated.held.items
    c.args.self.now.seated.seat.me.0.own.body.holds
    c.is_full.result c.requires.kept.count c.requires.seat.stands.part.few_holds c.is_full.ensures.value
    c.if-is_full.false)) c.enter_get-found.ensures

pub returns-in-Gone-clause-acts : goal.returns-in-Gone-clause-acts
returns-in-Gone-clause-acts g c = done (action.EnterGet c.args.key) (move.EnterGet c.args.key c.in-Some.name) refl
    (may_enter_get _ c.args.self.now.seated.seat.me.0.own.body c.args.key c.in-Some.name
    (named_here g.L.KeyLayout.layout c.shape.result.now c.args.self.now.seated.seat.me.0.shape c.args.key _
    (Some c.in-Some.name) (c.shape.ensures ∙ sym c.requires.seat.shape) c.place_of_key.ensures c.in-Some.is)
    (c.requires.hand ∙ c.in-Idle.is) (few_left c.args.self.now.seated.held.items
    c.args.self.now.seated.seat.me.0.own.body.holds
    c.is_full.result c.requires.kept.count c.requires.seat.stands.part.few_holds c.is_full.ensures.value
    c.if-is_full.false)) c.enter_get-found.ensures
