-- The steps that decide are those that reply.
use Rattle.std.proofs.Common.{◌≡◌, ℕ, Bool, true, false, cond, refl, sym, ap, ◌∙◌, subst, Option, Some, None}
use Rattle.std.specs.Prelude.{not, is_some}
use Rattle.sh_slots.specs.declared.hand.KeyRef.{KeyRef}
use Rattle.sh_slots.specs.declared.reply.Reply.TheVariants.{Gone}
use Rattle.sh_slots.specs.Slots.{live_at, past_at}
use Rattle.sh_step.specs.declared.action.Action.{Action}
use Rattle.sh_step.specs.declared.body.Body.{Body}
use Rattle.sh_step.specs.declared.moves.Move.{Move}
use Rattle.sh_step.specs.declared.moves.Move.TheVariants.{EnterRemove, Look}
use Rattle.sh_step.specs.Conditions.{May, action_of}
use Rattle.sh_step.specs.Deciding.{is_live, is_past, decides, DecidingStepsReply}
use Rattle.sh_step.specs.Moves.{row_of}
use Rattle.sh_step.specs.Plans.{Plan}
use Rattle.sh_step.specs.Rows.{Row}
use Rattle.sh_step.proofs.ConditionLaws.{move_of_row}

module _ (plan : Plan) (p : Body) (n : ℕ) where
  gone : (k : ℕ) (b : Bool) → is_some (cond b None (Some (Gone k))) ≡ not b
  gone k true = refl
  gone k false = refl

  -- what the key names, if it names something
  live : (k : ℕ) (x : KeyRef) → plan.keys.unpack k ≡ Some x → live_at x.generation n ≡ is_live plan k n
  live k x e = sym (ap (λ (o : Option KeyRef). elim o as (λ _. Bool)
      [ Some y ↦ live_at y.generation n | None ↦ false ]) e)

  told : (k : ℕ) (b : Bool) → is_some (cond b (Some (Gone k)) None) ≡ b
  told k true = refl
  told k false = refl

  past : (k : ℕ) (x : KeyRef) → plan.keys.unpack k ≡ Some x → past_at x.generation n ≡ is_past plan k n
  past k x e = sym (ap (λ (o : Option KeyRef). elim o as (λ _. Bool)
      [ Some y ↦ past_at y.generation n | None ↦ false ]) e)

  replies : (m : Move) → May plan p m → is_some ((row_of plan p m).reply n) ≡ decides plan (action_of plan m) n
  replies (EnterRemove k x) may = gone k (live_at x.generation n) ∙ ap not (live k x may.1.unpacks)
  replies (Look k x) may = told k (past_at x.generation n) ∙ past k x may.1.unpacks
  replies _ may = refl

pub deciding_replies : DecidingStepsReply
deciding_replies plan p x r n e =
    let d = move_of_row plan p x r e in
    subst (λ (u : Row). is_some (u.reply n) ≡ decides plan x n) (sym d.4)
    (subst (λ (y : Action). is_some ((row_of plan p d.0).reply n) ≡ decides plan y n) d.3 (replies plan p n d.0 d.2))
