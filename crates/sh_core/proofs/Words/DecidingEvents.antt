-- An event that decides a call replies, and no other event does.
use Rattle.std.proofs.Common.{◌≡◌, ℕ, Bool, true, false, List, refl, sym, subst, ap, Option, Some, None, slice_get}
use Rattle.std.specs.Prelude.{is_some}
use Rattle.sh_slots.specs.declared.reply.Reply.{Reply}
use Rattle.sh_step.specs.declared.action.Event.{Event}
use Rattle.sh_step.specs.declared.body.Body.{Body}
use Rattle.sh_step.specs.Deciding.{decides}
use Rattle.sh_step.specs.Moves.{row}
use Rattle.sh_step.specs.Rows.{Row}
use Rattle.sh_step.proofs.DecidingLaws.{deciding_replies}
use Rattle.sh_core.specs.declared.outcome.Outcome.{Outcome}
use Rattle.sh_core.specs.Words.{read}
use Rattle.sh_core.specs.Worlds.{World, step, apply, entry, entry_of, joined, value_at_place}
use Rattle.sh_core.specs.Outcomes.{row_of_event, outcome_of, done, IsTold, DecidingEventsReply}
use Rattle.sh_core.proofs.Words.Steps.{step_moves}
use Rattle.sh_core.proofs.Words.Stepping.{outcome_done}
use Rattle.sh_core.proofs.Kept.LastGenerations.{of_its_pass}

-- by whether something is replied
told : (w : World) (e : Event) (v : List ℕ) (r : Option Reply) (b : Bool) (after : World) → is_some r ≡ b → after.log
    ≡ joined w.log (entry_of e.pass v r) → IsTold b w after e (done (entry_of e.pass v r))
told w e v (Some r) true after is log = (entry e.pass v r, refl, of_its_pass e.pass v r, log)
told w e v None false after is log = (refl, log)
told w e v (Some r) false after is log = absurd (let z : true ≡ false = is in cc)
told w e v None true after is log = absurd (let z : false ≡ true = is in cc)

pub deciding_events : DecidingEventsReply
unfolding row_of_event apply
deciding_events plan w e m is = go (slice_get w.parts e.pass) refl is where
  v : List ℕ
  v = value_at_place w.words m.place

  found : ℕ
  found = read w.words m.place

  go : (o : Option Body) → slice_get w.parts e.pass ≡ o
      → (elim o as (λ _. Option Row) [ Some p ↦ row plan p e.action | None ↦ None ]) ≡ Some m
      → IsTold (decides plan e.action found) w (step plan w e) e (outcome_of plan w e)
  go None at h = absurd (let z : None ≡ Some m = h in cc)
  go (Some p) at h =
      let P : Outcome → Type 0 = λ u. IsTold (decides plan e.action found) w (step plan w e) e u in
      subst P (sym (outcome_done plan w e m is))
      (told w e v (m.reply found) (decides plan e.action found) (step plan w e)
      (deciding_replies plan p e.action m found h)
      (ap (λ (u : World). u.log) (step_moves plan w e p m at h)))
