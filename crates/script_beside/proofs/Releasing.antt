-- A release beside mode plain.
use Rattle.std.proofs.Common.{◌≡◌, ℕ, inl, Bool, true, false, cond}
use Rattle.std.proofs.Common.{refl, ap, sym, ◌∙◌, subst, Some, None, Result, Ok, Err}
use Rattle.std.specs.Prelude.{nat_lt}
use Rattle.sh_value.specs.declared.refusal.Refusal.{Refusal}
use Rattle.sh_value.specs.declared.refusal.Refusal.TheVariants as refusal
use Rattle.sh_history.specs.declared.entry.Entry.TheVariants.{Released}
use Rattle.sh_history.specs.Log.{logged_holds_by}
use Rattle.sh_plain.specs.Plain.{release_reply}
use Rattle.sh_script.specs.declared.calls.Reference.{Reference}
use Rattle.sh_script.specs.declared.calls.Call.TheVariants as call
use Rattle.script_output.specs.declared.answer.Answer.{Answer}
use Rattle.script_output.specs.declared.answer.Answer.TheVariants as answer
use Rattle.script_output.specs.Results.{done_answer}
use Rattle.script_models.specs.PlainRun.{HasReply}
use Rattle.script_calls.specs.Parts.{PassPart, Becomes}
use Rattle.script_calls.specs.Calls.{CallAnswers, AnswerSays, ReleaseAnswers, UnlessRefused, HoldReleased}
use Rattle.script_calls.specs.InOrder.{is_done}
use Rattle.script_beside.proofs.Issued.{AreIssued}
use Rattle.script_beside.proofs.Turns.{Turn, Ready, Stepped, plain_with, plain_before, plain_after, stays, shard_kept}
use Rattle.script_beside.proofs.Turns.{run_kept, issued_kept, gained, issued_after}
use Rattle.script_beside.proofs.OnKeys.{key_here, number_here, heap_key, by_key, keyless, held_so}

module _ (t : Turn) (r : Reference) (a : Answer) (ready : Ready t (call.Release r) a) where
  release_said : (k : Result ℕ Answer) → key_here t r ≡ k → t.w.shard ≡ t.v.shard → AreIssued t.terms.layout t.after
      → HasReply release_reply (plain_before t) k a (plain_after t) → Stepped t (call.Release r) a
  release_said k e same issued h = stays t (call.Release r) a ready same ready.names issued
      (inl (subst (λ (x : Result ℕ Answer). HasReply release_reply (plain_before t) x a (plain_after t)) (sym e) h))

  release_keyless : (b : Answer) → key_here t r ≡ Err b → heap_key t r ≡ Err b → a ≡ b → t.w ≡ t.v
      → Stepped t (call.Release r) a
  release_keyless b e f is same =
      let none = keyless t (call.Release r) a ready r b refl refl f is in
      release_said (Err b) e (ap (λ (p : PassPart). p.shard) same) (issued_kept t (call.Release r) a ready none)
      (is, run_kept t (call.Release r) a ready none)

  module _ (key : ℕ) (e : key_here t r ≡ Ok key) where
    not_held : nat_lt 0 (logged_holds_by t.v.log t.pass key) ≡ false → a ≡ answer.Refused refusal.NotHeld
        → Becomes t.v t.w → Stepped t (call.Release r) a
    not_held f is same =
        let none = ap is_done is in
        let no_hold = held_so t (call.Release r) a ready key false f in
        release_said (Ok key) e (shard_kept t.v t.w same) (issued_kept t (call.Release r) a ready none)
        (rw no_hold (is, run_kept t (call.Release r) a ready none))

    released : nat_lt 0 (logged_holds_by t.v.log t.pass key) ≡ true → (x : Result (Unit {0}) Refusal)
        → a ≡ done_answer x → HoldReleased t.pass t.v key x t.w → Stepped t (call.Release r) a
    released f (Ok x) is h =
        let at = gained t (call.Release r) a ready (ap is_done is) (Released t.pass key)
        (ap (λ (p : PassPart). p.log) h) in
        let some = held_so t (call.Release r) a ready key true f in
        release_said (Ok key) e (ap (λ (p : PassPart). p.shard) h)
        (issued_after t (call.Release r) a ready (Released t.pass key) refl at)
        (rw some (is, ap (plain_with t) at))
    released f (Err _) is h = absurd h

    release_on_key : AnswerSays done_answer (ReleaseAnswers t.terms t.pass t.v key) a t.w
        → Stepped t (call.Release r) a
    release_on_key h = go (nat_lt 0 (logged_holds_by t.v.log t.pass key)) refl h.does.0
      where
        go : (b : Bool) → nat_lt 0 (logged_holds_by t.v.log t.pass key) ≡ b
            → UnlessRefused (cond b None (Some refusal.NotHeld)) h.result (Becomes t.v t.w)
            (HoldReleased t.pass t.v key h.result t.w) → Stepped t (call.Release r) a
        go true f d = released f h.result h.is d
        go false f d = not_held f (h.is ∙ ap done_answer d.0) d.1

  pub release_step : CallAnswers t.terms t.tag t.pass t.v (call.Release r) (number_here t r) a t.w
      → Stepped t (call.Release r) a
  release_step h = by_key t r a (λ key. AnswerSays done_answer (ReleaseAnswers t.terms t.pass t.v key))
      (Stepped t (call.Release r) a) ready.names release_keyless release_on_key h
