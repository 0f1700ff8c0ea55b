-- A remove beside mode plain.
use Rattle.std.proofs.Common.{◌≡◌, ℕ, inl, Bool, true, false, cond, List}
use Rattle.std.proofs.Common.{refl, ap, sym, ◌∙◌, subst, Option, Some, None, Result, Ok, Err}
use Rattle.sh_value.specs.declared.refusal.Refusal.{Refusal}
use Rattle.sh_value.specs.declared.refusal.Refusal.TheVariants as refusal
use Rattle.sh_history.specs.declared.entry.Entry.TheVariants.{Gone, Removed}
use Rattle.sh_history.specs.History.{value_of, present_value}
use Rattle.sh_history.proofs.Laws.{some_value}
use Rattle.sh_plain.specs.Plain.{with_added, remove_reply, removed_reply}
use Rattle.sh_script.specs.declared.calls.Reference.{Reference}
use Rattle.sh_script.specs.declared.calls.Call.TheVariants as call
use Rattle.script_output.specs.declared.answer.Answer.{Answer}
use Rattle.script_output.specs.declared.answer.Answer.TheVariants as answer
use Rattle.script_output.specs.Results.{done_answer}
use Rattle.script_models.specs.PlainRun.{HasReply}
use Rattle.script_calls.specs.Parts.{PassPart, Becomes, is_placed_key}
use Rattle.script_calls.specs.Calls.{CallAnswers, AnswerSays, RemoveAnswers, UnlessRefused, KeyRemoved}
use Rattle.script_calls.specs.InOrder.{is_done_or_gone}
use Rattle.script_beside.specs.Beside.{WherePlaced, IfPlaced}
use Rattle.script_beside.proofs.Issued.{AreIssued}
use Rattle.script_beside.proofs.Turns.{Turn, Ready, Stepped, plain_with, plain_before, plain_after, stays, shard_kept}
use Rattle.script_beside.proofs.Turns.{run_kept, issued_kept, gained, allowed_last, issued_after}
use Rattle.script_beside.proofs.OnKeys.{present_here, present_gone, placed_is_key, key_here, number_here}
use Rattle.script_beside.proofs.OnKeys.{heap_key, by_key, keyless, placeless}

module _ (t : Turn) (r : Reference) (a : Answer) (ready : Ready t (call.Remove r) a) where
  -- the answer of mode plain to this remove of this key
  abbrev RemoveSays : Result ℕ Answer → Type 0
  RemoveSays k = WherePlaced t.terms.layout t.terms.shape k
      (HasReply (remove_reply t.terms.layout) (plain_before t) k a (plain_after t)) (plain_before t) a (plain_after t)

  remove_said : (k : Result ℕ Answer) → key_here t r ≡ k → t.w.shard ≡ t.v.shard → AreIssued t.terms.layout t.after
      → RemoveSays k → Stepped t (call.Remove r) a
  remove_said k e same issued h = stays t (call.Remove r) a ready same ready.names issued
      (inl (subst RemoveSays (sym e) h))

  remove_keyless : (b : Answer) → key_here t r ≡ Err b → heap_key t r ≡ Err b → a ≡ b → t.w ≡ t.v
      → Stepped t (call.Remove r) a
  remove_keyless b e f is same =
      let none = keyless t (call.Remove r) a ready r b refl refl f is in
      remove_said (Err b) e (ap (λ (p : PassPart). p.shard) same) (issued_kept t (call.Remove r) a ready none)
      (is, run_kept t (call.Remove r) a ready none)

  module _ (key : ℕ) (e : key_here t r ≡ Ok key) where
    abbrev RemoveTells : Type 0
    RemoveTells = HasReply (remove_reply t.terms.layout) (plain_before t) (Ok key) a (plain_after t)

    remove_placeless : is_placed_key t.terms.layout t.terms.shape key ≡ false → a ≡ answer.Refused refusal.BadKey
        → Becomes t.v t.w → Stepped t (call.Remove r) a
    remove_placeless f is same =
        let none = ap is_done_or_gone is in
        remove_said (Ok key) e (shard_kept t.v t.w same) (issued_kept t (call.Remove r) a ready none)
        (placeless t (call.Remove r) a ready key RemoveTells f is none)

    module _ (f : is_placed_key t.terms.layout t.terms.shape key ≡ true) where
      -- its reply, by the value that the key has
      remove_by_value : (o : Option (List ℕ)) → present_value t.before key ≡ o
          → (a ≡ done_answer (removed_reply (plain_before t).store key o).answer)
          × (plain_after t ≡ record (plain_before t) {
            store = with_added (plain_before t).store (removed_reply (plain_before t).store key o).adds;
          }) → RemoveTells
      remove_by_value o here h =
          let is_key = placed_is_key t.terms.layout t.terms.shape key f in
          rw (is_key, here) h

      remove_placed : t.w.shard ≡ t.v.shard → AreIssued t.terms.layout t.after → RemoveTells
          → Stepped t (call.Remove r) a
      remove_placed same issued tells = remove_said (Ok key) e same issued
          (subst (λ (b : Bool). IfPlaced b RemoveTells (plain_before t) a (plain_after t)) (sym f) tells)

      removed : (x : Result (Unit {0}) Refusal) → a ≡ done_answer x → KeyRemoved t.pass t.v key x t.w
          → Stepped t (call.Remove r) a
      removed (Ok x) is h =
          let at = gained t (call.Remove r) a ready (ap is_done_or_gone is) (Removed t.pass key)
          (ap (λ (p : PassPart). p.log) h) in
          let ok = allowed_last t (call.Remove r) a ready (Removed t.pass key) at in
          let has = some_value (value_of t.before key) ok.0 in
          remove_placed (ap (λ (p : PassPart). p.shard) h)
          (issued_after t (call.Remove r) a ready (Removed t.pass key) refl at)
          (remove_by_value (Some has.0) (present_here t.before key has.0 has.1 ok.1) (is, ap (plain_with t) at))
      removed (Err refusal.Gone) is h =
          let at = gained t (call.Remove r) a ready (ap is_done_or_gone is) (Gone t.pass key)
          (ap (λ (p : PassPart). p.log) h) in
          let ok = allowed_last t (call.Remove r) a ready (Gone t.pass key) at in
          remove_placed (ap (λ (p : PassPart). p.shard) h)
          (issued_after t (call.Remove r) a ready (Gone t.pass key) refl at)
          (remove_by_value None (present_gone t.before key ok) (is, ap (plain_with t) at))
      removed (Err _) is h = absurd h

    remove_on_key : AnswerSays done_answer (RemoveAnswers t.terms t.pass t.v key) a t.w → Stepped t (call.Remove r) a
    remove_on_key h = go (is_placed_key t.terms.layout t.terms.shape key) refl h.does.0
      where
        go : (b : Bool) → is_placed_key t.terms.layout t.terms.shape key ≡ b
            → UnlessRefused (cond b None (Some refusal.BadKey)) h.result (Becomes t.v t.w)
            (KeyRemoved t.pass t.v key h.result t.w) → Stepped t (call.Remove r) a
        go true f d = removed f h.result h.is d
        go false f d = remove_placeless f (h.is ∙ ap done_answer d.0) d.1

  pub remove_step : CallAnswers t.terms t.tag t.pass t.v (call.Remove r) (number_here t r) a t.w
      → Stepped t (call.Remove r) a
  remove_step h = by_key t r a (λ key. AnswerSays done_answer (RemoveAnswers t.terms t.pass t.v key))
      (Stepped t (call.Remove r) a) ready.names remove_keyless remove_on_key h
