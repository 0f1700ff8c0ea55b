-- What a call does to the log of its pass, and what that says of the log before it.
use Rattle.std.proofs.Common.{◌≡◌, ◌≢◌, ℕ, ◌==◌, ◌⊎◌, inl, inr, Bool, true, false, cond, List, [], ◌∷◌, ◌++◌, map, refl}
use Rattle.std.proofs.Common.{ap, sym, ◌∙◌, subst, append-nil, eq-eqb, ne_eqb, Option, Some, None}
use Rattle.std.proofs.Common.{Result, Ok, Err}
use Rattle.std.specs.List.{AllZip}
use Rattle.std.proofs.lemmas.List.Elements.{filter-append}
use Rattle.sh_value.specs.declared.hold.Hold.{Hold}
use Rattle.sh_value.specs.declared.refusal.Refusal.{Refusal}
use Rattle.sh_value.specs.declared.refusal.Refusal.TheVariants as refusal
use Rattle.sh_history.specs.declared.entry.Entry.{Entry}
use Rattle.sh_history.specs.declared.entry.Entry.TheVariants.{Got}
use Rattle.sh_history.specs.declared.log.LogEntry.{LogEntry}
use Rattle.sh_history.specs.declared.log.LogEntry.TheVariants.{Known, Unread}
use Rattle.sh_history.specs.Log.{Agrees, pass_of, entries_of, filled}
use Rattle.sh_script.specs.declared.calls.Reference.TheVariants as reference
use Rattle.sh_script.specs.declared.calls.Call.{Call}
use Rattle.sh_script.specs.declared.calls.Call.TheVariants as call
use Rattle.script_output.specs.declared.answer.Answer.{Answer}
use Rattle.script_output.specs.declared.answer.Answer.TheVariants as answer
use Rattle.script_output.specs.Results.{done_answer, key_answer}
use Rattle.script_calls.specs.Parts.{RunTerms, PassPart, Becomes, with_entry}
use Rattle.script_calls.specs.Calls.{CallAnswers, UnlessRefused, OnKey, key_meant, PartAdopted, PartLeft, ValueInserted}
use Rattle.script_calls.specs.Calls.{HoldGot, ValueRead, HoldReleased, KeyRemoved, adopt_refusal, needs_shard}
use Rattle.script_calls.specs.Calls.{words_refusal, get_refusal, hold_refusal, remove_refusal}
use Rattle.script_calls.specs.InOrder.{adds_entry, is_done_gone_or_crowded, is_done_or_gone, is_done, is_key}
use Rattle.script_calls.proofs.GrowLemmas.{get_first, remove_first, no_key}

-- one entry more, or none: then values of gets may have been read
abbrev pub Gains : Bool → List LogEntry → List LogEntry → Type 0
Gains true old new = (x : LogEntry) × (new ≡ old ++ x ∷ [])
Gains false old new = (new ≡ old) ⊎ ((key : ℕ) × (value : List ℕ) × (new ≡ map (filled key value) old))

abbrev More : PassPart → PassPart → Bool → Type 0
More v w b = Gains b v.log w.log

log_stays : (v w : PassPart) → Becomes v w → More v w false
log_stays v w e = inl (ap (λ (p : PassPart). p.log) e)

same_part : (v w : PassPart) → w ≡ v → More v w false
same_part v w e = inl (ap (λ (p : PassPart). p.log) e)

entry_more : (v w : PassPart) (e : LogEntry) → Becomes (with_entry v e) w → More v w true
entry_more v w e is = (e, ap (λ (p : PassPart). p.log) is)

-- a refusal that comes first adds nothing, if answers with a refusal add no entry
unless_gains : {A : Type 0} (first : Option Refusal) (v : PassPart) (r : Result A Refusal) (w : PassPart)
    (Unchanged Rest : Type 0) (adds : Result A Refusal → Bool) → (Unchanged → More v w false)
    → ((e : Refusal) → first ≡ Some e → adds (Err e) ≡ false) → (Rest → More v w (adds r))
    → UnlessRefused first r Unchanged Rest → More v w (adds r)
unless_gains None v r w Unchanged Rest adds same none rest h = rest h
unless_gains (Some e) v r w Unchanged Rest adds same none rest h = subst (More v w) (sym (ap adds h.0 ∙ none e refl))
    (same h.1)

adopt_gains : (v w : PassPart) (shard : ℕ) (r : Result (Unit {0}) Refusal) → PartAdopted v shard r w → More v w false
adopt_gains v w shard (Ok x) e = inl (ap (λ (p : PassPart). p.log) e)
adopt_gains v w shard (Err refusal.Taken) e = log_stays v w e
adopt_gains v w shard (Err refusal.Memory) e = log_stays v w e
adopt_gains v w shard (Err _) e = absurd e

leave_gains : (v w : PassPart) (r : Result (Unit {0}) Refusal) → PartLeft v r w → More v w false
leave_gains v w (Ok x) e = inl (ap (λ (p : PassPart). p.log) e)
leave_gains v w (Err refusal.Waiting) e = log_stays v w e
leave_gains v w (Err _) e = absurd e

module _ (terms : RunTerms) (tag : Option ℕ) (pass : ℕ) (v w : PassPart) where
  insert_gains : (words : List ℕ) (r : Result ℕ Refusal) → ValueInserted terms pass v words r w
      → More v w (is_key (key_answer tag r))
  insert_gains words (Ok key) h = entry_more v w _ h.1
  insert_gains words (Err refusal.Full) e = log_stays v w e
  insert_gains words (Err refusal.Memory) e = log_stays v w e
  insert_gains words (Err _) e = absurd e

  get_gains : (key : ℕ) (r : Result Hold Refusal) → HoldGot pass v key r w
      → More v w (is_done_gone_or_crowded (done_answer r))
  get_gains key (Ok hold) h = entry_more v w h.1.0 h.1.2
  get_gains key (Err refusal.Gone) e = entry_more v w _ e
  get_gains key (Err refusal.Crowded) e = entry_more v w _ e
  get_gains key (Err _) e = absurd e

  read_gains : (key : ℕ) (r : Result (List ℕ) Refusal) → ValueRead v key r w → More v w false
  read_gains key (Ok value) h = inr (key, value, ap (λ (p : PassPart). p.log) h.0)
  read_gains key (Err _) e = absurd e

  release_gains : (key : ℕ) (r : Result (Unit {0}) Refusal) → HoldReleased pass v key r w
      → More v w (is_done (done_answer r))
  release_gains key (Ok x) e = entry_more v w _ e
  release_gains key (Err _) e = absurd e

  remove_gains : (key : ℕ) (r : Result (Unit {0}) Refusal) → KeyRemoved pass v key r w
      → More v w (is_done_or_gone (done_answer r))
  remove_gains key (Ok x) e = entry_more v w _ e
  remove_gains key (Err refusal.Gone) e = entry_more v w _ e
  remove_gains key (Err _) e = absurd e

key_gains : (k : Result ℕ Answer) (v w : PassPart) (a : Answer) (C : ℕ → Answer → PassPart → Type 0) (f : Answer → Bool)
    → ((b : Answer) → k ≡ Err b → f b ≡ false) → ((key : ℕ) → C key a w → More v w (f a)) → OnKey k v C a w
    → More v w (f a)
key_gains (Err b) v w a C f none some h = subst (More v w) (sym (ap f h.0 ∙ none b refl)) (same_part v w h.1)
key_gains (Ok key) v w a C f none some h = some key h

-- the number of entries is that which the answer says
pub gains : (terms : RunTerms) (tag : Option ℕ) (pass : ℕ) (v : PassPart) (c : Call) (bound : Option ℕ) (a : Answer)
    (w : PassPart) → CallAnswers terms tag pass v c bound a w → Gains (adds_entry c a) v.log w.log
gains terms tag pass v (call.Adopt shard) bound a w h =
    unless_gains (adopt_refusal terms v.shard shard) v h.result w _ _ (λ _. false) (log_stays v w) (λ e f. refl)
    (adopt_gains v w shard h.result) h.does.0
gains terms tag pass v call.Leave bound a w h = unless_gains (needs_shard v.shard) v h.result w _ _ (λ _. false)
    (log_stays v w) (λ e f. refl) (leave_gains v w h.result) h.does.0
gains terms tag pass v (call.Insert words) bound a w h = subst (λ x. More v w (is_key x)) (sym h.is)
    (unless_gains (words_refusal words) v h.result w _ _ (λ r. is_key (key_answer tag r)) (same_part v w) (λ e f. refl)
    (λ k. unless_gains (needs_shard v.shard) v h.result w _ _ (λ r. is_key (key_answer tag r)) (log_stays v w)
    (λ e f. refl) (insert_gains terms tag pass v w words h.result) k.0) h.does)
gains terms tag pass v (call.Get r) bound a w h = key_gains (key_meant tag bound r) v w a _ is_done_gone_or_crowded
    (no_key is_done_gone_or_crowded refl refl tag bound r)
    (λ key k. subst (λ x. More v w (is_done_gone_or_crowded x)) (sym k.is)
    (unless_gains (get_refusal terms pass v key) v k.result w _ _ (λ r. is_done_gone_or_crowded (done_answer r))
    (log_stays v w) (get_first _ _) (get_gains terms tag pass v w key k.result) k.does.0)) h
gains terms tag pass v (call.Read r) bound a w h = key_gains (key_meant tag bound r) v w a _ (λ _. false)
    (λ b e. refl) (λ key k. unless_gains (hold_refusal pass v key) v k.result w _ _ (λ _. false) (log_stays v w)
    (λ e f. refl) (read_gains terms tag pass v w key k.result) k.does.0) h
gains terms tag pass v (call.Remove r) bound a w h = key_gains (key_meant tag bound r) v w a _ is_done_or_gone
    (no_key is_done_or_gone refl refl tag bound r) (λ key k. subst (λ x. More v w (is_done_or_gone x)) (sym k.is)
    (unless_gains (remove_refusal terms key) v k.result w _ _ (λ r. is_done_or_gone (done_answer r)) (log_stays v w)
    (remove_first _) (remove_gains terms tag pass v w key k.result) k.does.0)) h
gains terms tag pass v (call.Release r) bound a w h = key_gains (key_meant tag bound r) v w a _ is_done
    (no_key is_done refl refl tag bound r) (λ key k. subst (λ x. More v w (is_done x)) (sym k.is)
    (unless_gains (hold_refusal pass v key) v k.result w _ _ (λ r. is_done (done_answer r)) (log_stays v w)
    (λ e f. refl) (release_gains terms tag pass v w key k.result) k.does.0)) h
gains terms tag pass v call.Post bound a w h = same_part v w h.1
gains terms tag pass v (call.Wait name) bound a w h = same_part v w h.1

-- ---- the log before, by the log after

unfilled_if : (b : Bool) (key : ℕ) (value : List ℕ) (p k : ℕ) (e : Entry)
    → Agrees (cond b (Known (Got p k value)) (Unread p k)) e → Agrees (Unread p k) e
unfilled_if true key value p k e h = (value, h)
unfilled_if false key value p k e h = h

unfilled : (key : ℕ) (value : List ℕ) (log : List LogEntry) (es : List Entry)
    → AllZip Agrees (map (filled key value) log) es → AllZip Agrees log es
unfilled key value [] [] h = tt
unfilled key value [] (e ∷ es) h = absurd h
unfilled key value (x ∷ log) [] h = absurd h
unfilled key value (Known f ∷ log) (e ∷ es) h = (h.0, unfilled key value log es h.1)
unfilled key value (Unread p k ∷ log) (e ∷ es) h = (
  unfilled_if (k == key) key value p k e h.0,
  unfilled key value log es h.1,
)

too_long : (log : List LogEntry) (x : LogEntry) → AllZip Agrees (log ++ x ∷ []) [] → ⊥
too_long [] x h = h
too_long (y ∷ log) x h = h

too_short : (es : List Entry) (e : Entry) → AllZip Agrees [] (es ++ e ∷ []) → ⊥
too_short [] e h = h
too_short (f ∷ es) e h = h

-- the last entries agree, and those before them
pub last_agrees : (log : List LogEntry) (x : LogEntry) (es : List Entry) (e : Entry)
    → AllZip Agrees (log ++ x ∷ []) (es ++ e ∷ []) → AllZip Agrees log es × Agrees x e
last_agrees [] x [] e h = (tt, h.0)
last_agrees [] x (f ∷ es) e h = absurd (too_short es e h.1)
last_agrees (y ∷ log) x [] e h = absurd (too_long log x h.1)
last_agrees (y ∷ log) x (f ∷ es) e h = let r = last_agrees log x es e h.1 in ((h.0, r.0), r.1)

-- ---- the history, with the entry that a line adds

-- the history after a line of this pass
abbrev pub Grown : Bool → ℕ → List Entry → List Entry → Type 0
Grown false pass before after = after ≡ before
Grown true pass before after = (e : Entry) × (after ≡ before ++ e ∷ []) × (pass_of e ≡ pass)

own_last : (es : List Entry) (e : Entry) (q : ℕ) → pass_of e ≡ q → entries_of (λ p. p == q) (es ++ e ∷ [])
    ≡ entries_of (λ p. p == q) es ++ e ∷ []
own_last es e q is = filter-append (λ (x : Entry). pass_of x == q) es (e ∷ [])
    ∙ ap (λ (b : Bool). entries_of (λ p. p == q) es ++ cond b (e ∷ []) []) (eq-eqb (pass_of e) q is)

other_last : (es : List Entry) (e : Entry) (q : ℕ) → pass_of e ≢ q → entries_of (λ p. p == q) (es ++ e ∷ [])
    ≡ entries_of (λ p. p == q) es
other_last es e q ne = filter-append (λ (x : Entry). pass_of x == q) es (e ∷ [])
    ∙ (ap (λ (b : Bool). entries_of (λ p. p == q) es ++ cond b (e ∷ []) []) (ne_eqb (pass_of e) q ne)
    ∙ append-nil (entries_of (λ p. p == q) es))

-- this log of a pass has the pass's entries of the history
abbrev pub LogIs : ℕ → List LogEntry → List Entry → Type 0
LogIs q log es = AllZip Agrees log (entries_of (λ p. p == q) es)

-- if the log after the line has the entries after it, so has the log before it, and what was added agrees
pub own_before : (b : Bool) (pass : ℕ) (old new : List LogEntry) (before after : List Entry) → Gains b old new
    → Grown b pass before after → LogIs pass new after → LogIs pass old before
own_before false pass old new before after (inl e) grown h =
    subst (LogIs pass old) grown (subst (λ (l : List LogEntry). LogIs pass l after) e h)
own_before false pass old new before after (inr f) grown h =
    subst (LogIs pass old) grown (unfilled f.0 f.1 old _ (subst (λ (l : List LogEntry). LogIs pass l after) f.2 h))
own_before true pass old new before after g grown h =
    let at : AllZip Agrees (old ++ g.0 ∷ []) (entries_of (λ p. p == pass) (before ++ grown.0 ∷ [])) =
    subst (LogIs pass (old ++ g.0 ∷ [])) grown.1 (subst (λ (l : List LogEntry). LogIs pass l after) g.1 h) in
    (last_agrees old g.0 (entries_of (λ p. p == pass) before) grown.0
    (subst (AllZip Agrees (old ++ g.0 ∷ [])) (own_last before grown.0 pass grown.2) at)).0

pub added_agrees : (pass : ℕ) (old : List LogEntry) (x : LogEntry) (new : List LogEntry) (before after : List Entry)
    → new ≡ old ++ x ∷ [] → (grown : Grown true pass before after) → LogIs pass new after → Agrees x grown.0
added_agrees pass old x new before after is grown h =
    let at : AllZip Agrees (old ++ x ∷ []) (entries_of (λ p. p == pass) (before ++ grown.0 ∷ [])) =
    subst (LogIs pass (old ++ x ∷ [])) grown.1 (subst (λ (l : List LogEntry). LogIs pass l after) is h) in
    (last_agrees old x (entries_of (λ p. p == pass) before) grown.0
    (subst (AllZip Agrees (old ++ x ∷ [])) (own_last before grown.0 pass grown.2) at)).1

-- the entries of another pass are as they were
pub other_before : (b : Bool) (pass q : ℕ) (log : List LogEntry) (before after : List Entry) → q ≢ pass
    → Grown b pass before after → LogIs q log after → LogIs q log before
other_before false pass q log before after ne grown h = subst (LogIs q log) grown h
other_before true pass q log before after ne grown h =
    subst (AllZip Agrees log) (other_last before grown.0 q (λ e. ne (sym e ∙ grown.2))) (subst (LogIs q log) grown.1 h)
