-- How much a call adds to the log of its pass, and that it keeps the rest.
use Rattle.std.proofs.Common.{◌≡◌, ℕ, zero, suc, ◌+◌, Bool, true, false, cond, List, [], ◌∷◌, length, map, slice_get}
use Rattle.std.proofs.Common.{refl, ap, sym, ◌∙◌}
use Rattle.std.proofs.Common.{Option, Some, None, Result, Ok, Err, length-append, arith, subst}
use Rattle.sh_value.specs.declared.hold.Hold.{Hold}
use Rattle.sh_value.specs.declared.refusal.Refusal.{Refusal}
use Rattle.sh_value.specs.declared.refusal.Refusal.TheVariants as refusal
use Rattle.sh_history.specs.declared.entry.Entry.{Entry}
use Rattle.sh_history.specs.declared.log.LogEntry.{LogEntry}
use Rattle.sh_history.specs.declared.log.LogEntry.TheVariants.{Known}
use Rattle.sh_history.specs.Log.{filled}
use Rattle.std.specs.Prelude.{ok_or}
use Rattle.sh_script.specs.declared.calls.Reference.{Reference}
use Rattle.sh_script.specs.declared.calls.Reference.TheVariants as reference
use Rattle.script_output.specs.Keys.{key_shown}
use Rattle.sh_script.specs.declared.calls.Call.{Call}
use Rattle.sh_script.specs.declared.calls.Call.TheVariants as call
use Rattle.script_output.specs.declared.answer.Answer.{Answer}
use Rattle.script_output.specs.declared.answer.Answer.TheVariants as answer
use Rattle.script_calls.specs.Parts.{RunTerms, PassPart, Becomes, with_entry}
use Rattle.script_output.specs.Results.{done_answer, key_answer}
use Rattle.script_calls.specs.Calls.{CallAnswers, UnlessRefused, OnKey, key_meant, PartAdopted}
use Rattle.script_calls.specs.Calls.{PartLeft, ValueInserted, HoldGot}
use Rattle.script_calls.specs.Calls.{ValueRead, HoldReleased, KeyRemoved}
use Rattle.script_calls.specs.Calls.{adopt_refusal, needs_shard, words_refusal, get_refusal, hold_refusal}
use Rattle.script_calls.specs.Calls.{remove_refusal}
use Rattle.script_calls.specs.InOrder.{adds_entry, is_done_gone_or_crowded, is_done_or_gone, is_done, is_key}
use Rattle.std.proofs.lemmas.Option.{none-some, same_Some}
use Rattle.script_calls.proofs.Newcomers.{length_map}
use Rattle.sh_history.proofs.ByPlace.{get_front}

-- what was known stays, in its place
abbrev pub KeepsKnown : List LogEntry → List LogEntry → Type 0
KeepsKnown xs ys = (k : ℕ) (e : Entry) → slice_get xs k ≡ Some (Known e) → slice_get ys k ≡ Some (Known e)

-- the log is longer by one entry or by none, and what was known stays
abbrev Grows : PassPart → PassPart → Bool → Type 0
Grows v w b = (length w.log ≡ length v.log + cond b 1 0) × KeepsKnown v.log w.log

no_more : (v w : PassPart) → w.log ≡ v.log → Grows v w false
no_more v w is = (
  (let z : length w.log ≡ length v.log = ap (λ (l : List LogEntry). length l) is in omega (arith, z)),
  λ k e at. subst (λ (l : List LogEntry). slice_get l k ≡ Some (Known e)) (sym is) at,
)

same_log : (v w : PassPart) → Becomes v w → Grows v w false
same_log v w e = no_more v w (ap (λ (p : PassPart). p.log) e)

same_part : (v w : PassPart) → w ≡ v → Grows v w false
same_part v w e = no_more v w (ap (λ (p : PassPart). p.log) e)

entry_more : (v w : PassPart) (e : LogEntry) → Becomes (with_entry v e) w → Grows v w true
entry_more v w e is = (
  ap (λ (p : PassPart). length p.log) is ∙ length-append v.log (e ∷ []),
  λ k x at. subst (λ (p : PassPart). slice_get p.log k ≡ Some (Known x)) (sym is)
      (get_front v.log (e ∷ []) k (Known x) at),
)

filled_keeps : (key : ℕ) (value : List ℕ) (xs : List LogEntry) → KeepsKnown xs (map (filled key value) xs)
filled_keeps key value [] k e at = absurd (none-some (Known e) at)
filled_keeps key value (x ∷ xs) zero e at = ap (λ (z : LogEntry). Some (filled key value z)) (same_Some x (Known e) at)
filled_keeps key value (x ∷ xs) (suc k) e at = filled_keeps key value xs k e at

-- a refusal that comes first adds nothing, if answers with a refusal add no entry
unless : {A : Type 0} (first : Option Refusal) (v : PassPart) (r : Result A Refusal) (w : PassPart)
    (Unchanged Rest : Type 0) (adds : Result A Refusal → Bool) → (Unchanged → Grows v w false)
    → ((e : Refusal) → first ≡ Some e → adds (Err e) ≡ false) → (Rest → Grows v w (adds r))
    → UnlessRefused first r Unchanged Rest → Grows v w (adds r)
unless None v r w Unchanged Rest adds same none rest h = rest h
unless (Some e) v r w Unchanged Rest adds same none rest h = subst (Grows v w) (sym (ap adds h.0 ∙ none e refl))
    (same h.1)

adopts : (v w : PassPart) (shard : ℕ) (r : Result (Unit {0}) Refusal) → PartAdopted v shard r w → Grows v w false
adopts v w shard (Ok x) e = no_more v w (ap (λ (p : PassPart). p.log) e)
adopts v w shard (Err refusal.Taken) e = same_log v w e
adopts v w shard (Err refusal.Memory) e = same_log v w e
adopts v w shard (Err _) e = absurd e

leaves : (v w : PassPart) (r : Result (Unit {0}) Refusal) → PartLeft v r w → Grows v w false
leaves v w (Ok x) e = no_more v w (ap (λ (p : PassPart). p.log) e)
leaves v w (Err refusal.Waiting) e = same_log v w e
leaves v w (Err _) e = absurd e

module _ (terms : RunTerms) (tag : Option ℕ) (pass : ℕ) (v w : PassPart) where
  inserts : (words : List ℕ) (r : Result ℕ Refusal) → ValueInserted terms pass v words r w
      → Grows v w (is_key (key_answer tag r))
  inserts words (Ok key) h = entry_more v w _ h.1
  inserts words (Err refusal.Full) e = same_log v w e
  inserts words (Err refusal.Memory) e = same_log v w e
  inserts words (Err _) e = absurd e

  gets : (key : ℕ) (r : Result Hold Refusal) → HoldGot pass v key r w
      → Grows v w (is_done_gone_or_crowded (done_answer r))
  gets key (Ok hold) h = entry_more v w h.1.0 h.1.2
  gets key (Err refusal.Gone) e = entry_more v w _ e
  gets key (Err refusal.Crowded) e = entry_more v w _ e
  gets key (Err _) e = absurd e

  reads : (key : ℕ) (r : Result (List ℕ) Refusal) → ValueRead v key r w → Grows v w false
  reads key (Ok value) h = (
    (let z : length w.log ≡ length v.log = ap (λ (p : PassPart). length p.log) h.0
        ∙ length_map (filled key value) v.log in omega (arith, z)),
    λ k e at. subst (λ (p : PassPart). slice_get p.log k ≡ Some (Known e)) (sym h.0)
        (filled_keeps key value v.log k e at),
  )
  reads key (Err _) e = absurd e

  releases : (key : ℕ) (r : Result (Unit {0}) Refusal) → HoldReleased pass v key r w
      → Grows v w (is_done (done_answer r))
  releases key (Ok x) e = entry_more v w _ e
  releases key (Err _) e = absurd e

  removes : (key : ℕ) (r : Result (Unit {0}) Refusal) → KeyRemoved pass v key r w
      → Grows v w (is_done_or_gone (done_answer r))
  removes key (Ok x) e = entry_more v w _ e
  removes key (Err refusal.Gone) e = entry_more v w _ e
  removes key (Err _) e = absurd e

-- which refusals come first
same_refusal : (x e : Refusal) → Some x ≡ Some e → x ≡ e
same_refusal x e h = cc

pub get_first : (b c : Bool) (e : Refusal)
    → cond b (Some refusal.BadKey) (cond c (Some refusal.HoldsFull) None) ≡ Some e
    → is_done_gone_or_crowded (answer.Refused e) ≡ false
get_first true c e h = subst (λ z. is_done_gone_or_crowded (answer.Refused z) ≡ false)
    (same_refusal refusal.BadKey e h) refl
get_first false true e h = subst (λ z. is_done_gone_or_crowded (answer.Refused z) ≡ false)
    (same_refusal refusal.HoldsFull e h) refl
get_first false false e h = absurd (let z : None ≡ Some e = h in cc)

pub remove_first : (b : Bool) (e : Refusal) → cond b None (Some refusal.BadKey) ≡ Some e
    → is_done_or_gone (answer.Refused e) ≡ false
remove_first true e h = absurd (let z : None ≡ Some e = h in cc)
remove_first false e h = subst (λ z. is_done_or_gone (answer.Refused z) ≡ false) (same_refusal refusal.BadKey e h) refl

-- if there is no key, no entry is added
pub no_key : (f : Answer → Bool) → f answer.Unbound ≡ false → f (answer.Refused refusal.BadKey) ≡ false
    → (tag : Option ℕ) (bound : Option ℕ) (r : Reference) (b : Answer) → key_meant tag bound r ≡ Err b → f b ≡ false
no_key f unbound bad tag bound (reference.Key n) b e = number (key_shown tag n) e where
  number : (o : Option ℕ) → ok_or o (answer.Refused refusal.BadKey) ≡ Err b → f b ≡ false
  number None e = let z : answer.Refused refusal.BadKey ≡ b = cc in subst (λ x. f x ≡ false) z bad
  number (Some k) e = absurd (let z : Ok k ≡ Err b = e in cc)
no_key f unbound bad tag None (reference.Name i) b e = let z : answer.Unbound ≡ b = cc
    in subst (λ x. f x ≡ false) z unbound
no_key f unbound bad tag (Some n) (reference.Name i) b e = number (key_shown tag n) e where
  number : (o : Option ℕ) → ok_or o (answer.Refused refusal.BadKey) ≡ Err b → f b ≡ false
  number None e = let z : answer.Refused refusal.BadKey ≡ b = cc in subst (λ x. f x ≡ false) z bad
  number (Some k) e = absurd (let z : Ok k ≡ Err b = e in cc)

on_key : (k : Result ℕ Answer) (v w : PassPart) (a : Answer) (C : ℕ → Answer → PassPart → Type 0) (f : Answer → Bool)
    → ((b : Answer) → k ≡ Err b → f b ≡ false) → ((key : ℕ) → C key a w → Grows v w (f a)) → OnKey k v C a w
    → Grows v w (f a)
on_key (Err b) v w a C f none some h = subst (Grows v w) (sym (ap f h.0 ∙ none b refl)) (same_part v w h.1)
on_key (Ok key) v w a C f none some h = some key h

call_grows : (terms : RunTerms) (tag : Option ℕ) (pass : ℕ) (v : PassPart) (c : Call) (bound : Option ℕ) (a : Answer)
    (w : PassPart) → CallAnswers terms tag pass v c bound a w → Grows v w (adds_entry c a)
call_grows terms tag pass v (call.Adopt shard) bound a w h = unless (adopt_refusal terms v.shard shard) v h.result w _ _
    (λ _. false) (same_log v w) (λ e f. refl) (adopts v w shard h.result) h.does.0
call_grows terms tag pass v call.Leave bound a w h = unless (needs_shard v.shard) v h.result w _ _ (λ _. false)
    (same_log v w) (λ e f. refl) (leaves v w h.result) h.does.0
call_grows terms tag pass v (call.Insert words) bound a w h = subst (λ x. Grows v w (is_key x)) (sym h.is)
    (unless (words_refusal words) v h.result w _ _ (λ r. is_key (key_answer tag r)) (same_part v w) (λ e f. refl)
    (λ k. unless (needs_shard v.shard) v h.result w _ _ (λ r. is_key (key_answer tag r)) (same_log v w) (λ e f. refl)
    (inserts terms tag pass v w words h.result) k.0) h.does)
call_grows terms tag pass v (call.Get r) bound a w h = on_key (key_meant tag bound r) v w a _ is_done_gone_or_crowded
    (no_key is_done_gone_or_crowded refl refl tag bound r)
    (λ key k. subst (λ x. Grows v w (is_done_gone_or_crowded x)) (sym k.is)
    (unless (get_refusal terms pass v key) v k.result w _ _ (λ r. is_done_gone_or_crowded (done_answer r))
    (same_log v w) (get_first _ _) (gets terms tag pass v w key k.result) k.does.0)) h
call_grows terms tag pass v (call.Read r) bound a w h = on_key (key_meant tag bound r) v w a _ (λ _. false)
    (λ b e. refl) (λ key k. unless (hold_refusal pass v key) v k.result w _ _ (λ _. false) (same_log v w) (λ e f. refl)
    (reads terms tag pass v w key k.result) k.does.0) h
call_grows terms tag pass v (call.Remove r) bound a w h = on_key (key_meant tag bound r) v w a _ is_done_or_gone
    (no_key is_done_or_gone refl refl tag bound r) (λ key k. subst (λ x. Grows v w (is_done_or_gone x)) (sym k.is)
    (unless (remove_refusal terms key) v k.result w _ _ (λ r. is_done_or_gone (done_answer r)) (same_log v w)
    (remove_first _) (removes terms tag pass v w key k.result) k.does.0)) h
call_grows terms tag pass v (call.Release r) bound a w h = on_key (key_meant tag bound r) v w a _ is_done
    (no_key is_done refl refl tag bound r) (λ key k. subst (λ x. Grows v w (is_done x)) (sym k.is)
    (unless (hold_refusal pass v key) v k.result w _ _ (λ r. is_done (done_answer r)) (same_log v w) (λ e f. refl)
    (releases terms tag pass v w key k.result) k.does.0)) h
call_grows terms tag pass v call.Post bound a w h = same_part v w h.1
call_grows terms tag pass v (call.Wait name) bound a w h = same_part v w h.1

-- the number of entries is that which the answer says
pub grows : (terms : RunTerms) (tag : Option ℕ) (pass : ℕ) (v : PassPart) (c : Call) (bound : Option ℕ) (a : Answer)
    (w : PassPart) → CallAnswers terms tag pass v c bound a w → length w.log ≡ length v.log + cond (adds_entry c a) 1 0
grows terms tag pass v c bound a w h = (call_grows terms tag pass v c bound a w h).0

-- what was known stays
pub keeps_known : (terms : RunTerms) (tag : Option ℕ) (pass : ℕ) (v : PassPart) (c : Call) (bound : Option ℕ)
    (a : Answer) (w : PassPart) → CallAnswers terms tag pass v c bound a w → KeepsKnown v.log w.log
keeps_known terms tag pass v c bound a w h = (call_grows terms tag pass v c bound a w h).1
