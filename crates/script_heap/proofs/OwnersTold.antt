-- The answers to the lines of a run in one thread say which shard each pass owns.
use Rattle.std.proofs.Common.{◌≡◌, ℕ, ◌==◌, Bool, true, false, cond, List, [], ◌∷◌, ◌++◌, refl, ap, sym, ◌∙◌}
use Rattle.std.proofs.Common.{subst, Option, Some, None, Result, Ok, Err}
use Rattle.std.specs.Prelude.{nat_le}
use Rattle.sh_value.specs.declared.hold.Hold.{Hold}
use Rattle.sh_value.specs.declared.refusal.Refusal.{Refusal}
use Rattle.sh_value.specs.declared.refusal.Refusal.TheVariants as refusal
use Rattle.sh_key.specs.Layout.{Layout}
use Rattle.sh_step.specs.declared.action.Event.{Event}
use Rattle.sh_step.specs.Plans.{Plan, plan_of}
use Rattle.sh_member.specs.declared.member.Side.TheVariants.{Pass, Shard}
use Rattle.sh_member.specs.Sides.{SeenSide, SideDoes, SideAdopts, SideLeaves, SideInserts}
use Rattle.sh_pass.specs.Passes.{Caller}
use Rattle.sh_script.specs.declared.calls.Call.{Call}
use Rattle.sh_script.specs.declared.calls.Call.TheVariants as call
use Rattle.sh_script.specs.declared.calls.CallLine.{CallLine}
use Rattle.script_output.specs.declared.answer.Answer.{Answer}
use Rattle.script_output.specs.Results.{done_answer, value_answer}
use Rattle.script_calls.specs.Calls.{CallAnswers, AnswerSays, OnKey, UnlessRefused, key_meant, PartAdopted, PartLeft}
use Rattle.script_calls.specs.Calls.{ValueInserted, HoldGot, ValueRead, HoldReleased, KeyRemoved, InsertAnswers}
use Rattle.script_calls.specs.Calls.{GetAnswers, ReadAnswers, RemoveAnswers, ReleaseAnswers}
use Rattle.script_calls.specs.Calls.{adopt_refusal, needs_shard, words_refusal}
use Rattle.script_calls.specs.Parts.{RunTerms, PassPart, Becomes, heap_terms, shard_owned}
use Rattle.script_calls.specs.Runs.{CallsRun, LineAnswered, number_meant, opening_calls}
use Rattle.script_calls.proofs.PartsGoOn.{heeds_same}
use Rattle.script_heap.specs.ByLine.{RunsByLine}
use Rattle.script_heap.specs.Owners.{owned_by, owned_then, owned_after, nobody_owns, CallIsExact, AnswersAreExact}
use Rattle.script_heap.specs.Owners.{OwnersAreExact, LinesTellOwners}
use Rattle.script_heap.proofs.OwnerLaws.{lines_keep_owners_apart}

-- ---- the shard that a member owns

adopt_owns : (k : ℕ) (s t : SeenSide) (r : Result (Unit {0}) Refusal) → SideAdopts k s r t
    → shard_owned t ≡ owned_then (shard_owned s) (call.Adopt k) (done_answer r)
adopt_owns k (Pass v) (Shard n) (Ok x) h = ap (λ (j : ℕ). Some j) h.1.shard
adopt_owns k (Pass v) (Pass w) (Ok x) h = absurd h
adopt_owns k (Pass v) (Pass w) (Err why) h = refl
adopt_owns k (Pass v) (Shard n) (Err why) h = absurd h
adopt_owns k (Shard o) t r h = ap shard_owned h.1
    ∙ sym (ap (λ (z : Result (Unit {0}) Refusal).
    owned_then (shard_owned (Shard o)) (call.Adopt k) (done_answer z)) h.0)

leave_owns : (s t : SeenSide) (r : Result (Unit {0}) Refusal) → SideLeaves s r t
    → shard_owned t ≡ owned_then (shard_owned s) call.Leave (done_answer r)
leave_owns (Shard o) (Pass w) (Ok x) h = refl
leave_owns (Shard o) (Shard n) (Ok x) h = absurd h
leave_owns (Shard o) (Shard n) (Err why) h = ap (λ (j : ℕ). Some j) h.1.collects.through.shard
leave_owns (Shard o) (Pass w) (Err why) h = absurd h
leave_owns (Pass v) t r h = ap shard_owned h.1
    ∙ sym (ap (λ (z : Result (Unit {0}) Refusal). owned_then None call.Leave (done_answer z)) h.0)

insert_owns : (layout : Layout) (words : List ℕ) (s t : SeenSide) (r : Result ℕ Refusal)
    → SideInserts layout words s r t → shard_owned t ≡ shard_owned s
insert_owns layout words (Pass v) t r h = ap shard_owned h.1
insert_owns layout words (Shard o) (Shard n) r h = ap (λ (j : ℕ). Some j) h.1.shard
insert_owns layout words (Shard o) (Pass w) r h = absurd h

call_owns : {A : Type 0} (layout : Layout) (D : Caller → A → Caller → Type 0) (s t : SeenSide) (r : A)
    → SideDoes layout D s r t → shard_owned t ≡ shard_owned s
call_owns layout D (Pass v) (Pass w) r h = refl
call_owns layout D (Pass v) (Shard n) r h = absurd h
call_owns layout D (Shard o) (Shard n) r h = ap (λ (j : ℕ). Some j) h.1.shard
call_owns layout D (Shard o) (Pass w) r h = absurd h

-- ---- the shard that a part has

abbrev SameShard : PassPart → PassPart → Type 0
SameShard v w = w.shard ≡ v.shard

same_part : (v w : PassPart) → Becomes v w → SameShard v w
same_part v w e = ap (λ (p : PassPart). p.shard) e

unless : {A : Type 0} (v w : PassPart) (first : Option Refusal) (r : Result A Refusal) (Rest : Type 0)
    → UnlessRefused first r (Becomes v w) Rest → (Rest → SameShard v w) → SameShard v w
unless v w (Some e) r Rest h rest = same_part v w h.1
unless v w None r Rest h rest = rest h

got : (pass key : ℕ) (v w : PassPart) (r : Result Hold Refusal) → HoldGot pass v key r w → SameShard v w
got pass key v w (Ok hold) h = ap (λ (p : PassPart). p.shard) h.1.2
got pass key v w (Err refusal.Gone) h = ap (λ (p : PassPart). p.shard) h
got pass key v w (Err refusal.Crowded) h = ap (λ (p : PassPart). p.shard) h
got pass key v w (Err _) h = absurd h

was_read : (key : ℕ) (v w : PassPart) (r : Result (List ℕ) Refusal) → ValueRead v key r w → SameShard v w
was_read key v w (Ok value) h = ap (λ (p : PassPart). p.shard) h.0
was_read key v w (Err _) h = absurd h

removed : (pass key : ℕ) (v w : PassPart) (r : Result (Unit {0}) Refusal) → KeyRemoved pass v key r w → SameShard v w
removed pass key v w (Ok x) h = ap (λ (p : PassPart). p.shard) h
removed pass key v w (Err refusal.Gone) h = ap (λ (p : PassPart). p.shard) h
removed pass key v w (Err _) h = absurd h

released : (pass key : ℕ) (v w : PassPart) (r : Result (Unit {0}) Refusal) → HoldReleased pass v key r w → SameShard v w
released pass key v w (Ok x) h = ap (λ (p : PassPart). p.shard) h
released pass key v w (Err _) h = absurd h

inserted : (terms : RunTerms) (pass : ℕ) (words : List ℕ) (v w : PassPart) (r : Result ℕ Refusal)
    → ValueInserted terms pass v words r w → SameShard v w
inserted terms pass words v w (Ok key) h = ap (λ (p : PassPart). p.shard) h.1
inserted terms pass words v w (Err refusal.Full) h = ap (λ (p : PassPart). p.shard) h
inserted terms pass words v w (Err refusal.Memory) h = ap (λ (p : PassPart). p.shard) h
inserted terms pass words v w (Err _) h = absurd h

adopted : (terms : RunTerms) (k : ℕ) (v w : PassPart) (o : Option ℕ) → v.shard ≡ o → (r : Result (Unit {0}) Refusal)
    → UnlessRefused (adopt_refusal terms o k) r (Becomes v w) (PartAdopted v k r w)
    → w.shard ≡ owned_then o (call.Adopt k) (done_answer r)
adopted terms k v w (Some own) e r h = same_part v w h.1 ∙ (e
    ∙ sym (ap (λ (z : Result (Unit {0}) Refusal). owned_then (Some own) (call.Adopt k) (done_answer z)) h.0))
adopted terms k v w None e r h = go (nat_le terms.shape.shards k) r h
  where
    go : (b : Bool) (r : Result (Unit {0}) Refusal)
        → UnlessRefused (cond b (Some refusal.NoShard) None) r (Becomes v w) (PartAdopted v k r w)
        → w.shard ≡ owned_then None (call.Adopt k) (done_answer r)
    go true r h = same_part v w h.1 ∙ (e
        ∙ sym (ap (λ (z : Result (Unit {0}) Refusal). owned_then None (call.Adopt k) (done_answer z)) h.0))
    go false (Ok x) h = ap (λ (p : PassPart). p.shard) h
    go false (Err refusal.Taken) h = same_part v w h ∙ e
    go false (Err refusal.Memory) h = same_part v w h ∙ e
    go false (Err _) h = absurd h

left : (v w : PassPart) (o : Option ℕ) → v.shard ≡ o → (r : Result (Unit {0}) Refusal)
    → UnlessRefused (needs_shard o) r (Becomes v w) (PartLeft v r w)
    → w.shard ≡ owned_then o call.Leave (done_answer r)
left v w None e r h = same_part v w h.1 ∙ (e
    ∙ sym (ap (λ (z : Result (Unit {0}) Refusal). owned_then None call.Leave (done_answer z)) h.0))
left v w (Some own) e (Ok x) h = ap (λ (p : PassPart). p.shard) h
left v w (Some own) e (Err refusal.Waiting) h = same_part v w h ∙ e
left v w (Some own) e (Err _) h = absurd h

-- ---- a call

module _ (terms : RunTerms) (tag : Option ℕ) (pass : ℕ) (v w : PassPart) where
  -- a call on a key leave_owns the part with the same shard, and so the member
  abbrev Stays : Type 0
  Stays = SameShard v w × (shard_owned w.stands ≡ shard_owned v.stands)

  same_all : w ≡ v → Stays
  same_all e = (ap (λ (p : PassPart). p.shard) e, ap (λ (p : PassPart). shard_owned p.stands) e)

  key_call : (CallAnswers : ℕ → Answer → PassPart → Type 0) → (k : Result ℕ Answer) (a : Answer)
      → OnKey k v CallAnswers a w → ((key : ℕ) → CallAnswers key a w → Stays) → Stays
  key_call CallAnswers (Ok key) a h on = on key h
  key_call CallAnswers (Err b) a h on = same_all h.1

  by_words : (words : List ℕ) (many : Option Refusal) (r : Result ℕ Refusal)
      → UnlessRefused many r (w ≡ v) (InsertAnswers terms pass v words r w) → Stays
  by_words words (Some e) r h = same_all h.1
  by_words words None r h = (
    unless v w (needs_shard v.shard) r (ValueInserted terms pass v words r w) h.0
        (inserted terms pass words v w r),
    insert_owns terms.layout words v.stands w.stands r h.1,
  )

  -- the shard that the part has, and that the member owns
  abbrev Then : Call → Answer → Type 0
  Then c a = (w.shard ≡ owned_then v.shard c a) × (shard_owned w.stands ≡ owned_then (shard_owned v.stands) c a)

  call_then : (c : Call) (bound : Option ℕ) (a : Answer) → CallAnswers terms tag pass v c bound a w → Then c a
  call_then (call.Adopt k) bound a h = subst (Then (call.Adopt k)) (sym h.is) (
    adopted terms k v w v.shard refl h.result h.does.0,
    adopt_owns k v.stands w.stands h.result h.does.1,
  )
  call_then call.Leave bound a h = subst (Then call.Leave) (sym h.is) (
    left v w v.shard refl h.result h.does.0,
    leave_owns v.stands w.stands h.result h.does.1,
  )
  call_then (call.Insert words) bound a h = by_words words (words_refusal words) h.result h.does
  call_then (call.Get r) bound a h = key_call (λ key. AnswerSays done_answer (GetAnswers terms pass v key))
      (key_meant tag bound r) a h (λ key k. (
        unless v w _ k.result (HoldGot pass v key k.result w) k.does.0 (got pass key v w k.result),
        call_owns terms.layout _ v.stands w.stands k.result k.does.1,
      ))
  call_then (call.Read r) bound a h = key_call (λ key. AnswerSays value_answer (ReadAnswers terms pass v key))
      (key_meant tag bound r) a h (λ key k. (
        unless v w _ k.result (ValueRead v key k.result w) k.does.0 (was_read key v w k.result),
        call_owns terms.layout _ v.stands w.stands k.result k.does.1,
      ))
  call_then (call.Remove r) bound a h = key_call (λ key. AnswerSays done_answer (RemoveAnswers terms pass v key))
      (key_meant tag bound r) a h (λ key k. (
        unless v w _ k.result (KeyRemoved pass v key k.result w) k.does.0 (removed pass key v w k.result),
        call_owns terms.layout _ v.stands w.stands k.result k.does.1,
      ))
  call_then (call.Release r) bound a h = key_call (λ key. AnswerSays done_answer (ReleaseAnswers terms pass v key))
      (key_meant tag bound r) a h (λ key k. (
        unless v w _ k.result (HoldReleased pass v key k.result w) k.does.0 (released pass key v w k.result),
        call_owns terms.layout _ v.stands w.stands k.result k.does.1,
      ))
  call_then call.Post bound a h = same_all h.1
  call_then (call.Wait name) bound a h = same_all h.1

pub shard_then : (terms : RunTerms) (tag : Option ℕ) (pass : ℕ) (v w : PassPart) (c : Call) (bound : Option ℕ)
    (a : Answer) → CallAnswers terms tag pass v c bound a w → w.shard ≡ owned_then v.shard c a
shard_then terms tag pass v w c bound a h = (call_then terms tag pass v w c bound a h).0

-- ---- lines

module _ (terms : RunTerms) (tag : Option ℕ) where
  owners_next : (before next : CallsRun) (l : CallLine) (a : Answer) → LineAnswered terms tag before l a next
      → (q : ℕ) → owned_after (owned_by before.parts) l a q ≡ owned_by next.parts q
  owners_next before next l a line q = go (q == l.pass) refl
    where
      is : next.parts q ≡ cond (q == l.pass) line.part (before.parts q)
      is = ap (λ (r : CallsRun). r.parts q) line.next_is

      go : (b : Bool) → (q == l.pass) ≡ b
          → cond b (owned_then (owned_by before.parts l.pass) l.call a) (owned_by before.parts q)
          ≡ owned_by next.parts q
      go true e =
          let begun : shard_owned line.begins.stands ≡ owned_by before.parts l.pass =
          (heeds_same (before.parts l.pass) line.begins line.heeds).shard in
          let then = (call_then terms tag l.pass line.begins line.part l.call (number_meant before.numbers l.call) a
          line.does).1 in
          ap (λ (o : Option ℕ). owned_then o l.call a) (sym begun) ∙ (sym then
          ∙ sym (ap (λ (p : PassPart). shard_owned p.stands)
          (is ∙ ap (λ (b : Bool). cond b line.part (before.parts q)) e)))
      go false e = sym (ap (λ (p : PassPart). shard_owned p.stands)
          (is ∙ ap (λ (b : Bool). cond b line.part (before.parts q)) e))

  told : (plan : Plan) (early late : List Event) (before : CallsRun) (lines : List CallLine) (answers : List Answer)
      (after : CallsRun) (h : RunsByLine plan early late terms tag before lines answers after)
      → OwnersAreExact plan early late terms tag before lines answers after h
      → (owned : ℕ → Option ℕ) → ((q : ℕ) → owned q ≡ owned_by before.parts q)
      → AnswersAreExact terms.shape owned lines answers
  told plan early late before [] [] after h exact owned same = tt
  told plan early late before [] (a ∷ answers) after h exact owned same = absurd h
  told plan early late before (l ∷ lines) [] after h exact owned same = absurd h
  told plan early late before (l ∷ lines) (a ∷ answers) after h exact owned same =
      let P : (ℕ → Option ℕ) → Type 0 = λ o. CallIsExact terms.shape o l.pass l.call a in (
        subst P (λ i q. sym (same q) i) exact.1,
        told plan (early ++ h.3) h.4 h.1 lines answers after h.6 exact.2 (owned_after owned l a)
            (λ q. ap (λ (o : ℕ → Option ℕ). owned_after o l a q) (λ i p. same p i) ∙ owners_next before h.1 l a h.2 q),
      )

pub lines_tell_owners : LinesTellOwners
lines_tell_owners asked layout shape tag lines output la ls lf fits h =
    told (heap_terms layout shape) tag (plan_of layout shape) [] h.events (opening_calls (Some h.heap)) lines
    h.told.replies.answers h.told.replies.after (h.by_line refl)
    (lines_keep_owners_apart asked layout shape tag lines output la ls lf fits h) nobody_owns (λ q. refl)
