-- A get beside mode plain.
use Rattle.std.proofs.Common.{◌≡◌, ℕ, inl, Bool, true, false, cond, List, [], ◌∷◌, ◌++◌}
use Rattle.std.proofs.Common.{refl, ap, sym, ◌∙◌, subst, arith, Option, Some, None, Result, Ok, Err}
use Rattle.std.specs.Prelude.{is_some, not, nat_le}
use Rattle.std.proofs.lemmas.Bool.Decides.{nat_tests}
use Rattle.sh_value.specs.declared.hold.Hold.{Hold}
use Rattle.sh_value.specs.declared.refusal.Refusal.{Refusal}
use Rattle.sh_value.specs.declared.refusal.Refusal.TheVariants as refusal
use Rattle.sh_key.specs.Layout.{unpacked}
use Rattle.sh_history.specs.declared.entry.Entry.{Entry}
use Rattle.sh_history.specs.declared.entry.Entry.TheVariants.{Insert, Got, Gone, Crowded, Removed, Released, Seen}
use Rattle.sh_history.specs.declared.log.LogEntry.{LogEntry}
use Rattle.sh_history.specs.declared.log.LogEntry.TheVariants.{Known, Unread}
use Rattle.sh_history.specs.History.{value_of, present_value, hold_count, holds_on}
use Rattle.sh_history.specs.Log.{Agrees, IsGotBy, logged_hold_count}
use Rattle.sh_plain.specs.Plain.{with_added, get_reply, got_reply}
use Rattle.sh_script.specs.declared.calls.Reference.{Reference}
use Rattle.sh_script.specs.declared.calls.Call.TheVariants as call
use Rattle.script_output.specs.declared.answer.Answer.{Answer}
use Rattle.script_output.specs.declared.answer.Answer.TheVariants as answer
use Rattle.script_output.specs.Results.{done_answer}
use Rattle.script_models.specs.PlainRun.{HasReply}
use Rattle.script_calls.specs.Parts.{PassPart, Becomes, is_placed_key}
use Rattle.script_calls.specs.Calls.{CallAnswers, AnswerSays, GetAnswers, UnlessRefused, HoldGot}
use Rattle.script_calls.specs.InOrder.{is_done_gone_or_crowded}
use Rattle.script_beside.specs.Beside.{WherePlaced, IfPlaced}
use Rattle.script_beside.proofs.Fewness.{FewHolds, room_before}
use Rattle.sh_history.proofs.LogHolds.{hold_count_by_log}
use Rattle.sh_history.proofs.Laws.{some_value}
use Rattle.script_beside.proofs.Logs.{added_agrees}
use Rattle.script_beside.proofs.Issued.{AreIssued}
use Rattle.script_beside.proofs.Turns.{Turn, Ready, Stepped, plain_with, plain_before, plain_after, stays, shard_kept}
use Rattle.script_beside.proofs.Turns.{run_kept, issued_kept, history_grown, gained, allowed_last, issued_after}
use Rattle.script_beside.proofs.OnKeys.{present_here, present_gone, placed_is_key, key_here, number_here}
use Rattle.script_beside.proofs.OnKeys.{heap_key, by_key, keyless, placeless}

got_is : (pass key : ℕ) (x : LogEntry) (e : Entry) → IsGotBy pass key x → Agrees x e → (value : List ℕ)
    × (e ≡ Got pass key value)
got_is pass key (Known (Got p k value)) e is h = (value, h ∙ (λ i. Got (is.0 i) (is.1 i) value))
got_is pass key (Unread p k) e is h = (h.0, h.1 ∙ (λ i. Got (is.0 i) (is.1 i) h.0))
got_is pass key (Known (Insert p k v)) e is h = absurd is
got_is pass key (Known (Gone p k)) e is h = absurd is
got_is pass key (Known (Crowded p k)) e is h = absurd is
got_is pass key (Known (Removed p k)) e is h = absurd is
got_is pass key (Known (Released p k)) e is h = absurd is
got_is pass key (Known (Seen p k value)) e is h = absurd is

module _ (t : Turn) (r : Reference) (a : Answer) (ready : Ready t (call.Get r) a) where
  -- the answer of mode plain to this get of this key
  abbrev GetSays : Result ℕ Answer → Type 0
  GetSays k = WherePlaced t.terms.layout t.terms.shape k
      (HasReply (get_reply t.terms.layout) (plain_before t) k a (plain_after t)) (plain_before t) a (plain_after t)

  abbrev many : ℕ
  many = t.terms.layout.guard_max

  get_said : (k : Result ℕ Answer) → key_here t r ≡ k → t.w.shard ≡ t.v.shard → AreIssued t.terms.layout t.after
      → GetSays k → Stepped t (call.Get r) a
  get_said k e same issued h = stays t (call.Get r) a ready same ready.names issued (inl (subst GetSays (sym e) h))

  get_keyless : (b : Answer) → key_here t r ≡ Err b → heap_key t r ≡ Err b → a ≡ b → t.w ≡ t.v
      → Stepped t (call.Get r) a
  get_keyless b e f is same =
      let none = keyless t (call.Get r) a ready r b refl refl f is in
      get_said (Err b) e (ap (λ (p : PassPart). p.shard) same) (issued_kept t (call.Get r) a ready none)
      (is, run_kept t (call.Get r) a ready none)

  module _ (key : ℕ) (e : key_here t r ≡ Ok key) where
    abbrev GetTells : Type 0
    GetTells = HasReply (get_reply t.terms.layout) (plain_before t) (Ok key) a (plain_after t)

    get_placeless : is_placed_key t.terms.layout t.terms.shape key ≡ false → a ≡ answer.Refused refusal.BadKey
        → Becomes t.v t.w → Stepped t (call.Get r) a
    get_placeless f is same =
        let none = ap is_done_gone_or_crowded is in
        get_said (Ok key) e (shard_kept t.v t.w same) (issued_kept t (call.Get r) a ready none)
        (placeless t (call.Get r) a ready key GetTells f is none)

    module _ (f : is_placed_key t.terms.layout t.terms.shape key ≡ true) where
      get_placed : t.w.shard ≡ t.v.shard → AreIssued t.terms.layout t.after → GetTells → Stepped t (call.Get r) a
      get_placed same issued tells = get_said (Ok key) e same issued
          (subst (λ (b : Bool). IfPlaced b GetTells (plain_before t) a (plain_after t)) (sym f) tells)

      named_by_layout : is_some (unpacked t.terms.layout key) ≡ true
      named_by_layout = placed_is_key t.terms.layout t.terms.shape key f

      holds_full : nat_le 16 (logged_hold_count t.v.log t.pass) ≡ true → a ≡ answer.Refused refusal.HoldsFull
          → Becomes t.v t.w → Stepped t (call.Get r) a
      holds_full g is same =
          let none = ap is_done_gone_or_crowded is in
          let h : nat_le 16 (hold_count t.before t.pass) ≡ true =
          ap (nat_le 16) (sym (hold_count_by_log t.pass t.v.log t.before ready.log)) ∙ g in
          get_placed (shard_kept t.v t.w same) (issued_kept t (call.Get r) a ready none)
          (rw (named_by_layout, h) (is, run_kept t (call.Get r) a ready none))

      module _ (g : nat_le 16 (logged_hold_count t.v.log t.pass) ≡ false) where
        roomy : nat_le 16 (hold_count t.before t.pass) ≡ false
        roomy = ap (nat_le 16) (sym (hold_count_by_log t.pass t.v.log t.before ready.log)) ∙ g

        -- its answer if there is room for a hold, by the value that the key has
        get_by_value : (o : Option (List ℕ)) → present_value t.before key ≡ o
            → (a ≡ done_answer (got_reply t.terms.layout (plain_before t).store key o).answer)
            × (plain_after t ≡ record (plain_before t) {
              store = with_added (plain_before t).store (got_reply t.terms.layout (plain_before t).store key o).adds;
            }) → GetTells
        get_by_value o here h = rw (named_by_layout, roomy, here) h

        got : (x : Result Hold Refusal) → a ≡ done_answer x → HoldGot t.pass t.v key x t.w → Stepped t (call.Get r) a
        got (Ok hold) is h =
            let g = history_grown t (call.Get r) a ready (ap is_done_gone_or_crowded is) in
            let it = got_is t.pass key h.1.0 g.0 h.1.1 (added_agrees t.pass t.v.log h.1.0 t.w.log t.before t.after
            (ap (λ (p : PassPart). p.log) h.1.2) g ready.log_after) in
            let at : t.after ≡ t.before ++ Got t.pass key it.0 ∷ [] =
            g.1 ∙ ap (λ (x : Entry). t.before ++ x ∷ []) it.1 in
            let ok = allowed_last t (call.Get r) a ready (Got t.pass key it.0) at in
            let room = room_before many t.before t.pass key it.0 ready.few (subst (FewHolds many) at ready.few_after) in
            let few : nat_le many (holds_on t.before key) ≡ false = grind (arith, nat_tests) in
            get_placed (ap (λ (p : PassPart). p.shard) h.1.2)
            (issued_after t (call.Get r) a ready (Got t.pass key it.0) refl at)
            (get_by_value (Some it.0) (present_here t.before key it.0 ok.0 ok.1)
            (rw few (is, ap (plain_with t) at)))
        got (Err refusal.Gone) is h =
            let at = gained t (call.Get r) a ready (ap is_done_gone_or_crowded is) (Gone t.pass key)
            (ap (λ (p : PassPart). p.log) h) in
            let ok = allowed_last t (call.Get r) a ready (Gone t.pass key) at in
            get_placed (ap (λ (p : PassPart). p.shard) h)
            (issued_after t (call.Get r) a ready (Gone t.pass key) refl at)
            (get_by_value None (present_gone t.before key ok) (is, ap (plain_with t) at))
        got (Err refusal.Crowded) is h =
            let at = gained t (call.Get r) a ready (ap is_done_gone_or_crowded is) (Crowded t.pass key)
            (ap (λ (p : PassPart). p.log) h) in
            let ok = allowed_last t (call.Get r) a ready (Crowded t.pass key) at in
            let has = some_value (value_of t.before key) ok.0 in
            let all : holds_on t.before key ≡ many = ready.crowds t.before [] t.pass key at in
            let full : nat_le many (holds_on t.before key) ≡ true = grind (arith, nat_tests) in
            get_placed (ap (λ (p : PassPart). p.shard) h)
            (issued_after t (call.Get r) a ready (Crowded t.pass key) refl at)
            (get_by_value (Some has.0) (present_here t.before key has.0 has.1 ok.1)
            (rw full (is, ap (plain_with t) at)))
        got (Err _) is h = absurd h

    get_on_key : AnswerSays done_answer (GetAnswers t.terms t.pass t.v key) a t.w → Stepped t (call.Get r) a
    get_on_key h = go (is_placed_key t.terms.layout t.terms.shape key) refl h.does.0
      where
        room : (f : is_placed_key t.terms.layout t.terms.shape key ≡ true) (c : Bool)
            → nat_le 16 (logged_hold_count t.v.log t.pass) ≡ c
            → UnlessRefused (cond c (Some refusal.HoldsFull) None) h.result (Becomes t.v t.w)
            (HoldGot t.pass t.v key h.result t.w) → Stepped t (call.Get r) a
        room f true g d = holds_full f g (h.is ∙ ap done_answer d.0) d.1
        room f false g d = got f g h.result h.is d

        go : (b : Bool) → is_placed_key t.terms.layout t.terms.shape key ≡ b
            → UnlessRefused (cond (not b) (Some refusal.BadKey) (cond (nat_le 16 (logged_hold_count t.v.log t.pass))
            (Some refusal.HoldsFull) None)) h.result (Becomes t.v t.w) (HoldGot t.pass t.v key h.result t.w)
            → Stepped t (call.Get r) a
        go true f d = room f (nat_le 16 (logged_hold_count t.v.log t.pass)) refl d
        go false f d = get_placeless f (h.is ∙ ap done_answer d.0) d.1

  pub get_step : CallAnswers t.terms t.tag t.pass t.v (call.Get r) (number_here t r) a t.w → Stepped t (call.Get r) a
  get_step h = by_key t r a (λ key. AnswerSays done_answer (GetAnswers t.terms t.pass t.v key))
      (Stepped t (call.Get r) a) ready.names get_keyless get_on_key h
