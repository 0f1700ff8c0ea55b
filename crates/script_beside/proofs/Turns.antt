-- A call of a pass of the running heap beside mode plain: what both know before it, and what is found for it.
use Rattle.std.proofs.Common.{◌≡◌, ◌≢◌, ℕ, ◌<◌, ◌≤◌, Bool, true, false, List, [], ◌∷◌, ◌++◌, length}
use Rattle.std.proofs.Common.{refl, ap, sym, ◌∙◌, subst, slice_index_or, Option}
use Rattle.std.specs.Prelude.{is_some}
use Rattle.sh_history.specs.declared.entry.Entry.{Entry}
use Rattle.sh_history.specs.declared.log.LogEntry.TheVariants.{Known}
use Rattle.sh_history.specs.History.{Allowed, Legal, is_insert}
use Rattle.sh_history.proofs.Laws.{legal_after_parts}
use Rattle.sh_script.specs.declared.calls.Call.{Call}
use Rattle.script_output.specs.declared.answer.Answer.{Answer}
use Rattle.script_models.specs.PlainRun.{Run, run_of}
use Rattle.script_calls.specs.Parts.{RunTerms, PassPart, Becomes}
use Rattle.script_heap.specs.Crowding.{CrowdedIsExact}
use Rattle.script_calls.specs.InOrder.{adds_entry}
use Rattle.script_heap.specs.Owners.{CallIsExact}
use Rattle.script_calls.specs.Runs.{with_number}
use Rattle.script_beside.specs.Beside.{CallBeside}
use Rattle.script_beside.proofs.Logs.{Grown, LogIs, added_agrees}
use Rattle.script_beside.proofs.Fewness.{FewHolds}
use Rattle.script_beside.proofs.Shapes.{KnowsShape}
use Rattle.script_beside.proofs.Names.{AreNames}
use Rattle.script_beside.proofs.Issued.{AreIssued, issued_same, issued_other}

-- mode plain's run with these entries, owners and keys of names, at a line of this pass
abbrev pub state : RunTerms → Option ℕ → List Entry → ℕ → List Bool → List (Option ℕ) → Run
state terms tag entries pass owners keys = run_of terms.shape.shards tag
    (record { entries = entries; pass = pass; passes = terms.shape.passes }) owners keys

-- The part of the pass and the history, before the call and after it. The owners, the shard that each pass owns, the
-- keys of names and the numbers as which these are written, before it.
pub record Turn : Type 0 where
  pub terms : RunTerms
  pub tag : Option ℕ
  pub pass : ℕ
  pub v : PassPart
  pub w : PassPart
  pub before : List Entry
  pub after : List Entry
  pub owners : List Bool
  pub owned : ℕ → Option ℕ
  pub keys : List (Option ℕ)
  pub numbers : List (Option ℕ)

-- mode plain's run with these entries, with owners and keys as before
abbrev pub plain_with : Turn → List Entry → Run
plain_with t es = state t.terms t.tag es t.pass t.owners t.keys

abbrev pub plain_before : Turn → Run
plain_before t = plain_with t t.before

abbrev pub plain_after : Turn → Run
plain_after t = plain_with t t.after

-- what is known before a call, of the history before and after it
pub record Ready (t : Turn) (c : Call) (a : Answer) : Type 0 where
  pub grown : Grown (adds_entry c a) t.pass t.before t.after
  pub log : LogIs t.pass t.v.log t.before
  pub log_after : LogIs t.pass t.w.log t.after
  pub legal : Legal t.terms.shape.passes t.terms.layout.guard_max t.after
  pub owner : slice_index_or t.owners t.pass false ≡ is_some t.v.shard
  pub owns : t.owned t.pass ≡ t.v.shard
  pub exact : CallIsExact t.terms.shape t.owned t.pass c a
  pub inside : t.pass < length t.owners
  pub names : AreNames t.tag t.keys t.numbers
  pub issued : AreIssued t.terms.layout t.before
  pub knows : KnowsShape t.terms.shape t.v.stands
  pub some_pass : 1 ≤ t.terms.shape.passes
  pub few : FewHolds t.terms.layout.guard_max t.before
  pub few_after : FewHolds t.terms.layout.guard_max t.after
  pub crowds : CrowdedIsExact t.terms.layout.guard_max t.after

-- the answer to the call is beside mode plain, and what is known of owners and names after it
pub record Stepped (t : Turn) (c : Call) (a : Answer) : Type 0 where
  pub owners_after : List Bool
  pub keys_after : List (Option ℕ)
  pub beside : CallBeside t.terms.layout t.terms.shape t.owned (plain_before t) c a
      (state t.terms t.tag t.after t.pass owners_after keys_after)
  pub few : length owners_after ≡ length t.owners
  pub own : slice_index_or owners_after t.pass false ≡ is_some t.w.shard
  pub others : (q : ℕ) → q ≢ t.pass → slice_index_or owners_after q false ≡ slice_index_or t.owners q false
  pub names : AreNames t.tag keys_after (with_number t.numbers c a)
  pub issued : AreIssued t.terms.layout t.after

pub shard_kept : (u w : PassPart) → Becomes u w → w.shard ≡ u.shard
shard_kept u w e = ap (λ (p : PassPart). p.shard) e

module _ (t : Turn) (c : Call) (a : Answer) (ready : Ready t c a) where
  -- a call that changes neither owners nor names
  pub stays : t.w.shard ≡ t.v.shard → AreNames t.tag t.keys (with_number t.numbers c a)
      → AreIssued t.terms.layout t.after
      → CallBeside t.terms.layout t.terms.shape t.owned (plain_before t) c a (plain_after t) → Stepped t c a
  stays same names issued beside = record {
    owners_after = t.owners;
    keys_after = t.keys;
    beside = beside;
    few = refl;
    own = ready.owner ∙ sym (ap is_some same);
    others = λ q ne. refl;
    names = names;
    issued = issued;
  }

  -- the history, by whether the answer adds an entry
  pub history_kept : adds_entry c a ≡ false → t.after ≡ t.before
  history_kept none = subst (λ (b : Bool). Grown b t.pass t.before t.after) none ready.grown

  pub run_kept : adds_entry c a ≡ false → plain_after t ≡ plain_before t
  run_kept none = ap (plain_with t) (history_kept none)

  pub issued_kept : adds_entry c a ≡ false → AreIssued t.terms.layout t.after
  issued_kept none = issued_same t.terms.layout t.before t.after (history_kept none) ready.issued

  pub history_grown : adds_entry c a ≡ true → Grown true t.pass t.before t.after
  history_grown one = subst (λ (b : Bool). Grown b t.pass t.before t.after) one ready.grown

  -- it has gained the entry that the pass has in its log
  pub gained : adds_entry c a ≡ true → (e : Entry) → t.w.log ≡ t.v.log ++ Known e ∷ [] → t.after ≡ t.before ++ e ∷ []
  gained one e is =
      let g = history_grown one in
      g.1 ∙ ap (λ (x : Entry). t.before ++ x ∷ [])
      (added_agrees t.pass t.v.log (Known e) t.w.log t.before t.after is g ready.log_after)

  -- the entry that the call added was allowed
  pub allowed_last : (e : Entry) → t.after ≡ t.before ++ e ∷ []
      → Allowed t.terms.shape.passes t.terms.layout.guard_max t.before e
  allowed_last e is = let passes = t.terms.shape.passes in let most = t.terms.layout.guard_max in
      (legal_after_parts passes most [] t.before (e ∷ []) (subst (Legal passes most) is ready.legal)).1.0

  pub issued_after : (e : Entry) → is_insert e ≡ false → t.after ≡ t.before ++ e ∷ [] → AreIssued t.terms.layout t.after
  issued_after e other is =
      subst (AreIssued t.terms.layout) (sym is) (issued_other t.terms.layout t.before e other ready.issued)
