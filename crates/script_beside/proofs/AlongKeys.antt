-- A remove, a release or a read along with mode plain.
use Rattle.std.proofs.Common.{◌≡◌, ℕ, Bool, true, false, cond, List, map}
use Rattle.std.proofs.Common.{refl, ap, sym, ◌∙◌, subst, Option, Some, None, Result, Ok, Err}
use Rattle.std.specs.Prelude.{nat_lt, ok_or}
use Rattle.sh_value.specs.declared.refusal.Refusal.TheVariants as refusal
use Rattle.sh_history.specs.declared.entry.Entry.TheVariants.{Gone, Removed, Released}
use Rattle.sh_history.specs.History.{present_value, holds_by}
use Rattle.sh_plain.specs.Plain.{PlainReply, refused, remove_reply, removed_reply, release_reply}
use Rattle.sh_plain.specs.Plain.{read_answer}
use Rattle.sh_script.specs.declared.calls.Reference.TheVariants as reference
use Rattle.sh_script.specs.declared.calls.Call.TheVariants as call
use Rattle.script_output.specs.declared.answer.Answer.{Answer}
use Rattle.script_output.specs.Results.{value_answer}
use Rattle.script_models.specs.PlainRun.{Run, HasReply, Reads}
use Rattle.script_beside.specs.Beside.{WherePlaced, IfPlaced}
use Rattle.script_beside.specs.Along.{CallAlong}
use Rattle.script_beside.proofs.OnKeys.{placed_is_key}
use Rattle.script_beside.proofs.Renaming.{renumbered, same_value, same_present, same_holds_by}
use Rattle.script_beside.proofs.Along.{Numbering, KeyIs, KeysAre, Told, Found, own, own_key, own_meant, own_added}
use Rattle.script_beside.proofs.Along.{key_named, known, plainly, same_keys}

module _ (n : Numbering) (owned : ℕ → Option ℕ) (run next : Run) (i : ℕ) (a : Answer) (keys : KeysAre n run.keys) where
  -- ---- remove

  remove_by : (k : Result ℕ Answer) → key_named run i ≡ k
      → HasReply (remove_reply n.layout) (own n run) (own_key n k) a (own n next)
      → CallAlong n.layout n.shape owned (own n run) (call.Remove (reference.Name i)) a (own n next)
  remove_by k e h = plainly n owned (own n run) (own n next) (call.Remove (reference.Name i)) a
      (subst (λ (x : Result ℕ Answer). HasReply (remove_reply n.layout) (own n run) x a (own n next))
      (sym (own_meant n run i k e)) h)

  own_removed : (key : ℕ) → KeyIs n (Some key) → (o : Option (List ℕ)) → present_value run.store.entries key ≡ o
      → Told (remove_reply n.layout run.store key) a run next
      → HasReply (remove_reply n.layout) (own n run) (Ok (n.number key)) a (own n next)
  own_removed key is None p h =
      let is_key = placed_is_key n.layout n.shape key is.0 in
      let q : remove_reply n.layout run.store key ≡ removed_reply run.store key None = rw (is_key, p) refl in
      let t = subst (λ (x : PlainReply (Unit {0})). Told x a run next) q h in
      let own_is_key = is.1 in
      let own_p : present_value (map (renumbered n.number) run.store.entries) (n.number key) ≡ None =
      same_present n.number n.one run.store.entries key ∙ p in
      rw (own_is_key, own_p) (t.0, ap (own n) t.1 ∙ own_added n run (Gone run.store.pass key))
  own_removed key is (Some value) p h =
      let is_key = placed_is_key n.layout n.shape key is.0 in
      let q : remove_reply n.layout run.store key ≡ removed_reply run.store key (Some value) = rw (is_key, p) refl in
      let t = subst (λ (x : PlainReply (Unit {0})). Told x a run next) q h in
      let own_is_key = is.1 in
      let own_p : present_value (map (renumbered n.number) run.store.entries) (n.number key) ≡ Some value =
      same_present n.number n.one run.store.entries key ∙ p in
      rw (own_is_key, own_p) (t.0, ap (own n) t.1 ∙ own_added n run (Removed run.store.pass key))

  pub remove_along : WherePlaced n.layout n.shape (key_named run i)
      (HasReply (remove_reply n.layout) run (key_named run i) a next) run a next
      → Found n owned run next (call.Remove (reference.Name i)) a
  remove_along h = go (key_named run i) refl
    where
      at : (k : Result ℕ Answer) → key_named run i ≡ k
          → WherePlaced n.layout n.shape k (HasReply (remove_reply n.layout) run k a next) run a next
      at k e = subst (λ (x : Result ℕ Answer). WherePlaced n.layout n.shape x
          (HasReply (remove_reply n.layout) run x a next) run a next) e h

      go : (k : Result ℕ Answer) → key_named run i ≡ k → Found n owned run next (call.Remove (reference.Name i)) a
      go (Err b) e =
          let t = at (Err b) e in
          record {
            along = remove_by (Err b) e (t.0, ap (own n) t.1);
            keys = same_keys n run next (ap (λ (m : Run). m.keys) t.1) keys;
          }
      go (Ok key) e =
          let is = known n run i key keys e in
          let g : HasReply (remove_reply n.layout) run (Ok key) a next =
          subst (λ (b : Bool). IfPlaced b (HasReply (remove_reply n.layout) run (Ok key) a next) run a next) is.0
          (at (Ok key) e) in
          record {
            along = remove_by (Ok key) e (own_removed key is (present_value run.store.entries key) refl g);
            keys = same_keys n run next (ap (λ (m : Run). m.keys) g.1) keys;
          }

  -- ---- release

  own_released : (key : ℕ) (b : Bool) → nat_lt 0 (holds_by run.store.entries run.store.pass key) ≡ b
      → Told (release_reply run.store key) a run next
      → HasReply release_reply (own n run) (Ok (n.number key)) a (own n next)
  own_released key b p h =
      go b p (ap (nat_lt 0) (same_holds_by n.number n.one run.store.entries run.store.pass key) ∙ p)
    where
      go : (b : Bool) → nat_lt 0 (holds_by run.store.entries run.store.pass key) ≡ b
          → nat_lt 0 (holds_by (map (renumbered n.number) run.store.entries) run.store.pass (n.number key)) ≡ b
          → HasReply release_reply (own n run) (Ok (n.number key)) a (own n next)
      go true p q =
          let c : release_reply run.store key ≡ record { answer = Ok tt; adds = Some (Released run.store.pass key) } =
          rw p refl in
          let t = subst (λ (x : PlainReply (Unit {0})). Told x a run next) c h in
          rw q (t.0, ap (own n) t.1 ∙ own_added n run (Released run.store.pass key))
      go false p q =
          let c : release_reply run.store key ≡ refused refusal.NotHeld = rw p refl in
          let t = subst (λ (x : PlainReply (Unit {0})). Told x a run next) c h in
          rw q (t.0, ap (own n) t.1)

  pub release_along : HasReply release_reply run (key_named run i) a next
      → Found n owned run next (call.Release (reference.Name i)) a
  release_along h = go (key_named run i) refl
    where
      by : (k : Result ℕ Answer) → key_named run i ≡ k → HasReply release_reply (own n run) (own_key n k) a (own n next)
          → CallAlong n.layout n.shape owned (own n run) (call.Release (reference.Name i)) a (own n next)
      by k e t = plainly n owned (own n run) (own n next) (call.Release (reference.Name i)) a
          (subst (λ (x : Result ℕ Answer). HasReply release_reply (own n run) x a (own n next))
          (sym (own_meant n run i k e)) t)

      at : (k : Result ℕ Answer) → key_named run i ≡ k → HasReply release_reply run k a next
      at k e = subst (λ (x : Result ℕ Answer). HasReply release_reply run x a next) e h

      go : (k : Result ℕ Answer) → key_named run i ≡ k → Found n owned run next (call.Release (reference.Name i)) a
      go (Err b) e =
          let t = at (Err b) e in
          record {
            along = by (Err b) e (t.0, ap (own n) t.1);
            keys = same_keys n run next (ap (λ (m : Run). m.keys) t.1) keys;
          }
      go (Ok key) e =
          let t = at (Ok key) e in
          record {
            along = by (Ok key) e (own_released key (nat_lt 0 (holds_by run.store.entries run.store.pass key)) refl t);
            keys = same_keys n run next (ap (λ (m : Run). m.keys) t.1) keys;
          }

  -- ---- read

  own_read : (key : ℕ) → read_answer (own n run).store (n.number key) ≡ read_answer run.store key
  own_read key = λ j. ok_or (cond (nat_lt 0 (same_holds_by n.number n.one run.store.entries run.store.pass key j))
      (same_value n.number n.one run.store.entries key j) None) refusal.NotHeld

  pub read_along : Reads run (key_named run i) a next → Found n owned run next (call.Read (reference.Name i)) a
  read_along h = go (key_named run i) refl
    where
      by : (k : Result ℕ Answer) → key_named run i ≡ k → Reads (own n run) (own_key n k) a (own n next)
          → CallAlong n.layout n.shape owned (own n run) (call.Read (reference.Name i)) a (own n next)
      by k e t = plainly n owned (own n run) (own n next) (call.Read (reference.Name i)) a
          (subst (λ (x : Result ℕ Answer). Reads (own n run) x a (own n next)) (sym (own_meant n run i k e)) t)

      at : (k : Result ℕ Answer) → key_named run i ≡ k → Reads run k a next
      at k e = subst (λ (x : Result ℕ Answer). Reads run x a next) e h

      go : (k : Result ℕ Answer) → key_named run i ≡ k → Found n owned run next (call.Read (reference.Name i)) a
      go (Err b) e =
          let t = at (Err b) e in
          record {
            along = by (Err b) e (t.0, ap (own n) t.1);
            keys = same_keys n run next (ap (λ (m : Run). m.keys) t.1) keys;
          }
      go (Ok key) e =
          let t = at (Ok key) e in
          record {
            along = by (Ok key) e (t.0 ∙ ap value_answer (sym (own_read key)), ap (own n) t.1);
            keys = same_keys n run next (ap (λ (m : Run). m.keys) t.1) keys;
          }
