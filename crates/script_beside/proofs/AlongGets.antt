-- A get along with mode plain.
use Rattle.std.proofs.Common.{◌≡◌, ℕ, Bool, true, false, cond, List, map}
use Rattle.std.proofs.Common.{refl, ap, sym, ◌∙◌, subst, Option, Some, None, Result, Ok, Err}
use Rattle.std.specs.Prelude.{nat_le}
use Rattle.sh_value.specs.declared.refusal.Refusal.TheVariants as refusal
use Rattle.sh_history.specs.declared.entry.Entry.{Entry}
use Rattle.sh_history.specs.declared.entry.Entry.TheVariants.{Got, Gone, Crowded}
use Rattle.sh_history.specs.History.{present_value, hold_count, holds_on}
use Rattle.sh_value.specs.declared.hold.Hold.{Hold}
use Rattle.sh_plain.specs.Plain.{PlainReply, refused, with_added, get_reply, got_reply}
use Rattle.sh_script.specs.declared.calls.Reference.TheVariants as reference
use Rattle.sh_script.specs.declared.calls.Call.TheVariants as call
use Rattle.script_output.specs.declared.answer.Answer.{Answer}
use Rattle.script_output.specs.Results.{done_answer}
use Rattle.script_models.specs.PlainRun.{Run, HasReply}
use Rattle.script_beside.specs.Beside.{WherePlaced, IfPlaced}
use Rattle.script_beside.specs.Along.{CallAlong}
use Rattle.script_beside.proofs.OnKeys.{placed_is_key}
use Rattle.script_beside.proofs.Renaming.{renumbered, same_present, same_holds_on, same_hold_count}
use Rattle.script_beside.proofs.Along.{Numbering, KeyIs, KeysAre, Told, Found, own, own_key, own_meant, own_added}
use Rattle.script_beside.proofs.Along.{key_named, known, plainly, same_keys}

module _ (n : Numbering) (owned : ℕ → Option ℕ) (run next : Run) (i : ℕ) (a : Answer) (keys : KeysAre n run.keys) where
  abbrev es : List Entry
  es = run.store.entries

  abbrev AlongGet : Type 0
  AlongGet = CallAlong n.layout n.shape owned (own n run) (call.Get (reference.Name i)) a (own n next)

  get_by_key : (k : Result ℕ Answer) → key_named run i ≡ k
      → HasReply (get_reply n.layout) (own n run) (own_key n k) a (own n next) → AlongGet
  get_by_key k e h = plainly n owned (own n run) (own n next) (call.Get (reference.Name i)) a
      (subst (λ (x : Result ℕ Answer). HasReply (get_reply n.layout) (own n run) x a (own n next))
      (sym (own_meant n run i k e)) h)

  module _ (key : ℕ) (e : key_named run i ≡ Ok key) (is : KeyIs n (Some key)) where
    abbrev crowded : PlainReply Hold
    crowded = record { answer = Err refusal.Crowded; adds = Some (Crowded run.store.pass key) }

    abbrev given_hold : List ℕ → PlainReply Hold
    given_hold value = record { answer = Ok (record { key = key }); adds = Some (Got run.store.pass key value) }

    -- the answer of mode plain if the pass has room for a hold
    own_reply : nat_le 16 (hold_count es run.store.pass) ≡ false → (o : Option (List ℕ)) → present_value es key ≡ o
        → get_reply n.layout (own n run).store (n.number key) ≡ got_reply n.layout (own n run).store (n.number key) o
    own_reply g o p =
        let h : nat_le 16 (hold_count (map (renumbered n.number) es) run.store.pass) ≡ false =
        ap (nat_le 16) (same_hold_count n.number n.one es run.store.pass) ∙ g in
        let q : present_value (map (renumbered n.number) es) (n.number key) ≡ o =
        same_present n.number n.one es key ∙ p in
        let j = is.1 in
        rw (j, h, q) refl

    reply : nat_le 16 (hold_count es run.store.pass) ≡ false → (o : Option (List ℕ)) → present_value es key ≡ o
        → get_reply n.layout run.store key ≡ got_reply n.layout run.store key o
    reply g o p = let h = placed_is_key n.layout n.shape key is.0 in rw (h, g, p) refl

    by_own_reply : (r : PlainReply Hold) → get_reply n.layout (own n run).store (n.number key) ≡ r
        → (a ≡ done_answer r.answer) × (own n next ≡ record (own n run) { store = with_added (own n run).store r.adds })
        → AlongGet
    by_own_reply r q h = get_by_key (Ok key) e
        (subst (λ (x : PlainReply Hold). (a ≡ done_answer x.answer)
        × (own n next ≡ record (own n run) { store = with_added (own n run).store x.adds })) (sym q) h)

    along_full : nat_le 16 (hold_count es run.store.pass) ≡ true → Told (get_reply n.layout run.store key) a run next
        → AlongGet
    along_full g h =
        let is_key = placed_is_key n.layout n.shape key is.0 in
        let q : get_reply n.layout run.store key ≡ refused refusal.HoldsFull = rw (is_key, g) refl in
        let t = subst (λ (x : PlainReply Hold). Told x a run next) q h in
        let own_g : nat_le 16 (hold_count (map (renumbered n.number) es) run.store.pass) ≡ true =
        ap (nat_le 16) (same_hold_count n.number n.one es run.store.pass) ∙ g in
        let own_q : get_reply n.layout (own n run).store (n.number key) ≡ refused refusal.HoldsFull =
        (let own_is_key = is.1 in rw (own_is_key, own_g) refl) in
        by_own_reply (refused refusal.HoldsFull) own_q (t.0, ap (own n) t.1)

    along_gone : nat_le 16 (hold_count es run.store.pass) ≡ false → present_value es key ≡ None
        → Told (get_reply n.layout run.store key) a run next → AlongGet
    along_gone g p h =
        let t = subst (λ (x : PlainReply Hold). Told x a run next) (reply g None p) h in
        by_own_reply (got_reply n.layout (own n run).store (n.number key) None) (own_reply g None p)
        (t.0, ap (own n) t.1 ∙ own_added n run (Gone run.store.pass key))

    along_there : nat_le 16 (hold_count es run.store.pass) ≡ false → (value : List ℕ)
        → present_value es key ≡ Some value → Told (get_reply n.layout run.store key) a run next → AlongGet
    along_there g value p h = go (nat_le n.layout.guard_max (holds_on es key)) refl
        (subst (λ (x : PlainReply Hold). Told x a run next) (reply g (Some value) p) h)
      where
        own_got : (c : Bool) → nat_le n.layout.guard_max (holds_on es key) ≡ c
            → got_reply n.layout (own n run).store (n.number key) (Some value)
            ≡ cond c (record { answer = Err refusal.Crowded; adds = Some (Crowded run.store.pass (n.number key)) })
            (record {
              answer = Ok (record { key = n.number key });
              adds = Some (Got run.store.pass (n.number key) value);
            })
        own_got c k =
            let z : nat_le n.layout.guard_max (holds_on (map (renumbered n.number) es) (n.number key)) ≡ c =
            ap (nat_le n.layout.guard_max) (same_holds_on n.number n.one es key) ∙ k in
            rw z refl

        go : (c : Bool) → nat_le n.layout.guard_max (holds_on es key) ≡ c
            → Told (got_reply n.layout run.store key (Some value)) a run next → AlongGet
        go true k t =
            let u : Told crowded a run next =
            rw k at t in
            by_own_reply _ (own_reply g (Some value) p ∙ own_got true k)
            (u.0, ap (own n) u.1 ∙ own_added n run (Crowded run.store.pass key))
        go false k t =
            let u : Told (given_hold value) a run next
            = rw k at t in
            by_own_reply _ (own_reply g (Some value) p ∙ own_got false k)
            (u.0, ap (own n) u.1 ∙ own_added n run (Got run.store.pass key value))

    get_told : Told (get_reply n.layout run.store key) a run next → AlongGet
    get_told h = go (nat_le 16 (hold_count es run.store.pass)) refl
      where
        room : nat_le 16 (hold_count es run.store.pass) ≡ false → (o : Option (List ℕ)) → present_value es key ≡ o
            → AlongGet
        room g None p = along_gone g p h
        room g (Some value) p = along_there g value p h

        go : (b : Bool) → nat_le 16 (hold_count es run.store.pass) ≡ b → AlongGet
        go true g = along_full g h
        go false g = room g (present_value es key) refl

  pub get_along : WherePlaced n.layout n.shape (key_named run i)
      (HasReply (get_reply n.layout) run (key_named run i) a next) run a next
      → Found n owned run next (call.Get (reference.Name i)) a
  get_along h = go (key_named run i) refl
    where
      at : (k : Result ℕ Answer) → key_named run i ≡ k
          → WherePlaced n.layout n.shape k (HasReply (get_reply n.layout) run k a next) run a next
      at k e = subst (λ (x : Result ℕ Answer).
          WherePlaced n.layout n.shape x (HasReply (get_reply n.layout) run x a next) run a next) e h

      go : (k : Result ℕ Answer) → key_named run i ≡ k → Found n owned run next (call.Get (reference.Name i)) a
      go (Err b) e =
          let t = at (Err b) e in
          record {
            along = get_by_key (Err b) e (t.0, ap (own n) t.1);
            keys = same_keys n run next (ap (λ (m : Run). m.keys) t.1) keys;
          }
      go (Ok key) e =
          let is = known n run i key keys e in
          let g : HasReply (get_reply n.layout) run (Ok key) a next =
          subst (λ (b : Bool). IfPlaced b (HasReply (get_reply n.layout) run (Ok key) a next) run a next) is.0
          (at (Ok key) e) in
          record {
            along = get_told key e is g;
            keys = same_keys n run next (ap (λ (m : Run). m.keys) g.1) keys;
          }
