-- The key that an insert gives.
use Rattle.std.proofs.Common.{◌≡◌, ℕ, ◌+◌, ◌<◌, Bool, true, false, cond, List, Some, refl, arith, subst, Ok, Err}
use Rattle.std.proofs.Common.{Result, ltb-true}
use Rattle.std.specs.Prelude.{nat_lt, IfOk}
use Rattle.sh_value.specs.declared.refusal.Refusal.{Refusal}
use Rattle.sh_value.specs.declared.refusal.Refusal.TheVariants as refusal
use Rattle.sh_key.specs.Layout.{Layout, first_key, key_count}
use Rattle.sh_key.proofs.Packing.{keys_are_consecutive}
use Rattle.sh_history.specs.declared.entry.Entry.TheVariants.{Insert}
use Rattle.sh_history.specs.History.{insert_count}
use Rattle.sh_plain.specs.declared.index.Issued.{Issued}
use Rattle.sh_plain.specs.declared.index.Held.{Held}
use Rattle.sh_plain.proofs.Sound.{fresh}
use Rattle.sh_plain.specs.Plain.{Plain, PlainReply, Replied, refused, insert_reply, IsNewKey, IsSound}

chosen_reply : (b : Bool) (issued : PlainReply ℕ) (key : ℕ) → (cond b issued (refused refusal.Full)).answer ≡ Ok key
    → (b ≡ true) × (issued.answer ≡ Ok key)
chosen_reply true issued key is = (refl, is)
chosen_reply false issued key is = absurd (let h : ⊥ = cc in h)

module _ (layout : Layout) (issued : List Issued) (holds : List Held) (s : Plain)
    (sound : IsSound layout s.entries s.pass s.passes issued holds) where
  next_is_new : insert_count s.entries < key_count layout → IsNewKey layout s.entries
      (first_key layout + insert_count s.entries)
  next_is_new room = record {
    is_key = (keys_are_consecutive layout (first_key layout + insert_count s.entries)).1 (omega arith, omega arith);
    not_issued = fresh layout s.entries s.pass s.passes issued holds sound (first_key layout + insert_count s.entries)
        (let same = sound.counted in omega arith);
  }

  -- an insert that returns a key returns a new one
  pub new_key : (value : List ℕ) (result : Result ℕ Refusal) (t : Plain)
      → Replied (insert_reply layout s value) s result t
      → IfOk result (IsNewKey layout s.entries)
  new_key value (Ok key) t h =
      let n = insert_count s.entries in
      let issued : PlainReply ℕ = record {
        answer = Ok (first_key layout + n);
        adds = Some
            (Insert s.pass (first_key layout + n) value);
      } in
      let c = chosen_reply (nat_lt n (key_count layout)) issued key h.0 in
      let same : first_key layout + n ≡ key = cc in
      let P : ℕ → Type 0 = λ k. IsNewKey layout s.entries k in
      subst P same (next_is_new (ltb-true _ _ c.0))
  new_key value (Err r) t h = tt
