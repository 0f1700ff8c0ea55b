-- A plain store stays sound.
use Rattle.std.proofs.Common.{◌≡◌, ℕ, ◌+◌, ◌-◌, ◌<◌, ◌≤◌, Bool, true, false, cond, List, [], ◌∷◌, ◌++◌, None, Some}
use Rattle.std.proofs.Common.{refl, sym, ◌∙◌, ap, arith, length, length-append, length-set, get_or, set}
use Rattle.std.specs.List.{swap_remove}
use Rattle.std.proofs.lemmas.Option.{slice_get-get_or}
use Rattle.sh_key.specs.Layout.{Layout, first_key, key_count}
use Rattle.sh_history.specs.declared.entry.Entry.{Entry}
use Rattle.sh_history.specs.declared.entry.Entry.TheVariants.{Insert, Got, Removed, Released}
use Rattle.sh_history.specs.History.{Allowed, is_insert, insert_count, value_of}
use Rattle.sh_history.proofs.Laws.{legal_more}
use Rattle.sh_history.proofs.LogLaws.{count_by-push}
use Rattle.sh_plain.specs.declared.index.Issued.{Issued}
use Rattle.sh_plain.specs.declared.index.Held.{Held}
use Rattle.sh_plain.specs.Index.{issued_at, issued_value, IsIndex}
use Rattle.sh_plain.specs.Plain.{IsSound, IsUnindexed}
use Rattle.sh_plain.proofs.Issued.{past_is_not_issued, issued_is_within, at_place}
use Rattle.sh_plain.proofs.IndexSteps.{index_unindexed, index_got, index_released, index_inserted, index_removed}

module _ (layout : Layout) (entries : List Entry) (pass passes : ℕ) (issued : List Issued) (holds : List Held)
    (sound : IsSound layout entries pass passes issued holds) where
  -- a key past the issued ones has no value
  pub fresh : (key : ℕ) → first_key layout + length issued ≤ key → value_of entries key ≡ None
  fresh key past = sound.index.values key ∙ ap issued_value (past_is_not_issued (first_key layout) issued key past)

  -- by an entry that may follow and is no insert, with what the index says afterwards
  sound_more : (e : Entry) (issued' : List Issued) (holds' : List Held)
      → Allowed passes layout.guard_max entries e → is_insert e ≡ false → length issued' ≡ length issued
      → IsIndex (first_key layout) (entries ++ e ∷ []) issued' holds'
      → IsSound layout (entries ++ e ∷ []) pass passes issued' holds'
  sound_more e issued' holds' allowed plain same index = record {
    legal = legal_more passes layout.guard_max entries e sound.legal allowed;
    some_pass = sound.some_pass;
    own = sound.own;
    counted = same ∙ sound.counted ∙ sym (count_by-push is_insert entries e
        ∙ rw plain (let z : insert_count entries + 0 ≡ insert_count entries = omega arith in z));
    room = rw same sound.room;
    index = index;
  }

  no_insert : (e : Entry) → IsUnindexed e → is_insert e ≡ false
  no_insert (Insert p k v) unindexed = absurd unindexed
  no_insert _ unindexed = refl

  -- by an entry that leaves the index as it is, or by none
  pub sound_noted : (b : Bool) (after : List Entry) (e : Entry)
      → Allowed passes layout.guard_max entries e → IsUnindexed e → after ≡ cond b (entries ++ e ∷ []) entries
      → IsSound layout after pass passes issued holds
  sound_noted true after e allowed unindexed is =
      rw is (sound_more e issued holds allowed (no_insert e unindexed) refl
      (index_unindexed (first_key layout) entries issued holds sound.index e unindexed))
  sound_noted false after e allowed unindexed is = rw is sound

  pub sound_got : (key : ℕ) (value : List ℕ) → Allowed passes layout.guard_max entries (Got pass key value)
      → IsSound layout (entries ++ Got pass key value ∷ []) pass passes issued
      (holds ++ record { pass = pass; key = key } ∷ [])
  sound_got key value allowed =
      sound_more (Got pass key value) issued (holds ++ record { pass = pass; key = key } ∷ []) allowed refl refl
      (index_got (first_key layout) entries issued holds sound.index pass key value)

  pub sound_released : (key at : ℕ) (d : Held) → Allowed passes layout.guard_max entries (Released pass key)
      → at < length holds → get_or holds at d ≡ record { pass = pass; key = key }
      → IsSound layout (entries ++ Released pass key ∷ []) pass passes issued (swap_remove holds at d)
  sound_released key at d allowed inside here =
      sound_more (Released pass key) issued (swap_remove holds at d) allowed refl refl
      (index_released (first_key layout) entries issued holds sound.index pass key at d inside here)

  -- a key that may be removed is issued
  pub removable_is_within : (p key : ℕ) → Allowed passes layout.guard_max entries (Removed p key)
      → (first_key layout ≤ key) × (key - first_key layout < length issued)
  removable_is_within p key allowed =
      issued_is_within (first_key layout) issued key (rw (sound.index.values key) at allowed.0)

  pub sound_removed : (key : ℕ) (old d : Issued) → Allowed passes layout.guard_max entries (Removed pass key)
      → old ≡ get_or issued (key - first_key layout) d
      → IsSound layout (entries ++ Removed pass key ∷ []) pass passes
      (set issued (key - first_key layout) (record { value = old.value; removed = true })) holds
  sound_removed key old d allowed is =
      let first = first_key layout in
      let within = removable_is_within pass key allowed in
      let new : Issued = record { value = old.value; removed = true } in
      let was : issued_at first issued key ≡ Some old =
      at_place first issued issued key within.0 ∙ slice_get-get_or issued (key - first) d within.1 ∙ ap Some (sym is) in
      sound_more (Removed pass key) (set issued (key - first) new) holds allowed refl
      (length-set issued (key - first) new)
      (index_removed first entries issued holds sound.index pass key new old within.0 within.1 was refl refl)

  -- by the insert of the next key
  pub sound_inserted : (value : List ℕ) → length issued < key_count layout
      → IsSound layout (entries ++ Insert pass (first_key layout + length issued) value ∷ []) pass passes
      (issued ++ record { value = value; removed = false } ∷ []) holds
  sound_inserted value room =
      let longer : length (issued ++ record { value = value; removed = false } ∷ [])
      ≡ length issued + 1 = simp length-append (omega arith) in
      record {
        legal = legal_more passes layout.guard_max entries (Insert pass (first_key layout + length issued) value)
            sound.legal
            (fresh (first_key layout + length issued) (omega arith));
        some_pass = sound.some_pass;
        own = sound.own;
        counted = longer ∙ ap (λ n. n + 1) sound.counted
            ∙ sym (count_by-push is_insert entries (Insert pass (first_key layout + length issued) value));
        room = rw longer (omega arith);
        index = index_inserted (first_key layout) entries issued holds sound.index pass value;
      }
