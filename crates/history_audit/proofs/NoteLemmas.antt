-- What the notes say after one more entry.
use Rattle.std.proofs.Common.{◌≡◌, ℕ, ◌+◌, Bool, true, false, cond, List, [], ◌∷◌, ◌++◌, Option, Some, None, refl}
use Rattle.std.proofs.Common.{sym, rules, arith, eq-eqb}
use Rattle.std.specs.Prelude.{◌==◌, option_map}
use Rattle.std.specs.Option.{option_or}
use Rattle.sh_history.specs.declared.entry.Entry.{Entry}
use Rattle.sh_history.specs.declared.entry.Entry.TheVariants.{Insert, Got, Gone, Crowded, Removed, Released, Seen}
use Rattle.sh_history.specs.History.{is_got_of, is_release_of, is_removal_of}
use Rattle.sh_history.proofs.LogLaws.{count_by-push}
use Rattle.history_audit.specs.declared.note.Note.{Note}
use Rattle.history_audit.specs.Lines.{entries_in, is_insert_of, key_of}
use Rattle.history_audit.specs.Noted.{IsNote, noted_removal, noted_got, noted_released}
use Rattle.history_audit.proofs.LineLemmas.{entries_in-push, first_number-push, value_of-push, value_by}

or_none : {X : Type 0} (o : Option X) → option_or o None ≡ o
or_none None = refl
or_none (Some x) = refl

-- what an entry adds to the note on a key
record Adds (line : ℕ) (entry : Entry) (key : ℕ) (old new : Option Note) : Type 0 where
  value : option_map (λ (n : Note). n.value) new
      ≡ option_or (option_map (λ (n : Note). n.value) old) (value_by entry key)
  inserted : option_map (λ (n : Note). n.inserted) new
      ≡ option_or (option_map (λ (n : Note). n.inserted) old) (cond (is_insert_of key entry) (Some line) None)
  removed : noted_removal new ≡ option_or (noted_removal old) (cond (is_removal_of key entry) (Some line) None)
  got : noted_got new ≡ noted_got old + cond (is_got_of key entry) 1 0
  released : noted_released new ≡ noted_released old + cond (is_release_of key entry) 1 0

is_note_after : (lines : List (ℕ × Entry)) (line : ℕ) (entry : Entry) (key : ℕ) (old new : Option Note)
    → IsNote lines key old → Adds line entry key old new → IsNote (lines ++ (line, entry) ∷ []) key new
is_note_after lines line entry key old new is adds = record {
  value = rw (entries_in-push lines line entry, value_of-push (entries_in lines) entry key, ← is.value) adds.value;
  inserted = rw (first_number-push (is_insert_of key) lines line entry, ← is.inserted) adds.inserted;
  removed = rw (first_number-push (is_removal_of key) lines line entry, ← is.removed) adds.removed;
  got =
      rw (entries_in-push lines line entry, count_by-push (is_got_of key) (entries_in lines) entry, ← is.got)
      adds.got;
  released =
      rw (
        entries_in-push lines line entry,
        count_by-push (is_release_of key) (entries_in lines) entry,
        ← is.released,
      ) adds.released;
}

-- nothing is added to the note on another key
adds_nothing : (line : ℕ) (entry : Entry) (key : ℕ) (note : Option Note) → (key_of entry == key) ≡ false
    → Adds line entry key note note
adds_nothing line (Insert p k v) key known apart = record {
  value = rw apart (sym (or_none _));
  inserted = rw apart (sym (or_none _));
  removed = sym (or_none _);
  got = omega arith;
  released = omega arith;
}
adds_nothing line (Got p k v) key known apart = record {
  value = sym (or_none _);
  inserted = sym (or_none _);
  removed = sym (or_none _);
  got = rw apart (omega arith);
  released = omega arith;
}
adds_nothing line (Gone p k) key known apart = record {
  value = sym (or_none _);
  inserted = sym (or_none _);
  removed = sym (or_none _);
  got = omega arith;
  released = omega arith;
}
adds_nothing line (Crowded p k) key known apart = record {
  value = sym (or_none _);
  inserted = sym (or_none _);
  removed = sym (or_none _);
  got = omega arith;
  released = omega arith;
}
adds_nothing line (Seen p k v) key known apart = record {
  value = sym (or_none _);
  inserted = sym (or_none _);
  removed = sym (or_none _);
  got = omega arith;
  released = omega arith;
}
adds_nothing line (Removed p k) key known apart = record {
  value = sym (or_none _);
  inserted = sym (or_none _);
  removed = rw apart (sym (or_none _));
  got = omega arith;
  released = omega arith;
}
adds_nothing line (Released p k) key known apart = record {
  value = sym (or_none _);
  inserted = sym (or_none _);
  removed = sym (or_none _);
  got = omega arith;
  released = rw apart (omega arith);
}

module _ (lines : List (ℕ × Entry)) (line : ℕ) where
  -- a note that is written, and the others as they were
  pub notes_written : (entry : Entry) (f g : ℕ → Option Note) (w : Option Note)
      → ((q : ℕ) → g q ≡ cond (key_of entry == q) w (f q)) → ((q : ℕ) → IsNote lines q (f q))
      → IsNote (lines ++ (line, entry) ∷ []) (key_of entry) w → (q : ℕ)
      → IsNote (lines ++ (line, entry) ∷ []) q (g q)
  notes_written entry f g w writes is here q = rw (writes q) (go (key_of entry == q) refl) where
    go : (b : Bool) → (key_of entry == q) ≡ b → IsNote (lines ++ (line, entry) ∷ []) q (cond b w (f q))
    go true same = let e : key_of entry ≡ q = search rules in rw (← e) here
    go false apart =
        is_note_after lines line entry q (f q) (f q) (is q) (adds_nothing line entry q (f q) apart)

  pub inserted_note : (p k : ℕ) (v : List ℕ) → IsNote lines k None
      → IsNote (lines ++ (line, Insert p k v) ∷ []) k
      (Some (record { value = v; inserted = line; removed = None; got = 0; released = 0 }))
  inserted_note p k v is = is_note_after lines line (Insert p k v) k None _ is (record {
    value = rw (eq-eqb k k refl) refl;
    inserted = rw (eq-eqb k k refl) refl;
    removed = refl;
    got = refl;
    released = refl;
  })

  pub got_note : (p k : ℕ) (v : List ℕ) (note : Note) → IsNote lines k (Some note)
      → IsNote (lines ++ (line, Got p k v) ∷ []) k (Some (record note { got = note.got + 1 }))
  got_note p k v note is = is_note_after lines line (Got p k v) k (Some note) _ is (record {
    value = refl;
    inserted = refl;
    removed = sym (or_none _);
    got = rw (eq-eqb k k refl) refl;
    released = omega arith;
  })

  pub removed_note : (p k : ℕ) (note : Note) → note.removed ≡ None → IsNote lines k (Some note)
      → IsNote (lines ++ (line, Removed p k) ∷ []) k (Some (record note { removed = Some line }))
  removed_note p k note none is = is_note_after lines line (Removed p k) k (Some note) _ is (record {
    value = refl;
    inserted = refl;
    removed = rw (eq-eqb k k refl, none) refl;
    got = omega arith;
    released = omega arith;
  })

  pub released_note : (p k : ℕ) (note : Note) → IsNote lines k (Some note)
      → IsNote (lines ++ (line, Released p k) ∷ []) k (Some (record note { released = note.released + 1 }))
  released_note p k note is = is_note_after lines line (Released p k) k (Some note) _ is (record {
    value = refl;
    inserted = refl;
    removed = sym (or_none _);
    got = omega arith;
    released = rw (eq-eqb k k refl) refl;
  })

  -- these three entries change no note
  pub gone_notes : (p k q : ℕ) (note : Option Note) → IsNote lines q note
      → IsNote (lines ++ (line, Gone p k) ∷ []) q note
  gone_notes p k q note is = is_note_after lines line (Gone p k) q note note is (record {
    value = sym (or_none _);
    inserted = sym (or_none _);
    removed = sym (or_none _);
    got = omega arith;
    released = omega arith;
  })

  pub crowded_notes : (p k q : ℕ) (note : Option Note) → IsNote lines q note
      → IsNote (lines ++ (line, Crowded p k) ∷ []) q note
  crowded_notes p k q note is = is_note_after lines line (Crowded p k) q note note is (record {
    value = sym (or_none _);
    inserted = sym (or_none _);
    removed = sym (or_none _);
    got = omega arith;
    released = omega arith;
  })

  pub seen_notes : (p k : ℕ) (v : List ℕ) (q : ℕ) (note : Option Note) → IsNote lines q note
      → IsNote (lines ++ (line, Seen p k v) ∷ []) q note
  seen_notes p k v q note is = is_note_after lines line (Seen p k v) q note note is (record {
    value = sym (or_none _);
    inserted = sym (or_none _);
    removed = sym (or_none _);
    got = omega arith;
    released = omega arith;
  })
