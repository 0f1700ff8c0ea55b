-- An audit takes an entry of each kind.
use Rattle.std.proofs.Common.{◌≡◌, ℕ, ◌+◌, ◌-◌, ◌<◌, ◌≤◌, Bool, true, false, cond, List, [], ◌∷◌, ◌++◌, Option, Some}
use Rattle.std.proofs.Common.{None, refl}
use Rattle.std.proofs.Common.{sym, ◌∙◌, ap, arith}
use Rattle.std.specs.Prelude.{◌==◌, ◌&&◌, is_some, nat_eq}
use Rattle.std.specs.HashMap.{get, hash_map_len}
use Rattle.sh_history.specs.declared.entry.Entry.{Entry}
use Rattle.sh_history.specs.declared.entry.Entry.TheVariants.{Insert, Got, Gone, Crowded, Removed, Released, Seen}
use Rattle.sh_history.specs.History.{value_of, is_removed, holds_by, got_count, got_count_by, is_got_of}
use Rattle.sh_history.specs.History.{is_got_by, Allowed}
use Rattle.sh_history.proofs.LogLaws.{count_by-cons}
use Rattle.history_audit.specs.declared.audit.Audit.{Audit}
use Rattle.history_audit.specs.declared.note.Note.{Note}
use Rattle.history_audit.specs.Lines.{entries_in}
use Rattle.history_audit.specs.Noted.{IsNote, noted_got, noted_released}
use Rattle.history_audit.specs.Held.{held, one_at}
use Rattle.history_audit.specs.Followed.{Follows}
use Rattle.history_audit.proofs.LineLemmas.{removed_by_line}
use Rattle.history_audit.proofs.HeldLemmas.{are_same}
use Rattle.history_audit.proofs.NoteLemmas.{notes_written, inserted_note, got_note, removed_note, released_note}
use Rattle.history_audit.proofs.NoteLemmas.{gone_notes}
use Rattle.history_audit.proofs.NoteLemmas.{crowded_notes, seen_notes}
use Rattle.history_audit.proofs.FollowLemmas.{IsSame, follows_push, is_held}

-- the note on this key is written, and the others stay as they were
pub record Writes (a b : Audit) (key : ℕ) (note : Note) : Type 0 where
  pub same : IsSame a b
  pub notes : (q : ℕ) → get nat_eq b.notes q ≡ cond (nat_eq key q) (Some note) (get nat_eq a.notes q)

module _ (a b : Audit) (lines : List (ℕ × Entry)) (line : ℕ) (is : Follows a lines) where
  pub takes_insert : (p k : ℕ) (v : List ℕ) → Allowed a.passes a.guard_max (entries_in lines) (Insert p k v)
      → Writes a b k (record { value = v; inserted = line; removed = None; got = 0; released = 0 })
      → b.holds ≡ a.holds → get nat_eq a.notes k ≡ None → hash_map_len b.notes ≡ hash_map_len a.notes + 1
      → Follows b (lines ++ (line, Insert p k v) ∷ [])
  takes_insert p k v allowed writes holds none keys = follows_push a b lines line (Insert p k v) is (record {
    same = writes.same;
    allowed = allowed;
    notes = notes_written lines line (Insert p k v) (get nat_eq a.notes) (get nat_eq b.notes) _ writes.notes is.notes
        (inserted_note lines line p k v (rw none at (is.notes k)));
    holds = λ q r. rw holds refl;
    keys = keys;
  })

  pub takes_got : (p k : ℕ) (v : List ℕ) (note : Note) (n : ℕ)
      → Allowed a.passes a.guard_max (entries_in lines) (Got p k v) → get nat_eq a.notes k ≡ Some note
      → n ≡ noted_got (get nat_eq a.notes k) + 1 → Writes a b k (record note { got = n })
      → ((q r : ℕ) → held b.holds q r ≡ held a.holds q r + one_at p k q r)
      → hash_map_len b.notes ≡ hash_map_len a.notes → Follows b (lines ++ (line, Got p k v) ∷ [])
  takes_got p k v note n allowed some n_is writes holds keys = follows_push a b lines line (Got p k v) is (record {
    same = writes.same;
    allowed = allowed;
    notes = notes_written lines line (Got p k v) (get nat_eq a.notes) (get nat_eq b.notes) _ writes.notes is.notes
        (let more : n ≡ note.got + 1 = rw some at n_is in
        rw more (got_note lines line p k v note (rw some at (is.notes k))));
    holds = λ q r. let h = holds q r in omega arith;
    keys = omega arith;
  })

  pub takes_removed : (p k : ℕ) (note : Note)
      → Allowed a.passes a.guard_max (entries_in lines) (Removed p k) → get nat_eq a.notes k ≡ Some note
      → Writes a b k (record note { removed = Some line }) → b.holds ≡ a.holds
      → hash_map_len b.notes ≡ hash_map_len a.notes → Follows b (lines ++ (line, Removed p k) ∷ [])
  takes_removed p k note allowed some writes holds keys = follows_push a b lines line (Removed p k) is (record {
    same = writes.same;
    allowed = allowed;
    notes = notes_written lines line (Removed p k) (get nat_eq a.notes) (get nat_eq b.notes) _ writes.notes is.notes
        (removed_note lines line p k note none here);
    holds = λ q r. rw holds refl;
    keys = omega arith;
  })
    where
      here : IsNote lines k (Some note)
      here = rw some at (is.notes k)

      none : note.removed ≡ None
      none = go note.removed refl where
        go : (o : Option ℕ) → note.removed ≡ o → o ≡ None
        go None e = refl
        go (Some at) e =
            let gone : is_removed (entries_in lines) k ≡ true =
            removed_by_line lines k ∙ ap is_some (sym here.removed ∙ e) in
            let stays : is_removed (entries_in lines) k ≡ false = allowed.1 in
            absurd (let no : ⊥ = cc in no)

  pub takes_released : (p k : ℕ) (note : Note) (n : ℕ)
      → Allowed a.passes a.guard_max (entries_in lines) (Released p k) → get nat_eq a.notes k ≡ Some note
      → n ≡ noted_released (get nat_eq a.notes k) + 1 → Writes a b k (record note { released = n })
      → ((q r : ℕ) → held b.holds q r ≡ held a.holds q r - one_at p k q r)
      → hash_map_len b.notes ≡ hash_map_len a.notes → Follows b (lines ++ (line, Released p k) ∷ [])
  takes_released p k note n allowed some n_is writes holds keys =
      follows_push a b lines line (Released p k) is (record {
        same = writes.same;
        allowed = allowed;
        notes =
            notes_written lines line (Released p k) (get nat_eq a.notes) (get nat_eq b.notes) _ writes.notes is.notes
            (let more : n ≡ note.released + 1 = rw some at n_is in
            rw more (released_note lines line p k note (rw some at (is.notes k))));
        holds = λ q r. rw (holds q r) (go q r ((p == q) && (k == r)) refl);
        keys = omega arith;
      })
    where
      some_held : 0 < held a.holds p k
      some_held = is_held a lines p k is allowed

      go : (q r : ℕ) (b : Bool) → ((p == q) && (k == r)) ≡ b
          → (held a.holds q r - cond b 1 0) + cond b 1 0 ≡ held a.holds q r + 0
      go q r true same =
          let e = are_same p k q r same in
          let here : 0 < held a.holds q r = rw (← e.0, ← e.1) some_held in
          omega arith
      go q r false apart = omega arith

-- these three entries change nothing
pub takes_seen : (a : Audit) (lines : List (ℕ × Entry)) (line p k : ℕ) (v : List ℕ) → Follows a lines
    → Allowed a.passes a.guard_max (entries_in lines) (Seen p k v) → Follows a (lines ++ (line, Seen p k v) ∷ [])
takes_seen a lines line p k v is allowed = follows_push a a lines line (Seen p k v) is (record {
  same = record { passes = refl; guard_max = refl };
  allowed = allowed;
  notes = λ q. seen_notes lines line p k v q (get nat_eq a.notes q) (is.notes q);
  holds = λ q r. refl;
  keys = omega arith;
})

pub takes_gone : (a : Audit) (lines : List (ℕ × Entry)) (line p k : ℕ) → Follows a lines
    → Allowed a.passes a.guard_max (entries_in lines) (Gone p k) → Follows a (lines ++ (line, Gone p k) ∷ [])
takes_gone a lines line p k is allowed = follows_push a a lines line (Gone p k) is (record {
  same = record { passes = refl; guard_max = refl };
  allowed = allowed;
  notes = λ q. gone_notes lines line p k q (get nat_eq a.notes q) (is.notes q);
  holds = λ q r. refl;
  keys = omega arith;
})

pub takes_crowded : (a : Audit) (lines : List (ℕ × Entry)) (line p k : ℕ) → Follows a lines
    → Allowed a.passes a.guard_max (entries_in lines) (Crowded p k) → Follows a (lines ++ (line, Crowded p k) ∷ [])
takes_crowded a lines line p k is allowed = follows_push a a lines line (Crowded p k) is (record {
  same = record { passes = refl; guard_max = refl };
  allowed = allowed;
  notes = λ q. crowded_notes lines line p k q (get nat_eq a.notes q) (is.notes q);
  holds = λ q r. refl;
  keys = omega arith;
})

-- a key that was not issued has no note
pub no_note : (a : Audit) (lines : List (ℕ × Entry)) (key : ℕ) → Follows a lines
    → value_of (entries_in lines) key ≡ None → get nat_eq a.notes key ≡ None
no_note a lines key is none = go (get nat_eq a.notes key) (is.notes key) where
  go : (o : Option Note) → IsNote lines key o → o ≡ None
  go None known = refl
  go (Some note) known = absurd (let e = known.value in let no : ⊥ = cc in no)

-- a pass got a key at most as often as all passes
got_by_le : (xs : List Entry) (p key : ℕ) → got_count_by xs p key ≤ got_count xs key
got_by_le [] p key = omega arith
got_by_le (Got q k v ∷ xs) p key =
    rw (count_by-cons (is_got_by p key) (Got q k v) xs, count_by-cons (is_got_of key) (Got q k v) xs)
    (go (q == p) (k == key) (got_by_le xs p key))
  where
    go : (b d : Bool) → got_count_by xs p key ≤ got_count xs key
        → cond (b && d) 1 0 + got_count_by xs p key ≤ cond d 1 0 + got_count xs key
    go true d le = omega arith
    go false d le = omega arith
got_by_le (x ∷ xs) p key =
    rw (count_by-cons (is_got_by p key) x xs, count_by-cons (is_got_of key) x xs)
    (let le = got_by_le xs p key in omega arith)

-- no pass has a hold on a key without a note
pub no_holds : (a : Audit) (lines : List (ℕ × Entry)) (p key : ℕ) → Follows a lines → get nat_eq a.notes key ≡ None
    → 0 < holds_by (entries_in lines) p key → ⊥
no_holds a lines p key is none some =
    let note : IsNote lines key None = rw none at (is.notes key) in
    let le = got_by_le (entries_in lines) p key in
    omega (arith, note.got)
