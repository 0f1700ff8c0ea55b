-- The index says what the entries say, also after an entry is added.
use Rattle.std.proofs.Common.{◌≡◌, ◌≢◌, ℕ, ◌+◌, ◌-◌, ◌<◌, ◌≤◌, Bool, true, false, cond, List, [], ◌∷◌, ◌++◌}
use Rattle.std.proofs.Common.{Some, None, refl, sym, ◌∙◌, ap, arith, rules, length, get_or, set}
use Rattle.std.specs.Prelude.{◌==◌, ◌||◌, count_by}
use Rattle.std.specs.List.{swap_remove}
use Rattle.std.proofs.Math.Bool.{or-false, or-true}
use Rattle.std.proofs.lemmas.List.Folds.{list_any-append}
use Rattle.std.proofs.lemmas.List.Sums.{sum_by-swap_remove}
use Rattle.sh_history.specs.declared.entry.Entry.{Entry}
use Rattle.sh_history.specs.declared.entry.Entry.TheVariants.{Insert, Got, Gone, Crowded, Removed, Released, Seen}
use Rattle.sh_history.specs.History.{value_of, is_removed, is_removal_of, is_got_by, is_release_by, is_got_of}
use Rattle.sh_history.specs.History.{is_release_of, is_got_from, is_release_from}
use Rattle.sh_history.proofs.LogLaws.{value_of-append_none, count_by-push, value_stays}
use Rattle.sh_plain.specs.declared.index.Issued.{Issued}
use Rattle.sh_plain.specs.declared.index.Held.{Held}
use Rattle.sh_plain.specs.Index.{issued_at, issued_value, issued_removed, is_hold_by, is_hold_of, is_hold_on, IsIndex}
use Rattle.sh_plain.specs.Plain.{IsUnindexed}
use Rattle.sh_plain.proofs.Issued.{past_is_not_issued, next_is_issued, others_stay_issued, changed_is_known}
use Rattle.sh_plain.proofs.Issued.{others_stay_known}

-- ---- what an entry adds to a history

removed_after : (entries : List Entry) (e : Entry) (key : ℕ) → is_removed (entries ++ e ∷ []) key
    ≡ (is_removed entries key || is_removed (e ∷ []) key)
removed_after entries e key = list_any-append (is_removal_of key) entries (e ∷ [])

removal_stays : (entries : List Entry) (e : Entry) (key : ℕ) → is_removed (e ∷ []) key ≡ false
    → is_removed (entries ++ e ∷ []) key ≡ is_removed entries key
removal_stays entries e key none = removed_after entries e key ∙ rw none (or-false (is_removed entries key))

-- ---- counts of gets, of releases and of holds

-- by an entry that is neither a get nor a release
count_stays : (got released : Entry → Bool) (entries : List Entry) (e : Entry) (held : ℕ)
    → got e ≡ false → released e ≡ false → count_by got entries ≡ count_by released entries + held
    → count_by got (entries ++ e ∷ []) ≡ count_by released (entries ++ e ∷ []) + held
count_stays got released entries e held no_got no_release is =
    rw (count_by-push got entries e, count_by-push released entries e, no_got, no_release) (omega arith)

-- by a get, whose hold is added
count_got : (got released : Entry → Bool) (mine : Held → Bool) (entries : List Entry) (holds : List Held) (e : Entry)
    (held : Held)
    → got e ≡ mine held → released e ≡ false → count_by got entries ≡ count_by released entries + count_by mine holds
    → count_by got (entries ++ e ∷ []) ≡ count_by released (entries ++ e ∷ []) + count_by mine (holds ++ held ∷ [])
count_got got released mine entries holds e held same no_release is =
    rw (count_by-push got entries e, count_by-push released entries e, count_by-push mine holds held, same, no_release)
    (omega arith)

-- by a release, whose hold is taken away
count_released : (got released : Entry → Bool) (mine : Held → Bool) (entries : List Entry) (holds : List Held)
    (e : Entry) (held d : Held) (at : ℕ)
    → at < length holds → get_or holds at d ≡ held
    → got e ≡ false → released e ≡ mine held → count_by got entries ≡ count_by released entries + count_by mine holds
    → count_by got (entries ++ e ∷ []) ≡ count_by released (entries ++ e ∷ []) + count_by mine (swap_remove holds at d)
count_released got released mine entries holds e held d at inside here no_got same is =
    let taken : count_by mine (swap_remove holds at d) + cond (mine held) 1 0 ≡ count_by mine holds =
    rw here at (sum_by-swap_remove (λ h. cond (mine h) 1 0) holds at d inside) in
    rw (count_by-push got entries e, count_by-push released entries e, no_got, same) (omega (arith, taken))

module _ (first : ℕ) (entries : List Entry) (issued : List Issued) (holds : List Held)
    (index : IsIndex first entries issued holds) where
  pub index_unindexed : (e : Entry) → IsUnindexed e → IsIndex first (entries ++ e ∷ []) issued holds
  index_unindexed (Gone p k) is = record {
    values = λ key. value_stays entries (Gone p k) key refl ∙ index.values key;
    removals = λ key. removal_stays entries (Gone p k) key refl ∙ index.removals key;
    held_by = λ pass key. count_stays (is_got_by pass key) (is_release_by pass key) entries (Gone p k) _ refl refl
        (index.held_by pass key);
    held_of = λ pass. count_stays (is_got_from pass) (is_release_from pass) entries (Gone p k) _ refl refl
        (index.held_of pass);
    held_on = λ key. count_stays (is_got_of key) (is_release_of key) entries (Gone p k) _ refl refl (index.held_on key);
  }
  index_unindexed (Crowded p k) is = record {
    values = λ key. value_stays entries (Crowded p k) key refl ∙ index.values key;
    removals = λ key. removal_stays entries (Crowded p k) key refl ∙ index.removals key;
    held_by = λ pass key. count_stays (is_got_by pass key) (is_release_by pass key) entries (Crowded p k) _ refl refl
        (index.held_by pass key);
    held_of = λ pass. count_stays (is_got_from pass) (is_release_from pass) entries (Crowded p k) _ refl refl
        (index.held_of pass);
    held_on = λ key. count_stays (is_got_of key) (is_release_of key) entries (Crowded p k) _ refl refl
        (index.held_on key);
  }
  index_unindexed (Seen p k v) is = record {
    values = λ key. value_stays entries (Seen p k v) key refl ∙ index.values key;
    removals = λ key. removal_stays entries (Seen p k v) key refl ∙ index.removals key;
    held_by = λ pass key. count_stays (is_got_by pass key) (is_release_by pass key) entries (Seen p k v) _ refl refl
        (index.held_by pass key);
    held_of = λ pass. count_stays (is_got_from pass) (is_release_from pass) entries (Seen p k v) _ refl refl
        (index.held_of pass);
    held_on = λ key. count_stays (is_got_of key) (is_release_of key) entries (Seen p k v) _ refl refl
        (index.held_on key);
  }
  index_unindexed _ is = absurd is

  pub index_got : (p k : ℕ) (v : List ℕ) → IsIndex first (entries ++ Got p k v ∷ []) issued
      (holds ++ record { pass = p; key = k } ∷ [])
  index_got p k v = record {
    values = λ key. value_stays entries (Got p k v) key refl ∙ index.values key;
    removals = λ key. removal_stays entries (Got p k v) key refl ∙ index.removals key;
    held_by = λ pass key. count_got (is_got_by pass key) (is_release_by pass key) (is_hold_by pass key) entries holds
        (Got p k v) _ refl refl (index.held_by pass key);
    held_of = λ pass. count_got (is_got_from pass) (is_release_from pass) (is_hold_of pass) entries holds (Got p k v) _
        refl refl (index.held_of pass);
    held_on = λ key. count_got (is_got_of key) (is_release_of key) (is_hold_on key) entries holds (Got p k v) _ refl
        refl (index.held_on key);
  }

  pub index_released : (p k at : ℕ) (d : Held) → at < length holds → get_or holds at d ≡ record { pass = p; key = k }
      → IsIndex first (entries ++ Released p k ∷ []) issued (swap_remove holds at d)
  index_released p k at d inside here = record {
    values = λ key. value_stays entries (Released p k) key refl ∙ index.values key;
    removals = λ key. removal_stays entries (Released p k) key refl ∙ index.removals key;
    held_by = λ pass key. count_released (is_got_by pass key) (is_release_by pass key) (is_hold_by pass key) entries
        holds (Released p k) _ d at inside here refl refl (index.held_by pass key);
    held_of = λ pass. count_released (is_got_from pass) (is_release_from pass) (is_hold_of pass) entries holds
        (Released p k) _ d at inside here refl refl (index.held_of pass);
    held_on = λ key. count_released (is_got_of key) (is_release_of key) (is_hold_on key) entries holds (Released p k) _
        d at inside here refl refl (index.held_on key);
  }

  inserted_value : (p key : ℕ) (v : List ℕ) (b : Bool) → (first + length issued == key) ≡ b
      → value_of (entries ++ Insert p (first + length issued) v ∷ []) key
      ≡ issued_value (issued_at first (issued ++ record { value = v; removed = false } ∷ []) key)
  inserted_value p key v true is =
      let same : first + length issued ≡ key = search rules in
      let none : value_of entries key ≡ None = index.values key ∙ ap issued_value
      (past_is_not_issued first issued key (omega arith)) in
      let new : value_of (Insert p (first + length issued) v ∷ []) key ≡ Some v = rw is refl in
      let known : issued_at first (issued ++ record { value = v; removed = false } ∷ []) key
      ≡ Some (record { value = v; removed = false }) =
      rw (← same) (next_is_issued first issued (record { value = v; removed = false })) in
      value_of-append_none entries (Insert p (first + length issued) v ∷ []) key none ∙ new
      ∙ sym (ap issued_value known)
  inserted_value p key v false is =
      let other : key ≢ first + length issued = search rules in
      let none : value_of (Insert p (first + length issued) v ∷ []) key ≡ None = rw is refl in
      value_stays entries (Insert p (first + length issued) v) key none ∙ index.values key
      ∙ sym (ap issued_value (others_stay_issued first issued (record { value = v; removed = false }) key other))

  inserted_removal : (key : ℕ) (x : Issued) → x.removed ≡ false → (b : Bool) → (first + length issued == key) ≡ b
      → issued_removed (issued_at first issued key) ≡ issued_removed (issued_at first (issued ++ x ∷ []) key)
  inserted_removal key x present true is =
      let same : first + length issued ≡ key = search rules in
      let before : issued_at first issued key ≡ None = past_is_not_issued first issued key (omega arith) in
      let known : issued_at first (issued ++ x ∷ []) key ≡ Some x = rw (← same) (next_is_issued first issued x) in
      ap issued_removed before ∙ sym present ∙ sym (ap issued_removed known)
  inserted_removal key x present false is =
      let other : key ≢ first + length issued = search rules in
      sym (ap issued_removed (others_stay_issued first issued x key other))

  pub index_inserted : (p : ℕ) (v : List ℕ)
      → IsIndex first (entries ++ Insert p (first + length issued) v ∷ [])
      (issued ++ record { value = v; removed = false } ∷ []) holds
  index_inserted p v =
      let e = Insert p (first + length issued) v in
      record {
        values = λ key. inserted_value p key v (first + length issued == key) refl;
        removals = λ key. removal_stays entries e key refl ∙ index.removals key
            ∙ inserted_removal key (record { value = v; removed = false }) refl (first + length issued == key) refl;
        held_by = λ pass key. count_stays (is_got_by pass key) (is_release_by pass key) entries e _ refl refl
            (index.held_by pass key);
        held_of = λ pass. count_stays (is_got_from pass) (is_release_from pass) entries e _ refl refl
            (index.held_of pass);
        held_on = λ key. count_stays (is_got_of key) (is_release_of key) entries e _ refl refl (index.held_on key);
      }

  removed_value : (p k key : ℕ) (x old : Issued) → first ≤ k → k - first < length issued → issued_at first issued k
      ≡ Some old → x.value ≡ old.value
      → (b : Bool) → (k == key) ≡ b
      → value_of (entries ++ Removed p k ∷ []) key ≡ issued_value (issued_at first (set issued (k - first) x) key)
  removed_value p k key x old le inside was same_value true is =
      let same : k ≡ key = search rules in
      let before : issued_value (issued_at first issued key) ≡ Some old.value = rw (← same) (ap issued_value was) in
      let after : issued_value (issued_at first (set issued (k - first) x) key) ≡ Some x.value =
      rw (← same) (ap issued_value (changed_is_known first issued x k le inside)) in
      value_stays entries (Removed p k) key refl ∙ index.values key ∙ before ∙ sym (after ∙ ap Some same_value)
  removed_value p k key x old le inside was same_value false is =
      let other : key ≢ k = search rules in
      value_stays entries (Removed p k) key refl ∙ index.values key
      ∙ sym (ap issued_value (others_stay_known first issued x k key le other))

  removed_removal : (p k key : ℕ) (x : Issued) → first ≤ k → k - first < length issued → x.removed ≡ true
      → (b : Bool) → (k == key) ≡ b
      → is_removed (entries ++ Removed p k ∷ []) key ≡ issued_removed (issued_at first (set issued (k - first) x) key)
  removed_removal p k key x le inside gone true is =
      let same : k ≡ key = search rules in
      let after : issued_removed (issued_at first (set issued (k - first) x) key) ≡ x.removed =
      rw (← same) (ap issued_removed (changed_is_known first issued x k le inside)) in
      removed_after entries (Removed p k) key ∙ rw is (or-true (is_removed entries key)) ∙ sym (after ∙ gone)
  removed_removal p k key x le inside gone false is =
      let other : key ≢ k = search rules in
      let none : is_removed (Removed p k ∷ []) key ≡ false = rw is refl in
      removal_stays entries (Removed p k) key none ∙ index.removals key
      ∙ sym (ap issued_removed (others_stay_known first issued x k key le other))

  pub index_removed : (p k : ℕ) (x old : Issued) → first ≤ k → k - first < length issued → issued_at first issued k
      ≡ Some old
      → x.value ≡ old.value → x.removed ≡ true
      → IsIndex first (entries ++ Removed p k ∷ []) (set issued (k - first) x) holds
  index_removed p k x old le inside was same_value gone =
      let e = Removed p k in
      record {
        values = λ key. removed_value p k key x old le inside was same_value (k == key) refl;
        removals = λ key. removed_removal p k key x le inside gone (k == key) refl;
        held_by = λ pass key. count_stays (is_got_by pass key) (is_release_by pass key) entries e _ refl refl
            (index.held_by pass key);
        held_of = λ pass. count_stays (is_got_from pass) (is_release_from pass) entries e _ refl refl
            (index.held_of pass);
        held_on = λ key. count_stays (is_got_of key) (is_release_of key) entries e _ refl refl (index.held_on key);
      }
