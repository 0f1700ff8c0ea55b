-- What a legal history has said before each entry.
use Rattle.std.proofs.Common.{◌≡◌, ℕ, Bool, true, false, cond, List, [], ◌∷◌, ◌++◌, Some, None, zero, suc}
use Rattle.std.proofs.Common.{refl, sym, ◌∙◌, subst, ap, take, append_assoc, eqb-true}
use Rattle.std.specs.Prelude.{slice_get, IsSome, is_some, ◌==◌, ◌||◌}
use Rattle.std.specs.List.{list_any}
use Rattle.std.proofs.lemmas.List.{append-nil}
use Rattle.std.proofs.lemmas.Bool.{true≢false}
use Rattle.std.proofs.lemmas.Option.{none-some, same_Some}
use Rattle.sh_history.specs.declared.entry.Entry.{Entry}
use Rattle.sh_history.specs.declared.entry.Entry.TheVariants.{Insert, Got, Gone, Crowded, Removed, Released, Seen}
use Rattle.sh_history.specs.History.{Allowed, LegalAfter, Legal, value_of, is_removed, is_removal_of}
use Rattle.history_audit.specs.Lines.{is_insert_of}
use Rattle.history_timed.specs.declared.call.Said.{Said}
use Rattle.history_timed.specs.declared.call.Said.TheVariants.{Known, Unread}
use Rattle.history_timed.specs.Calls.{MayBe, inserts, uses, returned, removes}

-- the value of a key comes from an insert at some place
pub value_at : (xs : List Entry) (key : ℕ) (value : List ℕ) → value_of xs key ≡ Some value
    → (i : ℕ) × (pass : ℕ) × (slice_get xs i ≡ Some (Insert pass key value))
value_at [] key value is = absurd (none-some value is)
value_at (Insert pass k v ∷ xs) key value is = go (k == key) refl (value_at xs key value) is where
  go : (b : Bool) → (k == key) ≡ b
      → (value_of xs key ≡ Some value → (i : ℕ) × (by : ℕ) × (slice_get xs i ≡ Some (Insert by key value)))
      → cond b (Some v) (value_of xs key) ≡ Some value
      → (i : ℕ) × (by : ℕ) × (slice_get (Insert pass k v ∷ xs) i ≡ Some (Insert by key value))
  go true here later is =
      let same : k ≡ key = eqb-true k key here in
      let with : v ≡ value = same_Some v value is in
      (0, pass, rw (same, with) refl)
  go false other later is = let r = later is in (suc r.0, r.1, r.2)
value_at (Got p k v ∷ xs) key value is = let r = value_at xs key value is in (suc r.0, r.1, r.2)
value_at (Gone p k ∷ xs) key value is = let r = value_at xs key value is in (suc r.0, r.1, r.2)
value_at (Crowded p k ∷ xs) key value is = let r = value_at xs key value is in (suc r.0, r.1, r.2)
value_at (Removed p k ∷ xs) key value is = let r = value_at xs key value is in (suc r.0, r.1, r.2)
value_at (Released p k ∷ xs) key value is = let r = value_at xs key value is in (suc r.0, r.1, r.2)
value_at (Seen p k v ∷ xs) key value is = let r = value_at xs key value is in (suc r.0, r.1, r.2)

-- a key without a value has no insert
pub none_inserted : (xs : List Entry) (key : ℕ) → value_of xs key ≡ None → list_any (is_insert_of key) xs ≡ false
none_inserted [] key is = refl
none_inserted (Insert p k v ∷ xs) key is = go (k == key) (none_inserted xs key) is where
  go : (b : Bool) → (value_of xs key ≡ None → list_any (is_insert_of key) xs ≡ false)
      → cond b (Some v) (value_of xs key) ≡ None → (b || list_any (is_insert_of key) xs) ≡ false
  go true later is = absurd (none-some v (sym is))
  go false later is = later is
none_inserted (Got p k v ∷ xs) key is = none_inserted xs key is
none_inserted (Gone p k ∷ xs) key is = none_inserted xs key is
none_inserted (Crowded p k ∷ xs) key is = none_inserted xs key is
none_inserted (Removed p k ∷ xs) key is = none_inserted xs key is
none_inserted (Released p k ∷ xs) key is = none_inserted xs key is
none_inserted (Seen p k v ∷ xs) key is = none_inserted xs key is

module _ (passes guard_max : ℕ) where
  allowed_after : (before xs : List Entry) (i : ℕ) (e : Entry) → LegalAfter passes guard_max before xs
      → slice_get xs i ≡ Some e → Allowed passes guard_max (before ++ take i xs) e
  allowed_after before [] i e legal is = absurd (none-some e is)
  allowed_after before (x ∷ xs) zero e legal is =
      subst (λ (y : Entry). Allowed passes guard_max (before ++ []) y) (same_Some x e is)
      (rw append-nil legal.0)
  allowed_after before (x ∷ xs) (suc i) e legal is =
      rw (append_assoc before (x ∷ []) (take i xs)) at (allowed_after (before ++ x ∷ []) xs i e legal.1 is)

  -- each entry of a legal history may follow those before it
  pub allowed_at : (xs : List Entry) (i : ℕ) (e : Entry) → Legal passes guard_max xs → slice_get xs i ≡ Some e
      → Allowed passes guard_max (take i xs) e
  allowed_at xs i e legal is = allowed_after [] xs i e legal is

  module _ (before : List Entry) (e : Entry) (key : ℕ) (allowed : Allowed passes guard_max before e) where
    -- a key that is inserted had no value
    pub inserts_new : (s : Said) → MayBe s e → inserts key s ≡ true → value_of before key ≡ None
    inserts_new (Known (Insert p k v)) is here =
        subst (λ (q : ℕ). value_of before q ≡ None) (eqb-true k key here)
        (subst (Allowed passes guard_max before) is allowed)
    inserts_new (Known (Got p k v)) is here = absurd (true≢false (sym here))
    inserts_new (Known (Gone p k)) is here = absurd (true≢false (sym here))
    inserts_new (Known (Crowded p k)) is here = absurd (true≢false (sym here))
    inserts_new (Known (Removed p k)) is here = absurd (true≢false (sym here))
    inserts_new (Known (Released p k)) is here = absurd (true≢false (sym here))
    inserts_new (Known (Seen p k v)) is here = absurd (true≢false (sym here))
    inserts_new (Unread p k) is here = absurd (true≢false (sym here))

    -- a key whose value is used was inserted and not removed
    pub uses_present : (s : Said) → MayBe s e → uses key s ≡ true
        → IsSome (value_of before key) × (is_removed before key ≡ false)
    uses_present (Known (Insert p k v)) is here = absurd (true≢false (sym here))
    uses_present (Known (Got p k v)) is here =
        let may : Allowed passes guard_max before (Got p k v) = subst (Allowed passes guard_max before) is allowed in
        subst (λ (q : ℕ). IsSome (value_of before q) × (is_removed before q ≡ false)) (eqb-true k key here)
        (ap is_some may.0, may.1)
    uses_present (Known (Gone p k)) is here = absurd (true≢false (sym here))
    uses_present (Known (Crowded p k)) is here =
        let may : Allowed passes guard_max before (Crowded p k) = subst (Allowed passes guard_max before) is allowed in
        subst (λ (q : ℕ). IsSome (value_of before q) × (is_removed before q ≡ false)) (eqb-true k key here)
        (may.0, may.1)
    uses_present (Known (Removed p k)) is here = absurd (true≢false (sym here))
    uses_present (Known (Released p k)) is here = absurd (true≢false (sym here))
    uses_present (Known (Seen p k v)) is here =
        let may : Allowed passes guard_max before (Seen p k v) = subst (Allowed passes guard_max before) is allowed in
        subst (λ (q : ℕ). IsSome (value_of before q) × (is_removed before q ≡ false)) (eqb-true k key here)
        (ap is_some may.0, may.1)
    uses_present (Unread p k) is here =
        let may : Allowed passes guard_max before (Got p k is.0) =
        subst (Allowed passes guard_max before) is.1 allowed in
        subst (λ (q : ℕ). IsSome (value_of before q) × (is_removed before q ≡ false)) (eqb-true k key here)
        (ap is_some may.0, may.1)

    -- so was one that is removed
    pub removes_present : (s : Said) → MayBe s e → removes key s ≡ true
        → IsSome (value_of before key) × (is_removed before key ≡ false)
    removes_present (Known (Insert p k v)) is here = absurd (true≢false (sym here))
    removes_present (Known (Got p k v)) is here = absurd (true≢false (sym here))
    removes_present (Known (Gone p k)) is here = absurd (true≢false (sym here))
    removes_present (Known (Crowded p k)) is here = absurd (true≢false (sym here))
    removes_present (Known (Removed p k)) is here =
        let may : Allowed passes guard_max before (Removed p k) = subst (Allowed passes guard_max before) is allowed in
        subst (λ (q : ℕ). IsSome (value_of before q) × (is_removed before q ≡ false)) (eqb-true k key here) may
    removes_present (Known (Released p k)) is here = absurd (true≢false (sym here))
    removes_present (Known (Seen p k v)) is here = absurd (true≢false (sym here))
    removes_present (Unread p k) is here = absurd (true≢false (sym here))

    returned_is : (k : ℕ) (v value : List ℕ) → value_of before k ≡ Some v
        → cond (k == key) (Some v) None ≡ Some value → value_of before key ≡ Some value
    returned_is k v value issued = go (k == key) refl where
      go : (b : Bool) → (k == key) ≡ b → cond b (Some v) None ≡ Some value → value_of before key ≡ Some value
      go true same here = subst (λ (q : ℕ). value_of before q ≡ Some value) (eqb-true k key same) (issued ∙ here)
      go false other here = absurd (none-some value here)

    -- a value that is returned is the one that its key was inserted with
    pub returns_inserted : (value : List ℕ) (s : Said) → MayBe s e → returned key s ≡ Some value
        → value_of before key ≡ Some value
    returns_inserted value (Known (Insert p k v)) is here = absurd (none-some value here)
    returns_inserted value (Known (Got p k v)) is here =
        let may : Allowed passes guard_max before (Got p k v) = subst (Allowed passes guard_max before) is allowed in
        returned_is k v value may.0 here
    returns_inserted value (Known (Gone p k)) is here = absurd (none-some value here)
    returns_inserted value (Known (Crowded p k)) is here = absurd (none-some value here)
    returns_inserted value (Known (Removed p k)) is here = absurd (none-some value here)
    returns_inserted value (Known (Released p k)) is here = absurd (none-some value here)
    returns_inserted value (Known (Seen p k v)) is here =
        let may : Allowed passes guard_max before (Seen p k v) = subst (Allowed passes guard_max before) is allowed in
        returned_is k v value may.0 here
    returns_inserted value (Unread p k) is here = absurd (none-some value here)

-- the entry of a call that inserts or removes, and back
pub insert_said : (s : Said) (e : Entry) (key : ℕ) → MayBe s e → inserts key s ≡ true → is_insert_of key e ≡ true
insert_said (Known (Insert p k v)) e key is here = rw is here
insert_said (Known (Got p k v)) e key is here = absurd (true≢false (sym here))
insert_said (Known (Gone p k)) e key is here = absurd (true≢false (sym here))
insert_said (Known (Crowded p k)) e key is here = absurd (true≢false (sym here))
insert_said (Known (Removed p k)) e key is here = absurd (true≢false (sym here))
insert_said (Known (Released p k)) e key is here = absurd (true≢false (sym here))
insert_said (Known (Seen p k v)) e key is here = absurd (true≢false (sym here))
insert_said (Unread p k) e key is here = absurd (true≢false (sym here))

pub removal_said : (s : Said) (e : Entry) (key : ℕ) → MayBe s e → removes key s ≡ true → is_removal_of key e ≡ true
removal_said (Known (Insert p k v)) e key is here = absurd (true≢false (sym here))
removal_said (Known (Got p k v)) e key is here = absurd (true≢false (sym here))
removal_said (Known (Gone p k)) e key is here = absurd (true≢false (sym here))
removal_said (Known (Crowded p k)) e key is here = absurd (true≢false (sym here))
removal_said (Known (Removed p k)) e key is here = rw is here
removal_said (Known (Released p k)) e key is here = absurd (true≢false (sym here))
removal_said (Known (Seen p k v)) e key is here = absurd (true≢false (sym here))
removal_said (Unread p k) e key is here = absurd (true≢false (sym here))

pub said_removal : (s : Said) (e : Entry) (key : ℕ) → MayBe s e → is_removal_of key e ≡ true → removes key s ≡ true
said_removal (Known (Insert p k v)) e key is here = absurd (true≢false (sym (rw is at here)))
said_removal (Known (Got p k v)) e key is here = absurd (true≢false (sym (rw is at here)))
said_removal (Known (Gone p k)) e key is here = absurd (true≢false (sym (rw is at here)))
said_removal (Known (Crowded p k)) e key is here = absurd (true≢false (sym (rw is at here)))
said_removal (Known (Removed p k)) e key is here = rw is at here
said_removal (Known (Released p k)) e key is here = absurd (true≢false (sym (rw is at here)))
said_removal (Known (Seen p k v)) e key is here = absurd (true≢false (sym (rw is at here)))
said_removal (Unread p k) e key is here = absurd (true≢false (sym (rw is.1 at here)))
