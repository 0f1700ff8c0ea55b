-- One more entry in a log: what it does to the values that are present, and what it says of them.
use Rattle.std.proofs.Common.{◌≡◌, ℕ, ◌==◌, ◌||◌, inl, inr, Bool, true, false, cond, List, [], ◌∷◌, ◌++◌, refl, ap, sym}
use Rattle.std.proofs.Common.{◌∙◌, subst, Option, Some, None, eqb-true}
use Rattle.std.specs.Prelude.{IsSome, if◌then◌else◌}
use Rattle.sh_history.specs.declared.entry.Entry.{Entry}
use Rattle.sh_history.specs.declared.entry.Entry.TheVariants.{Insert, Got, Gone, Crowded, Removed, Released, Seen}
use Rattle.sh_history.specs.History.{value_of, is_removed, is_removal_of, present_value, Allowed}
use Rattle.sh_history.proofs.LogLaws.{value_of-append_none, value_stays}
use Rattle.sh_core.specs.AtomicMap.{Finds, made_by}

pub or_false : (b : Bool) → (b || false) ≡ b
or_false true = refl
or_false false = refl

or_assoc : (a b c : Bool) → (a || (b || c)) ≡ ((a || b) || c)
or_assoc true b c = refl
or_assoc false b c = refl

pub removed_snoc : (log : List Entry) (t : Entry) (j : ℕ) → is_removed (log ++ t ∷ []) j
    ≡ (is_removed log j || is_removal_of j t)
removed_snoc [] t j = or_false (is_removal_of j t)
removed_snoc (x ∷ log) t j = ap (λ b. is_removal_of j x || b) (removed_snoc log t j)
    ∙ or_assoc (is_removal_of j x) (is_removed log j) (is_removal_of j t)

-- if the entry is neither the insert nor the removal of the key, nothing changes
stays : (log : List Entry) (t : Entry) (j : ℕ) → value_of (t ∷ []) j ≡ None → is_removal_of j t ≡ false
    → present_value (log ++ t ∷ []) j ≡ present_value log j
stays log t j none kept =
    let v = value_stays log t j none in
    let r : is_removed (log ++ t ∷ []) j ≡ is_removed log j = removed_snoc log t j
    ∙ (ap (λ b. is_removed log j || b) kept ∙ or_false (is_removed log j)) in
    ap (λ b. if b then None else value_of (log ++ t ∷ []) j) r
    ∙ ap (λ (o : Option (List ℕ)). if is_removed log j then None else o) v

-- an insert is of a key that was neither issued nor removed
unfoldable pub IsNew : List Entry → Entry → Type 0
IsNew log (Insert a k v) = (value_of log k ≡ None) × (is_removed log k ≡ false)
IsNew log _ = Unit {0}

pub or_true : (b : Bool) → (b || true) ≡ true
or_true true = refl
or_true false = refl

pub after_entry : (log : List Entry) (t : Entry) → IsNew log t → (j : ℕ) → present_value (log ++ t ∷ []) j
    ≡ made_by (present_value log) t j
unfolding IsNew
after_entry log (Insert a k v) new j = go (k == j) refl where
  go : (b : Bool) → (k == j) ≡ b
      → present_value (log ++ Insert a k v ∷ []) j ≡ cond (k == j) (Some v) (present_value log j)
  go true is =
      let same : k ≡ j = eqb-true k j is in
      let none : value_of log j ≡ None = subst (λ i. value_of log i ≡ None) same new.0 in
      let not : is_removed log j ≡ false = subst (λ i. is_removed log i ≡ false) same new.1 in
      let here : value_of (Insert a k v ∷ []) j ≡ Some v = ap (λ b. if b then Some v else None) is in
      let value = value_of-append_none log (Insert a k v ∷ []) j none ∙ here in
      let r : is_removed (log ++ Insert a k v ∷ []) j ≡ false = removed_snoc log (Insert a k v) j
      ∙ ap (λ b. b || false) not in
      ap (λ b. if b then None else value_of (log ++ Insert a k v ∷ []) j) r ∙ (value
      ∙ sym (ap (λ b. cond b (Some v) (present_value log j)) is))
  go false is = stays log (Insert a k v) j (ap (λ b. if b then Some v else None) is) refl
      ∙ sym (ap (λ b. cond b (Some v) (present_value log j)) is)
after_entry log (Removed a k) new j = go (k == j) refl where
  go : (b : Bool) → (k == j) ≡ b → present_value (log ++ Removed a k ∷ []) j ≡ cond (k == j) None (present_value log j)
  go true is =
      let r : is_removed (log ++ Removed a k ∷ []) j ≡ true = removed_snoc log (Removed a k) j
      ∙ (ap (λ b. is_removed log j || b) is ∙ or_true (is_removed log j)) in
      ap (λ b. if b then None else value_of (log ++ Removed a k ∷ []) j) r
      ∙ sym (ap (λ b. cond b None (present_value log j)) is)
  go false is = stays log (Removed a k) j refl is ∙ sym (ap (λ b. cond b None (present_value log j)) is)
after_entry log (Got a k v) new j = stays log (Got a k v) j refl refl
after_entry log (Gone a k) new j = stays log (Gone a k) j refl refl
after_entry log (Crowded a k) new j = stays log (Crowded a k) j refl refl
after_entry log (Released a k) new j = stays log (Released a k) j refl refl
after_entry log (Seen a k v) new j = stays log (Seen a k v) j refl refl

none_either : (r : Bool) (v : Option (List ℕ)) → v ≡ None → (if r then None else v) ≡ None
none_either true v is = refl
none_either false v is = is

pub finds : (passes guard_max : ℕ) (log : List Entry) (t : Entry) → Allowed passes guard_max log t
    → Finds (present_value log) t
finds passes guard_max log (Insert a k v) may =
    none_either (is_removed log k) (value_of log k) may
finds passes guard_max log (Got a k v) may =
    ap (λ b. if b then None else value_of log k) may.1 ∙ may.0
finds passes guard_max log (Gone a k) (inl may) =
    none_either (is_removed log k) (value_of log k) may
finds passes guard_max log (Gone a k) (inr may) = ap (λ b. if b then None else value_of log k) may
finds passes guard_max log (Crowded a k) may =
    subst (λ b. IsSome (if b then None else value_of log k)) (sym may.1) may.0
finds passes guard_max log (Removed a k) may =
    subst (λ b. IsSome (if b then None else value_of log k)) (sym may.1) may.0
finds passes guard_max log (Released a k) may = tt
finds passes guard_max log (Seen a k v) may =
    ap (λ b. if b then None else value_of log k) may.1 ∙ may.0
