-- What the list of issued keys says after a key is issued or removed.
use Rattle.std.proofs.Common.{◌≡◌, ◌≢◌, ℕ, ◌+◌, ◌-◌, ◌<◌, ◌≤◌, zero, suc, Bool, true, false, cond, List, [], ◌∷◌, ◌++◌}
use Rattle.std.proofs.Common.{Option, Some, None, refl, ap, arith, rules, length, set, ltb-false}
use Rattle.std.specs.Prelude.{nat_lt, slice_get, IsSome}
use Rattle.std.proofs.lemmas.Option.{slice_get_past, slice_get_within}
use Rattle.sh_plain.specs.declared.index.Issued.{Issued}
use Rattle.sh_plain.specs.Index.{issued_at, issued_value}
use Rattle.sh_history.proofs.ByPlace.{get_last}

slice_get_push_other : {X : Type 0} (xs : List X) (x : X) (i : ℕ) → i ≢ length xs → slice_get (xs ++ x ∷ []) i
    ≡ slice_get xs i
slice_get_push_other [] x zero ne = absurd (ne refl)
slice_get_push_other [] x (suc i) ne = refl
slice_get_push_other (y ∷ ys) x zero ne = refl
slice_get_push_other (y ∷ ys) x (suc i) ne = slice_get_push_other ys x i (λ e. ne (ap suc e))

slice_get_set_other : {X : Type 0} (xs : List X) (x : X) (i j : ℕ) → j ≢ i → slice_get (set xs i x) j ≡ slice_get xs j
slice_get_set_other [] x i j ne = refl
slice_get_set_other (y ∷ ys) x zero zero ne = absurd (ne refl)
slice_get_set_other (y ∷ ys) x zero (suc j) ne = refl
slice_get_set_other (y ∷ ys) x (suc i) zero ne = refl
slice_get_set_other (y ∷ ys) x (suc i) (suc j) ne = slice_get_set_other ys x i j (λ e. ne (ap suc e))

slice_get_set_same : {X : Type 0} (xs : List X) (x : X) (i : ℕ) → i < length xs → slice_get (set xs i x) i ≡ Some x
slice_get_set_same [] x i lt = absurd (omega arith)
slice_get_set_same (y ∷ ys) x zero lt = refl
slice_get_set_same (y ∷ ys) x (suc i) lt = slice_get_set_same ys x i (omega arith)

below_none : (b : Bool) (o : Option Issued) → IsSome (issued_value (cond b None o)) → (b ≡ false)
    × IsSome (issued_value o)
below_none true o some = absurd (let none : ⊥ = cc in none)
below_none false o some = (refl, some)

some_issued : (o : Option Issued) → IsSome (issued_value o) → (x : Issued) × (o ≡ Some x)
some_issued None some = absurd (let none : ⊥ = cc in none)
some_issued (Some x) some = (x, refl)

module _ (first : ℕ) (issued : List Issued) where
  -- a key that is issued is the first one or a later one, and not past the last
  pub issued_is_within : (key : ℕ) → IsSome (issued_value (issued_at first issued key))
      → (first ≤ key) × (key - first < length issued)
  issued_is_within key some =
      let found = below_none (nat_lt key first) (slice_get issued (key - first)) some in
      let at = some_issued (slice_get issued (key - first)) found.1 in
      (ltb-false key first found.0, slice_get_within issued (key - first) at.0 at.1)

  -- an issued key, by its place in the list
  pub at_place : (issued : List Issued) (key : ℕ) → first ≤ key → issued_at first issued key
      ≡ slice_get issued (key - first)
  at_place issued key le = let not_below : nat_lt key first ≡ false = search rules in rw not_below refl

  -- a key past the last
  pub past_is_not_issued : (key : ℕ) → first + length issued ≤ key → issued_at first issued key ≡ None
  past_is_not_issued key past =
      rw (at_place issued key (omega arith)) (slice_get_past issued (key - first) (omega arith))

  -- the next key is issued
  pub next_is_issued : (x : Issued) → issued_at first (issued ++ x ∷ []) (first + length issued) ≡ Some x
  next_is_issued x =
      let at : first + length issued - first ≡ length issued = omega arith in
      rw (at_place (issued ++ x ∷ []) (first + length issued) (omega arith), at) (get_last issued x)

  by_place : (b : Bool) (key : ℕ) (xs ys : List Issued) → nat_lt key first ≡ b
      → (first ≤ key → slice_get xs (key - first) ≡ slice_get ys (key - first))
      → cond b None (slice_get xs (key - first)) ≡ cond b None (slice_get ys (key - first))
  by_place true key xs ys is same = refl
  by_place false key xs ys is same = same (ltb-false key first is)

  pub others_stay_issued : (x : Issued) (key : ℕ) → key ≢ first + length issued
      → issued_at first (issued ++ x ∷ []) key ≡ issued_at first issued key
  others_stay_issued x key other =
      by_place (nat_lt key first) key (issued ++ x ∷ []) issued refl
      (λ le. slice_get_push_other issued x (key - first) (λ e. other (omega arith)))

  -- what is known of an issued key changes
  pub changed_is_known : (x : Issued) (key : ℕ) → first ≤ key → key - first < length issued
      → issued_at first (set issued (key - first) x) key ≡ Some x
  changed_is_known x key le lt = rw (at_place (set issued (key - first) x) key le)
      (slice_get_set_same issued x (key - first) lt)

  pub others_stay_known : (x : Issued) (changed key : ℕ) → first ≤ changed → key ≢ changed
      → issued_at first (set issued (changed - first) x) key ≡ issued_at first issued key
  others_stay_known x changed key le other =
      by_place (nat_lt key first) key (set issued (changed - first) x) issued refl
      (λ here. slice_get_set_other issued x (changed - first) (key - first) (λ e. other (omega arith)))
