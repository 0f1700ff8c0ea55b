-- The holds of the index are those that the entries leave.
use Rattle.std.proofs.Common.{◌≡◌, ℕ, ◌<◌, ◌≤◌, Bool, true, false, cond, List, Option, Some, None, refl, arith, length}
use Rattle.std.proofs.Common.{get_or, ltb-false}
use Rattle.std.specs.Prelude.{nat_lt, count_by, position, IsSome, ◌↔◌}
use Rattle.std.specs.List.{position_or_len}
use Rattle.std.proofs.lemmas.List.Quantifiers.{position-Some}
use Rattle.std.proofs.lemmas.List.Sums.{fails_before_first, get_or-le-sum_by, sum_by-le}
use Rattle.sh_history.specs.declared.entry.Entry.{Entry}
use Rattle.sh_history.specs.History.{hold_count, holds_on, holds_by}
use Rattle.sh_history.proofs.LogLaws.{both}
use Rattle.sh_plain.specs.declared.index.Issued.{Issued}
use Rattle.sh_plain.specs.declared.index.Held.{Held}
use Rattle.sh_plain.specs.Index.{is_hold_by, is_hold_of, is_hold_on, IsIndex}

-- if none is found, there is none
found_none : (n m : ℕ) (b : Bool) → nat_lt n m ≡ b → cond b (Some n) None ≡ None → m ≤ n
found_none n m false is none = ltb-false n m is
found_none n m true is none = absurd (let no_some : ⊥ = cc in no_some)

none_is_counted : (p : Held → Bool) (xs : List Held) → position p xs ≡ None → count_by p xs ≡ 0
none_is_counted p xs none =
    let past : length xs ≤ position_or_len p xs = found_none (position_or_len p xs) (length xs)
    (nat_lt (position_or_len p xs) (length xs)) refl none in
    let fails : (k : ℕ) (e : Held) → k < length xs → cond (p (get_or xs k e)) 1 0 ≤ 0 =
    λ k e lt. rw (fails_before_first p xs k e (omega arith)) (omega arith) in
    let few = sum_by-le (λ h. cond (p h) 1 0) 0 xs fails in
    omega (arith, few)

one_is_counted : (p : Held → Bool) (d : Held) (xs : List Held) (at : ℕ) → position p xs ≡ Some at → 0 < count_by p xs
one_is_counted p d xs at is =
    let found = position-Some p xs at d is in
    rw found.1 at (get_or-le-sum_by (λ h. cond (p h) 1 0) xs at d found.0)

same_hold : (p pass k key : ℕ) → p ≡ pass → k ≡ key → let x : Held = record { pass = p; key = k } in x
    ≡ record { pass = pass; key = key }
same_hold p pass k key e f = rw (e, f) refl

mine : (pass key : ℕ) (held : Held) → is_hold_by pass key held ≡ true → held ≡ record { pass = pass; key = key }
mine pass key held is =
    let same = both held.pass pass held.key key is in same_hold held.pass pass held.key key same.0 same.1

-- what is found is a hold of the pass on the key
pub found_is_mine : (pass key at : ℕ) (d : Held) (holds : List Held) → position (is_hold_by pass key) holds ≡ Some at
    → (at < length holds) × (get_or holds at d ≡ record { pass = pass; key = key })
found_is_mine pass key at d holds is =
    let found = position-Some (is_hold_by pass key) holds at d is in
    (found.0, mine pass key (get_or holds at d) found.1)

module _ (first : ℕ) (entries : List Entry) (issued : List Issued) (holds : List Held)
    (index : IsIndex first entries issued holds) where
  pub holds_by_is : (pass key : ℕ) → holds_by entries pass key ≡ count_by (is_hold_by pass key) holds
  holds_by_is pass key = let is = index.held_by pass key in omega arith

  pub hold_count_is : (pass : ℕ) → hold_count entries pass ≡ count_by (is_hold_of pass) holds
  hold_count_is pass = let is = index.held_of pass in omega arith

  pub holds_on_is : (key : ℕ) → holds_on entries key ≡ count_by (is_hold_on key) holds
  holds_on_is key = let is = index.held_on key in omega arith

  found_by : (pass key : ℕ) (found : Option ℕ) → position (is_hold_by pass key) holds ≡ found
      → IsSome found ↔ (0 < holds_by entries pass key)
  found_by pass key None is = (
    λ h. absurd (let no : ⊥ = cc in no),
    λ h. absurd (let none = none_is_counted (is_hold_by pass key) holds is in let same = holds_by_is pass key
        in omega arith),
  )
  found_by pass key (Some at) is = (
    λ h. rw (holds_by_is pass key) (one_is_counted (is_hold_by pass key) (record { pass = 0; key = 0 }) holds at is),
    λ h. refl,
  )

  -- a hold of the pass on the key is found exactly if the entries leave it one
  pub hold_is_found : (pass key : ℕ) → IsSome (position (is_hold_by pass key) holds) ↔ (0 < holds_by entries pass key)
  hold_is_found pass key = found_by pass key (position (is_hold_by pass key) holds) refl

  -- a hold that the entries leave is found
  pub held_is_found : (pass key : ℕ) → 0 < holds_by entries pass key → position (is_hold_by pass key) holds ≡ None → ⊥
  held_is_found pass key held none = let found = rw none at ((hold_is_found pass key).1 held) in cc
