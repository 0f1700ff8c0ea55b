-- What a history says of a key, by its entries.
use Rattle.std.proofs.Common.{◌≡◌, ℕ, Bool, true, false, cond, List, [], ◌∷◌, ◌++◌, Some, suc, refl, sym, ◌∙◌, ap, take}
use Rattle.std.proofs.Common.{drop, drop-cons, arith, rules, ◌+◌, ◌≤◌, append_assoc, zero-add, map, subst}
use Rattle.std.specs.Prelude.{◌==◌, ◌||◌, count_by}
use Rattle.std.specs.List.{Contains}
use Rattle.std.proofs.lemmas.List.Elements.{Contains-append_left, Contains-append_right, Contains-push}
use Rattle.std.proofs.lemmas.List.{take-append-drop, append-nil, map-append}
use Rattle.std.proofs.lemmas.List.Folds.{list_any_at}
use Rattle.sh_history.specs.declared.entry.Entry.{Entry}
use Rattle.sh_history.specs.declared.entry.Entry.TheVariants.{Insert, Got, Removed, Seen}
use Rattle.sh_history.specs.History.{value_of, is_removed, is_removal_of, Allowed, LegalAfter}
use Rattle.sh_history.specs.Laws.{IsIssuedWith, HasRemoval, ValueIsInserted, GetsGiveInserted, RemovedHasRemoval}
use Rattle.sh_history.specs.Laws.{RemovedOnce, ReleasesAreGot, LooksGiveInserted}
use Rattle.sh_history.proofs.LogLaws.{value_of_insert, value_of_got, value_of_seen, releases_le, count_by-cons}
use Rattle.sh_history.proofs.LogLaws.{count_by-push}

first_stands : (x : Entry) (xs : List Entry) → Contains (x ∷ xs) x
first_stands x xs = Contains-append_left (x ∷ []) xs x (Contains-push [] x)

later_stands : (x y : Entry) (xs : List Entry) → Contains xs y → Contains (x ∷ xs) y
later_stands x y xs h = Contains-append_right (x ∷ []) xs y h

-- if x is in the list, the list is what comes before x, then x, then what comes after it
pub splits_at : {X : Type 0} (xs : List X) (x : X) → Contains xs x → (front : List X) × (rest : List X)
    × (xs ≡ front ++ x ∷ rest)
splits_at xs x (k, inside, is) =
    (take k xs, drop (suc k) xs, sym (take-append-drop k xs) ∙ rw (drop-cons xs k x inside, is) refl)

-- what is in a list is, mapped, in the mapped list
pub contains_map : {A B : Type 0} (f : A → B) (xs : List A) (x : A) → Contains xs x → Contains (map f xs) (f x)
contains_map f xs x c =
    let s = splits_at xs x c in
    let is : map f xs ≡ map f s.0 ++ f x ∷ map f s.1 = ap (map f) s.2 ∙ map-append f s.0 (x ∷ s.1) in
    subst (λ (l : List _). Contains l (f x)) (sym is) (Contains-append_right (map f s.0) (f x ∷ map f s.1) (f x)
    (Contains-append_left (f x ∷ []) (map f s.1) (f x) (Contains-push [] (f x))))

issued_later : (x : Entry) (xs : List Entry) (key : ℕ) (value : List ℕ) → IsIssuedWith xs key value
    → IsIssuedWith (x ∷ xs) key value
issued_later x xs key value h = (h.0, later_stands x (Insert h.0 key value) xs h.1)

issued_here : (b : Bool) (p k key : ℕ) (v value : List ℕ) (xs : List Entry) → (k == key) ≡ b
    → (value_of xs key ≡ Some value → IsIssuedWith xs key value)
    → cond b (Some v) (value_of xs key) ≡ Some value → IsIssuedWith (Insert p k v ∷ xs) key value
issued_here true p k key v value xs test later is =
    let same_key : k ≡ key = search rules in
    let same_value : v ≡ value = cc in
    (p, rw (same_key, same_value) (first_stands (Insert p key value) xs))
issued_here false p k key v value xs test later is = issued_later (Insert p k v) xs key value (later is)

-- a key with a value was inserted with it
pub issued_with : (xs : List Entry) (key : ℕ) (value : List ℕ) → value_of xs key ≡ Some value
    → IsIssuedWith xs key value
issued_with [] key value is = absurd (let h : ⊥ = cc in h)
issued_with (Insert p k v ∷ xs) key value is =
    issued_here (k == key) p k key v value xs refl (issued_with xs key value) is
issued_with (x ∷ xs) key value is = issued_later x xs key value (issued_with xs key value is)

pub value_is_inserted : ValueIsInserted
value_is_inserted passes guard_max history legal key value = (
  issued_with history key value,
  λ h.
      let s = splits_at history (Insert h.0 key value) h.1 in
      rw s.2 (value_of_insert passes guard_max s.0 s.1 h.0 key value (rw (← s.2) legal)),
)

pub gets_give_inserted : GetsGiveInserted
gets_give_inserted passes guard_max history legal pass key value h =
    let s = splits_at history (Got pass key value) h in
    issued_with history key value (rw s.2 (value_of_got passes guard_max s.0 s.1 pass key value (rw (← s.2) legal)))

pub looks_give_inserted : LooksGiveInserted
looks_give_inserted passes guard_max history legal pass key value h =
    let s = splits_at history (Seen pass key value) h in
    issued_with history key value (rw s.2 (value_of_seen passes guard_max s.0 s.1 pass key value (rw (← s.2) legal)))

removed_later : (x : Entry) (xs : List Entry) (key : ℕ) → HasRemoval xs key → HasRemoval (x ∷ xs) key
removed_later x xs key h = (h.0, later_stands x (Removed h.0 key) xs h.1)

removed_here : (b : Bool) (p k key : ℕ) (xs : List Entry) → (k == key) ≡ b
    → (is_removed xs key ≡ true → HasRemoval xs key)
    → (b || is_removed xs key) ≡ true → HasRemoval (Removed p k ∷ xs) key
removed_here true p k key xs test later is =
    let same : k ≡ key = search rules in (p, rw same (first_stands (Removed p key) xs))
removed_here false p k key xs test later is = removed_later (Removed p k) xs key (later is)

-- a removed key has a removal
pub has_removal : (xs : List Entry) (key : ℕ) → is_removed xs key ≡ true → HasRemoval xs key
has_removal [] key is = absurd (let h : ⊥ = cc in h)
has_removal (Removed p k ∷ xs) key is = removed_here (k == key) p k key xs refl (has_removal xs key) is
has_removal (x ∷ xs) key is = removed_later x xs key (has_removal xs key is)

pub eqb_self : (key : ℕ) → (key == key) ≡ true
eqb_self key = search rules

pub removed_has_removal : RemovedHasRemoval
removed_has_removal history key = (
  has_removal history key,
  λ h.
      let y = Removed h.0 key in
      list_any_at (is_removal_of key) history h.1.0 y h.1.1 (ap (is_removal_of key) h.1.2 ∙ eqb_self key),
)

pub releases_are_got : ReleasesAreGot
releases_are_got passes guard_max history legal pass key = releases_le passes guard_max pass key history legal

-- a key that was not removed has no removal
no_removal : (xs : List Entry) (key : ℕ) → is_removed xs key ≡ false → count_by (is_removal_of key) xs ≡ 0
no_removal [] key e = refl
no_removal (x ∷ xs) key e = go (is_removal_of key x) refl (no_removal xs key) e where
  go : (b : Bool) → is_removal_of key x ≡ b → (is_removed xs key ≡ false → count_by (is_removal_of key) xs ≡ 0)
      → (b || is_removed xs key) ≡ false → count_by (is_removal_of key) (x ∷ xs) ≡ 0
  go true is later e = absurd (let z : ⊥ = cc in z)
  go false is later e =
      rw (count_by-cons (is_removal_of key) x xs, is) (zero-add (count_by (is_removal_of key) xs) ∙ later e)

removed_after : (passes guard_max : ℕ) (key : ℕ) (before xs : List Entry) → LegalAfter passes guard_max before xs
    → count_by (is_removal_of key) before ≤ 1 → count_by (is_removal_of key) (before ++ xs) ≤ 1
removed_after passes guard_max key before [] legal h = rw append-nil h
removed_after passes guard_max key before (x ∷ xs) legal h =
    rw append_assoc at (removed_after passes guard_max key (before ++ x ∷ []) xs legal.1 step)
  where
    more : (y : Entry) → Allowed passes guard_max before y
        → count_by (is_removal_of key) before + cond (is_removal_of key y) 1 0 ≤ 1
    more (Removed p k) allowed = go (k == key) refl where
      go : (b : Bool) → (k == key) ≡ b → count_by (is_removal_of key) before + cond b 1 0 ≤ 1
      go true is =
          let same : k ≡ key = search rules in
          let none : count_by (is_removal_of key) before ≡ 0 = no_removal before key (rw same at allowed.1) in
          omega arith
      go false is = omega arith
    more _ allowed = omega arith

    step : count_by (is_removal_of key) (before ++ x ∷ []) ≤ 1
    step = rw (count_by-push (is_removal_of key) before x) (more x legal.0)

pub removed_once : RemovedOnce
removed_once passes guard_max history legal key = removed_after passes guard_max key [] history legal (omega arith)
