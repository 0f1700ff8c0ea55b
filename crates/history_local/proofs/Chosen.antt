-- What a history says of a key, it says by the entries on that key.
use Rattle.std.proofs.Common.{◌≡◌, ℕ, ◌+◌, Bool, true, false, List, [], ◌∷◌, ◌++◌, Some}
use Rattle.std.proofs.Common.{refl, sym, ◌∙◌, ap, arith, cond}
use Rattle.std.proofs.Common.{eqb-true}
use Rattle.std.specs.Prelude.{◌==◌, ◌&&◌, ◌||◌, filter, count_by}
use Rattle.std.specs.List.{list_any}
use Rattle.std.proofs.lemmas.List.Elements.{filter-append}
use Rattle.std.proofs.lemmas.Bool.{false≢true}
use Rattle.sh_history.specs.declared.entry.Entry.{Entry}
use Rattle.sh_history.specs.declared.entry.Entry.TheVariants.{Insert, Got, Removed, Released}
use Rattle.sh_history.specs.History.{value_of, is_removed, is_removal_of, is_got_of, is_release_of, is_got_by}
use Rattle.sh_history.specs.History.{is_release_by, holds_on, holds_by}
use Rattle.sh_history.proofs.LogLaws.{count_by-cons}
use Rattle.history_local.specs.Groups.{key_of, entries_on}

both_true : (a b : Bool) → (a && b) ≡ true → b ≡ true
both_true true b e = e
both_true false b e = absurd (false≢true e)

-- a test that only chosen items pass counts the same among the chosen ones
module _ {X : Type 0} (p c : X → Bool) (within : (x : X) → p x ≡ true → c x ≡ true) where
  count_step : (x : X) (xs : List X) (b d : Bool) → p x ≡ b → c x ≡ d → count_by p (filter c xs) ≡ count_by p xs
      → count_by p (cond d (x ∷ filter c xs) (filter c xs)) ≡ cond b 1 0 + count_by p xs
  count_step x xs b true is chosen rest = count_by-cons p x (filter c xs) ∙ rw (is, rest) refl
  count_step x xs true false is chosen rest = absurd (false≢true (sym chosen ∙ within x is))
  count_step x xs false false is chosen rest = rw rest (omega arith)

  count_filter : (xs : List X) → count_by p (filter c xs) ≡ count_by p xs
  count_filter [] = refl
  count_filter (x ∷ xs) =
      count_step x xs (p x) (c x) refl refl (count_filter xs) ∙ sym (count_by-cons p x xs)

  any_step : (x : X) (xs : List X) (b d : Bool) → p x ≡ b → c x ≡ d → list_any p (filter c xs) ≡ list_any p xs
      → list_any p (cond d (x ∷ filter c xs) (filter c xs)) ≡ (b || list_any p xs)
  any_step x xs b true is chosen rest = rw (is, rest) refl
  any_step x xs true false is chosen rest = absurd (false≢true (sym chosen ∙ within x is))
  any_step x xs false false is chosen rest = rest

  any_filter : (xs : List X) → list_any p (filter c xs) ≡ list_any p xs
  any_filter [] = refl
  any_filter (x ∷ xs) = any_step x xs (p x) (c x) refl refl (any_filter xs)

-- what the entries on the chosen keys say of one of these keys
module _ (c : ℕ → Bool) (key : ℕ) (chosen : c key ≡ true) where
  same_key : (k : ℕ) → (k == key) ≡ true → c k ≡ true
  same_key k e = ap c (eqb-true k key e) ∙ chosen

  removal_chosen : (x : Entry) → is_removal_of key x ≡ true → c (key_of x) ≡ true
  removal_chosen (Removed pass k) e = same_key k e
  removal_chosen _ e = absurd (false≢true e)

  got_chosen : (x : Entry) → is_got_of key x ≡ true → c (key_of x) ≡ true
  got_chosen (Got pass k value) e = same_key k e
  got_chosen _ e = absurd (false≢true e)

  release_chosen : (x : Entry) → is_release_of key x ≡ true → c (key_of x) ≡ true
  release_chosen (Released pass k) e = same_key k e
  release_chosen _ e = absurd (false≢true e)

  got_by_chosen : (pass : ℕ) (x : Entry) → is_got_by pass key x ≡ true → c (key_of x) ≡ true
  got_by_chosen pass (Got p k value) e = same_key k (both_true (p == pass) (k == key) e)
  got_by_chosen pass _ e = absurd (false≢true e)

  release_by_chosen : (pass : ℕ) (x : Entry) → is_release_by pass key x ≡ true → c (key_of x) ≡ true
  release_by_chosen pass (Released p k) e = same_key k (both_true (p == pass) (k == key) e)
  release_by_chosen pass _ e = absurd (false≢true e)

  value_step : (p k : ℕ) (v : List ℕ) (xs : List Entry) (b d : Bool) → (k == key) ≡ b → c k ≡ d
      → value_of (entries_on c xs) key ≡ value_of xs key
      → value_of (cond d (Insert p k v ∷ entries_on c xs) (entries_on c xs)) key ≡ cond b (Some v) (value_of xs key)
  value_step p k v xs b true is keeps rest = rw (is, rest) refl
  value_step p k v xs true false is keeps rest = absurd (false≢true (sym keeps ∙ same_key k is))
  value_step p k v xs false false is keeps rest = rest

  value_skip : (x : Entry) (xs : List Entry) (d : Bool)
      → value_of (x ∷ entries_on c xs) key ≡ value_of (entries_on c xs) key
      → value_of (entries_on c xs) key ≡ value_of xs key
      → value_of (cond d (x ∷ entries_on c xs) (entries_on c xs)) key ≡ value_of xs key
  value_skip x xs true skips rest = skips ∙ rest
  value_skip x xs false skips rest = rest

  pub value_on : (xs : List Entry) → value_of (entries_on c xs) key ≡ value_of xs key
  value_on [] = refl
  value_on (Insert p k v ∷ xs) = value_step p k v xs (k == key) (c k) refl refl (value_on xs)
  value_on (x ∷ xs) = value_skip x xs (c (key_of x)) refl (value_on xs)

  pub removed_on : (xs : List Entry) → is_removed (entries_on c xs) key ≡ is_removed xs key
  removed_on xs = any_filter (is_removal_of key) (λ x. c (key_of x)) removal_chosen xs

  pub holds_on_on : (xs : List Entry) → holds_on (entries_on c xs) key ≡ holds_on xs key
  holds_on_on xs =
      rw (
        count_filter (is_got_of key) (λ x. c (key_of x)) got_chosen xs,
        count_filter (is_release_of key) (λ x. c (key_of x)) release_chosen xs,
      ) refl

  pub holds_by_on : (xs : List Entry) (pass : ℕ) → holds_by (entries_on c xs) pass key ≡ holds_by xs pass key
  holds_by_on xs pass =
      rw (
        count_filter (is_got_by pass key) (λ x. c (key_of x)) (got_by_chosen pass) xs,
        count_filter (is_release_by pass key) (λ x. c (key_of x)) (release_by_chosen pass) xs,
      ) refl

-- the chosen entries of a list with one more
pub on_push : (c : ℕ → Bool) (xs : List Entry) (e : Entry) (b : Bool) → c (key_of e) ≡ b
    → entries_on c (xs ++ e ∷ []) ≡ entries_on c xs ++ cond b (e ∷ []) []
on_push c xs e b is =
    filter-append (λ x. c (key_of x)) xs (e ∷ []) ∙ ap (λ b. entries_on c xs ++ cond b (e ∷ []) []) is
