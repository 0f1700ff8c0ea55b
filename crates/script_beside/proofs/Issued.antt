-- The keys that were given: each once, each of the layout, so no more of them than it has.
use Rattle.std.proofs.Common.{◌≡◌, ◌≢◌, ℕ, ◌+◌, ◌-◌, ◌<◌, ◌≤◌, ◌||◌, Bool, true, false, cond, List, [], ◌∷◌, ◌++◌}
use Rattle.std.proofs.Common.{length, refl, ap, sym, ◌∙◌, subst, arith, eq-eqb, ne_eqb, eqb-true, Option, Some, None}
use Rattle.std.specs.Prelude.{IsSome, nat_lt}
use Rattle.std.specs.List.{list_any, IsDistinct, AllByRecursion}
use lib.Dec.{eqb}
use Rattle.std.proofs.Common.{lt-ltb, true≢false}
use Rattle.std.proofs.lemmas.Map.Keys.{IsDistinct-cons}
use Rattle.std.proofs.lemmas.Map.Steps.{length-le_from_distinct_below}
use Rattle.sh_key.specs.Layout.{Layout, unpacked, first_key, key_count}
use Rattle.sh_key.proofs.Packing.{keys_are_consecutive}
use Rattle.sh_history.specs.declared.entry.Entry.{Entry}
use Rattle.sh_history.specs.declared.entry.Entry.TheVariants.{Insert}
use Rattle.sh_history.specs.History.{value_of, is_insert, insert_count}
use Rattle.sh_history.proofs.LogLaws.{value_of-append_some, value_of-append_none, count_by-push}

-- how far the keys that were given are from the first one
pub record AreIssued (layout : Layout) (es : List Entry) : Type 0 where
  pub places : List ℕ
  pub counted : length places ≡ insert_count es
  pub apart : IsDistinct eqb places
  pub small : (q : ℕ) → list_any (eqb q) places ≡ true → q < key_count layout
  pub others : (k : ℕ) → first_key layout ≤ k → value_of es k ≡ None → list_any (eqb (k - first_key layout)) places
      ≡ false

nothing_apart : IsDistinct eqb []
unfolding IsDistinct
nothing_apart = tt

pub none_issued : (layout : Layout) → AreIssued layout []
none_issued layout = record {
  places = [];
  counted = refl;
  apart = nothing_apart;
  small = λ q e. absurd (true≢false (sym e));
  others = λ k few none. refl;
}

pub issued_same : (layout : Layout) (before after : List Entry) → after ≡ before → AreIssued layout before
    → AreIssued layout after
issued_same layout before after e h = subst (AreIssued layout) (sym e) h

-- a key that was not given in the longer history was not given in the shorter one
none_before : (es : List Entry) (e : Entry) (k : ℕ) → value_of (es ++ e ∷ []) k ≡ None → value_of es k ≡ None
none_before es e k h = go (value_of es k) refl
  where
    go : (o : Option (List ℕ)) → value_of es k ≡ o → value_of es k ≡ None
    go None is = is
    go (Some x) is = absurd (let y = value_of-append_some es (e ∷ []) k x is in let z : Some x ≡ None = sym y ∙ h in cc)

-- an entry that is no insert
pub issued_other : (layout : Layout) (es : List Entry) (e : Entry) → is_insert e ≡ false → AreIssued layout es
    → AreIssued layout (es ++ e ∷ [])
issued_other layout es e other h = record {
  places = h.places;
  counted = h.counted ∙ sym (count_by-push is_insert es e ∙ (ap (λ (b : Bool). insert_count es + cond b 1 0) other
      ∙ (let n = insert_count es in omega arith)));
  apart = h.apart;
  small = h.small;
  others = λ k few none. h.others k few (none_before es e k none);
}

either : (a b : Bool) → (a || b) ≡ true → a ≡ false → b ≡ true
either true b e f = absurd (true≢false f)
either false b e f = e

neither : (a b : Bool) → a ≡ false → b ≡ false → (a || b) ≡ false
neither a b e f = rw (e, f) refl

left_false : (a b : Bool) → (a || b) ≡ false → a ≡ false
left_false true b e = e
left_false false b e = refl

right_false : (a b : Bool) → (a || b) ≡ false → b ≡ false
right_false true b e = absurd (true≢false e)
right_false false b e = e

all_apart : (k : ℕ) (ks : List ℕ) → list_any (eqb k) ks ≡ false → AllByRecursion (λ y. eqb k y ≡ false) ks
all_apart k [] h = tt
all_apart k (x ∷ ks) h = (
  left_false (eqb k x) (list_any (eqb k) ks) h,
  all_apart k ks (right_false (eqb k x) (list_any (eqb k) ks) h),
)

-- a new key
module _ (layout : Layout) (es : List Entry) (h : AreIssued layout es) (p key : ℕ) (value : List ℕ)
    (is_key : IsSome (unpacked layout key)) (new : value_of es key ≡ None) where
  from_first : first_key layout ≤ key
  from_first = ((keys_are_consecutive layout key).0 is_key).0

  below_end : key < first_key layout + key_count layout
  below_end = ((keys_are_consecutive layout key).0 is_key).1

  place_small : key - first_key layout < key_count layout
  place_small = omega (arith, from_first, below_end)

  not_there : list_any (eqb (key - first_key layout)) h.places ≡ false
  not_there = h.others key from_first new

  more_apart : IsDistinct eqb ((key - first_key layout) ∷ h.places)
  more_apart = IsDistinct-cons eqb (key - first_key layout) h.places
      (all_apart (key - first_key layout) h.places not_there) h.apart

  more_small : (q : ℕ) → list_any (eqb q) ((key - first_key layout) ∷ h.places) ≡ true → q < key_count layout
  more_small q e = go (eqb q (key - first_key layout)) refl
    where
      go : (b : Bool) → eqb q (key - first_key layout) ≡ b → q < key_count layout
      go true is = let same : q ≡ key - first_key layout = eqb-true q (key - first_key layout) is in
          omega (arith, same, place_small)
      go false is = h.small q (either (eqb q (key - first_key layout)) (list_any (eqb q) h.places) e is)

  other_key : (k : ℕ) → value_of (es ++ Insert p key value ∷ []) k ≡ None → k ≢ key
  other_key k none same =
      let first = value_of-append_none es (Insert p key value ∷ []) k (none_before es (Insert p key value) k none) in
      let here : value_of (Insert p key value ∷ []) k ≡ Some value =
      ap (λ (b : Bool). cond b (Some value) None) (eq-eqb key k (sym same)) in
      let z : Some value ≡ None = sym here ∙ (sym first ∙ none) in cc

  pub issued_more : AreIssued layout (es ++ Insert p key value ∷ [])
  issued_more = record {
    places = (key - first_key layout) ∷ h.places;
    counted = let c = h.counted in let d = count_by-push is_insert es (Insert p key value) in omega (arith, c, d);
    apart = more_apart;
    small = more_small;
    others = λ k few none.
        neither (eqb (k - first_key layout) (key - first_key layout)) (list_any (eqb (k - first_key layout)) h.places)
        (ne_eqb (k - first_key layout) (key - first_key layout) (λ
        (same : k - first_key layout ≡ key - first_key layout).
        other_key k none (let f = from_first in omega (arith, same, few, f))))
        (h.others k few (none_before es (Insert p key value) k none));
  }

  -- so there was one left
  pub one_left : nat_lt (insert_count es) (key_count layout) ≡ true
  one_left =
      let n = length-le_from_distinct_below ((key - first_key layout) ∷ h.places) (key_count layout) more_apart
      more_small in
      let c = h.counted in
      lt-ltb (insert_count es) (key_count layout) (omega (arith, n, c))
