-- Lists, place by place.
use Rattle.std.proofs.Common.{◌≡◌, ℕ, ◌<◌, Bool, true, false, List, [], ◌∷◌, Some, zero, suc, refl}
use Rattle.std.proofs.Common.{sym, subst, arith, take, length, inl, inr, ◌+◌, ◌++◌, ◌∙◌, ap, get_or}
use Rattle.std.specs.Prelude.{slice_get, ◌||◌, ◌&&◌, ◌⊎◌, not}
use Rattle.std.specs.List.{All, AllZip, Contains, list_any, list_all}
use Rattle.std.proofs.lemmas.Bool.{true≢false}
use Rattle.std.proofs.lemmas.List.{take_more}
use Rattle.std.proofs.lemmas.List.Elements.{All-push}
use Rattle.std.proofs.lemmas.Option.{slice_get_read, slice_get_within, get_or_from_slice_get, none-some, same_Some}

-- an element of a list has a place, and one at a place is an element
pub at_place : {X : Type 0} (xs : List X) (x : X) → Contains xs x → (i : ℕ) × (slice_get xs i ≡ Some x)
at_place xs x is = (is.0, slice_get_read xs (length xs) is.0 x refl is.1 (sym is.2))

pub contained : {X : Type 0} (xs : List X) (i : ℕ) (x : X) → slice_get xs i ≡ Some x → Contains xs x
contained xs i x is = (i, slice_get_within xs i x is, get_or_from_slice_get xs i x x is)

-- what two lists that go together have at a place
module _ {X Y : Type 0} (R : X → Y → Type 0) where
  pub zip_at : (xs : List X) (ys : List Y) (i : ℕ) (x : X) → AllZip R xs ys → slice_get xs i ≡ Some x
      → (y : Y) × (slice_get ys i ≡ Some y) × R x y
  zip_at [] ys i x z is = absurd (none-some x is)
  zip_at (a ∷ xs) [] i x z is = absurd z
  zip_at (a ∷ xs) (b ∷ ys) zero x z is = (b, refl, subst (λ (o : X). R o b) (same_Some a x is) z.0)
  zip_at (a ∷ xs) (b ∷ ys) (suc i) x z is = zip_at xs ys i x z.1 is

  pub zip_back : (xs : List X) (ys : List Y) (i : ℕ) (y : Y) → AllZip R xs ys → slice_get ys i ≡ Some y
      → (x : X) × (slice_get xs i ≡ Some x) × R x y
  zip_back xs [] i y z is = absurd (none-some y is)
  zip_back [] (b ∷ ys) i y z is = absurd z
  zip_back (a ∷ xs) (b ∷ ys) zero y z is = (a, refl, subst (λ (o : Y). R a o) (same_Some b y is) z.0)
  zip_back (a ∷ xs) (b ∷ ys) (suc i) y z is = zip_back xs ys i y z.1 is

-- the front of a list
pub in_front : {X : Type 0} (xs : List X) (i l : ℕ) (x : X) → l < i → slice_get xs l ≡ Some x
    → slice_get (take i xs) l ≡ Some x
in_front [] i l x below is = absurd (none-some x is)
in_front (a ∷ xs) zero l x below is = absurd (omega arith)
in_front (a ∷ xs) (suc i) zero x below is = is
in_front (a ∷ xs) (suc i) (suc l) x below is = in_front xs i l x (omega arith) is

pub from_front : {X : Type 0} (xs : List X) (i l : ℕ) (x : X) → slice_get (take i xs) l ≡ Some x
    → (l < i) × (slice_get xs l ≡ Some x)
from_front [] zero l x is = absurd (none-some x is)
from_front [] (suc i) l x is = absurd (none-some x is)
from_front (a ∷ xs) zero l x is = absurd (none-some x is)
from_front (a ∷ xs) (suc i) zero x is = (omega arith, is)
from_front (a ∷ xs) (suc i) (suc l) x is = let r = from_front xs i l x is in (omega (arith, r.0), r.1)

-- tests, place by place
module _ {X : Type 0} (test : X → Bool) where
  pub any_at : (xs : List X) → list_any test xs ≡ true → (i : ℕ) × (x : X) × (slice_get xs i ≡ Some x) × (test x ≡ true)
  any_at [] some = absurd (true≢false (sym some))
  any_at (a ∷ xs) some = go (test a) refl (any_at xs) some where
    go : (b : Bool) → test a ≡ b
        → (list_any test xs ≡ true → (i : ℕ) × (x : X) × (slice_get xs i ≡ Some x) × (test x ≡ true))
        → (b || list_any test xs) ≡ true
        → (i : ℕ) × (x : X) × (slice_get (a ∷ xs) i ≡ Some x) × (test x ≡ true)
    go true is later some = (0, a, refl, is)
    go false is later some = let r = later some in (suc r.0, r.1, r.2, r.3)

  pub any_from : (xs : List X) (i : ℕ) (x : X) → slice_get xs i ≡ Some x → test x ≡ true → list_any test xs ≡ true
  any_from [] i x is passes = absurd (none-some x is)
  any_from (a ∷ xs) zero x is passes =
      go (test a) (subst (λ (o : X). test o ≡ true) (sym (same_Some a x is)) passes) where
        go : (b : Bool) → b ≡ true → (b || list_any test xs) ≡ true
        go true e = refl
        go false e = absurd (true≢false (sym e))
  any_from (a ∷ xs) (suc i) x is passes = go (test a) (any_from xs i x is passes) where
    go : (b : Bool) → list_any test xs ≡ true → (b || list_any test xs) ≡ true
    go true e = refl
    go false e = e

  pub all_at : (xs : List X) (i : ℕ) (x : X) → list_all test xs ≡ true → slice_get xs i ≡ Some x → test x ≡ true
  all_at [] i x all is = absurd (none-some x is)
  all_at (a ∷ xs) zero x all is = subst (λ (o : X). test o ≡ true) (same_Some a x is) (go (test a) all) where
    go : (b : Bool) → (b && list_all test xs) ≡ true → b ≡ true
    go true e = refl
    go false e = absurd (true≢false (sym e))
  all_at (a ∷ xs) (suc i) x all is = all_at xs i x (go (test a) all) is where
    go : (b : Bool) → (b && list_all test xs) ≡ true → list_all test xs ≡ true
    go true e = e
    go false e = absurd (true≢false (sym e))

  pub all_holds : (xs : List X) (x : X) → list_all test xs ≡ true → Contains xs x → test x ≡ true
  all_holds xs x all is = let at = at_place xs x is in all_at xs at.0 x all at.1

-- cases of a test that is one of two
pub or_cases : (a b : Bool) → (a || b) ≡ true → (a ≡ true) ⊎ (b ≡ true)
or_cases true b e = inl refl
or_cases false b e = inr e

-- if the first of two holds, an alternative to its denial does
pub not_first : (a b : Bool) → (not a || b) ≡ true → a ≡ true → b ≡ true
not_first true b e is = e
not_first false b e is = absurd (true≢false (sym is))

-- what holds of the elements in front of one and of it holds of all these
pub all_more : {X : Type 0} (P : X → Type 0) (xs : List X) (n : ℕ) (x : X) → n < length xs → x ≡ get_or xs n x
    → All P (take n xs) → P x → All P (take (n + 1) xs)
all_more {X = X} P xs n x below is all holds = subst (All P)
    (sym (take_more xs n x below ∙ ap (λ (y : X). take n xs ++ y ∷ []) (sym is)))
    (All-push P (take n xs) x all holds)
