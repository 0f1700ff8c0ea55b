-- Tests and their truths.
use Rattle.std.proofs.Common.{◌≡◌, ℕ, ◌<◌, ◌≤◌, ◌&&◌, Bool, true, false, refl, arith, Some, None}
use Rattle.std.specs.Prelude.{not, nat_lt, nat_le}
use Rattle.std.specs.Bool.{then_some}
use Rattle.std.proofs.lemmas.Bool.Decides.{nat_tests}

pub no_some : {A B : Type 0} (m : B) → None ≡ Some m → A
no_some m h = absurd (let z : None ≡ Some m = h in cc)

pub no_bool : {A : Type 0} → false ≡ true → A
no_bool h = absurd (let z : false ≡ true = h in cc)

-- what is there under a condition, and without one
pub by_then : {B : Type 0} (b : Bool) (n m : B) → then_some b n ≡ Some m → (b ≡ true) × (n ≡ m)
by_then true n m h = (refl, cc)
by_then false n m h = no_some m h

pub by_some : {B : Type 0} (n m : B) → Some n ≡ Some m → n ≡ m
by_some n m h = cc

pub and2 : (a b : Bool) → (a && b) ≡ true → (a ≡ true) × (b ≡ true)
and2 true true h = (refl, refl)
and2 true false h = no_bool h
and2 false b h = no_bool h

pub and3 : (a b c : Bool) → (a && b && c) ≡ true → (a ≡ true) × (b ≡ true) × (c ≡ true)
and3 true true true h = (refl, refl, refl)
and3 true true false h = no_bool h
and3 true false c h = no_bool h
and3 false b c h = no_bool h

pub and4 : (a b c d : Bool) → (a && b && c && d) ≡ true → (a ≡ true) × (b ≡ true) × (c ≡ true) × (d ≡ true)
and4 true true true true h = (refl, refl, refl, refl)
and4 true true true false h = no_bool h
and4 true true false d h = no_bool h
and4 true false c d h = no_bool h
and4 false b c d h = no_bool h

pub and5 : (a b c d e : Bool) → (a && b && c && d && e) ≡ true → (a ≡ true) × (b ≡ true) × (c ≡ true) × (d ≡ true)
    × (e ≡ true)
and5 true true true true true h = (refl, refl, refl, refl, refl)
and5 true true true true false h = no_bool h
and5 true true true false e h = no_bool h
and5 true true false d e h = no_bool h
and5 true false c d e h = no_bool h
and5 false b c d e h = no_bool h

pub lt_of : (a b : ℕ) → nat_lt a b ≡ true → a < b
lt_of a b h = grind (arith, nat_tests)

pub le_of : (a b : ℕ) → nat_le a b ≡ true → a ≤ b
le_of a b h = grind (arith, nat_tests)

pub lt_true : (a b : ℕ) → a < b → nat_lt a b ≡ true
lt_true a b h = grind (arith, nat_tests)

pub le_true : (a b : ℕ) → a ≤ b → nat_le a b ≡ true
le_true a b h = grind (arith, nat_tests)

pub not_of : (b : Bool) → not b ≡ true → b ≡ false
not_of true h = no_bool h
not_of false h = refl
