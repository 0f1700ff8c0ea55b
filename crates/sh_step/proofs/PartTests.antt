-- What the tests of a part say.
use Rattle.std.proofs.Common.{◌≡◌, ℕ, ◌==◌, ◌||◌, ◌⊎◌, inl, inr, ⊎_elim, Bool, true, false, List, [], length, refl, ap}
use Rattle.std.proofs.Common.{eqb-true, eq-eqb, Option, Some, None, ◌∙◌}
use Rattle.std.proofs.lemmas.Bool.{or_cases, or_left, or_right}
use Rattle.sh_slots.specs.declared.hand.Hand.{Hand}
use Rattle.sh_slots.specs.declared.hand.Hand.TheVariants.{Idle}
use Rattle.sh_step.specs.declared.body.Body.{Body}
use Rattle.sh_step.specs.Collections.{noted}
use Rattle.sh_step.specs.Conditions.{Owns}
use Rattle.sh_step.specs.Plans.{Plan, shard_of}
use Rattle.sh_step.specs.Rows.{idle, own, owned_by, no_cursor}
use Rattle.sh_step.proofs.Truths.{no_bool}

idle_hand : (h : Hand) → (elim h as (λ _. Bool) [ Idle ↦ true | _ ↦ false ]) ≡ true → h ≡ Idle
idle_hand Idle e = refl
idle_hand _ e = no_bool e

pub idle_is : (p : Body) → idle p ≡ true → p.hand ≡ Idle
idle_is p e = idle_hand p.hand e

pub is_idle : (p : Body) → p.hand ≡ Idle → idle p ≡ true
is_idle p e = ap (λ (h : Hand). elim h as (λ _. Bool) [ Idle ↦ true | _ ↦ false ]) e

owns_hand : (plan : Plan) (q : ℕ) (o : Option ℕ) → owned_by plan o q ≡ true → o ≡ Some (shard_of plan q)
owns_hand plan q (Some n) e = ap Some (eqb-true n (shard_of plan q) e)
owns_hand plan q None e = no_bool e

pub owns_is : (plan : Plan) (p : Body) (q : ℕ) → own plan p q ≡ true → Owns plan p q
owns_is plan p q e = owns_hand plan q p.owned e

pub is_own : (plan : Plan) (p : Body) (q : ℕ) → Owns plan p q → own plan p q ≡ true
is_own plan p q e = ap (λ (o : Option ℕ). owned_by plan o q) e ∙ eq-eqb (shard_of plan q) (shard_of plan q) refl

pub none_of : {A : Type 0} (o : Option A) → (elim o as (λ _. Bool) [ None ↦ true | _ ↦ false ]) ≡ true → o ≡ None
none_of None e = refl
none_of (Some x) e = no_bool e

pub is_none : {A : Type 0} (o : Option A) → o ≡ None → (elim o as (λ _. Bool) [ None ↦ true | _ ↦ false ]) ≡ true
is_none o e = ap (λ o. elim o as (λ _. Bool) [ None ↦ true | _ ↦ false ]) e

no_cursor_hand : (o : Option ℕ) → (elim o as (λ _. Bool) [ Some _ ↦ false | None ↦ true ]) ≡ true → o ≡ None
no_cursor_hand None e = refl
no_cursor_hand (Some x) e = no_bool e

pub no_cursor_is : (p : Body) (q : ℕ) → no_cursor p q ≡ true → noted q p.cursors ≡ None
no_cursor_is p q e = no_cursor_hand (noted q p.cursors) e

pub is_no_cursor : (p : Body) (q : ℕ) → noted q p.cursors ≡ None → no_cursor p q ≡ true
is_no_cursor p q e = ap (λ (o : Option ℕ). elim o as (λ _. Bool) [ Some _ ↦ false | None ↦ true ]) e

pub is_empty : {A : Type 0} (xs : List A) → xs ≡ [] → (length xs == 0) ≡ true
is_empty xs e = ap (λ ys. length ys == 0) e

pub zero_or_of : (n : ℕ) (b : Bool) → ((n == 0) || b) ≡ true → (n ≡ 0) ⊎ (b ≡ true)
zero_or_of n b e = ⊎_elim (λ z. inl (eqb-true n 0 z)) inr (or_cases (n == 0) b e)

pub zero_or : (n : ℕ) (b : Bool) → (n ≡ 0) ⊎ (b ≡ true) → ((n == 0) || b) ≡ true
zero_or n b (inl e) = or_left (n == 0) b (eq-eqb n 0 e)
zero_or n b (inr e) = or_right (n == 0) b e
