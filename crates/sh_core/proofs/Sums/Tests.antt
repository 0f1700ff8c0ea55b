-- What the tests of numbers and truth values say, and what `if1` counts of them: nothing here speaks of a heap.
use Rattle.std.proofs.Common.{◌≡◌, ℕ, suc, zero, ◌<◌, ◌≤◌, ◌==◌, ◌&&◌, ◌||◌, Bool, true, false, cond, refl, sym, ◌∙◌}
use Rattle.std.proofs.Common.{arith, eqb-true, eq-eqb}
use Rattle.sh_step.specs.Collections.{if1}
use Rattle.std.proofs.lemmas.Bool.{cond_both, not-false}
use Rattle.std.specs.Prelude.{not}

pub eqb-comm : (a b : ℕ) → (a == b) ≡ (b == a)
eqb-comm a b = go (a == b) (b == a) refl refl where
  go : (c d : Bool) → (a == b) ≡ c → (b == a) ≡ d → c ≡ d
  go true true e f = refl
  go true false e f = absurd (let z : true ≡ false = sym (eq-eqb b a (sym (eqb-true a b e))) ∙ f in cc)
  go false true e f = absurd (let z : true ≡ false = sym (eq-eqb a b (sym (eqb-true b a f))) ∙ e in cc)
  go false false e f = refl

-- a conjunction that fails although its second part holds
pub first_fails : (a b : Bool) → (a && b) ≡ false → b ≡ true → a ≡ false
first_fails false b h e = refl
first_fails true b h e = absurd (let z : true ≡ false = sym e ∙ h in cc)

-- what holds of both branches of a `cond` holds of its result
pub cond_either : {A : Type 0} (P : A → Type 0) (b : Bool) (x y : A) → P x → P y → P (cond b x y)
cond_either P b x y left right = cond_both b x y P (λ _. left) (λ _. right)

-- ---- what a test counts

pub if1_few : (b : Bool) → if1 b ≤ 1
if1_few true = omega arith
if1_few false = omega arith

pub if1_self : (n : ℕ) → if1 (n == n) ≡ 1
if1_self n = rw (eq-eqb n n refl) refl

pub if1_some : (b : Bool) → 0 < if1 b → b ≡ true
if1_some true h = refl
if1_some false h = absurd (omega arith)

pub if1_one : (b : Bool) → if1 b ≡ 1 → b ≡ true
if1_one true h = refl
if1_one false h = absurd (omega arith)

pub if1_none : (b : Bool) → if1 b ≡ 0 → b ≡ false
if1_none true h = absurd (omega arith)
if1_none false h = refl

pub if1_neither : (b c : Bool) → if1 (b || c) ≡ 0 → (b ≡ false) × (c ≡ false)
if1_neither true c h = absurd (omega arith)
if1_neither false true h = absurd (omega arith)
if1_neither false false h = (refl, refl)

pub if1_zero : (n : ℕ) → if1 (not (n == 0)) ≡ 0 → n ≡ 0
if1_zero n h = eqb-true n 0 (not-false (n == 0) (if1_none (not (n == 0)) h))

-- a number below 2 counts whether it is 1
pub if1_bit : (m : ℕ) → m < 2 → if1 (m == 1) ≡ m
if1_bit zero h = refl
if1_bit (suc zero) h = refl
if1_bit (suc (suc m)) h = absurd (omega arith)

-- a test under another test
pub cond_if1-true : (b c : Bool) → c ≡ true → cond b (if1 c) 0 ≡ if1 b
cond_if1-true b c h = rw h refl

pub cond_if1-false : (b c : Bool) → c ≡ false → cond b (if1 c) 0 ≡ 0
cond_if1-false true c h = rw h refl
cond_if1-false false c h = refl
