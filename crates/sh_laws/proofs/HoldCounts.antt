-- What the parts have of holds is what the log says.
use Rattle.std.proofs.Common.{◌≡◌, ℕ, zero, suc, ◌+◌, ◌<◌, ◌≤◌, ◌==◌, ◌&&◌, Bool, true, false, List, []}
use Rattle.std.proofs.Common.{◌∷◌, refl, arith, ap, sym, ◌∙◌, Option, Some, None, length, slice_get, ne_eqb}
use Rattle.std.specs.Prelude.{All, count_by, get_or, nat_lt}
use Rattle.std.proofs.lemmas.Bool.Decides.{nat_tests}
use Rattle.std.proofs.lemmas.List.Elements.{All-head, All-tail}
use Rattle.std.proofs.lemmas.Option.{slice_get-get_or}
use Rattle.sh_history.specs.History.{is_got_by, is_release_by, got_count_by, released_count_by, holds_on}
use Rattle.sh_history.specs.Log.{pass_of}
use Rattle.sh_history.proofs.LogLaws.{count_by-cons}
use Rattle.sh_step.specs.declared.body.Body.{Body}
use Rattle.sh_step.specs.Collections.{total, if1}
use Rattle.sh_history.specs.declared.entry.Entry.{Entry}
use Rattle.sh_history.specs.declared.entry.Entry.TheVariants.{Got, Released}
use Rattle.sh_core.specs.Lists.{PutLists, times}
use Rattle.sh_step.specs.Parts.{newcomer}
use Rattle.sh_step.specs.Plans.{Plan}
use Rattle.sh_core.specs.Refines.{Refines}
use Rattle.sh_core.specs.Worlds.{World}
use Rattle.sh_laws.specs.Garbage.{sum_below}
use Rattle.sh_laws.specs.Objects.{holds_of, holds_together, object_of}

-- ---- one pass

none_counted : (f : Entry → Bool) (passes : ℕ) → ((e : Entry) → pass_of e < passes → f e ≡ false) → (es : List Entry)
    → All (λ e. pass_of e < passes) es → count_by f es ≡ 0
none_counted f passes other [] ours = refl
none_counted f passes other (e ∷ es) ours =
    let P : Entry → Type 0 = λ e. pass_of e < passes in
    let rest = none_counted f passes other es (All-tail P e es ours) in
    let first : if1 (f e) ≡ 0 = ap if1 (other e (All-head P e es ours)) in
    let both = count_by-cons f e es in omega (arith, rest, first, both)

got_elsewhere : (a k passes : ℕ) → passes ≤ a → (e : Entry) → pass_of e < passes → is_got_by a k e ≡ false
got_elsewhere a k passes past (Got b j v) low = ap (λ c. c && (j == k)) (ne_eqb b a (λ e. omega (arith, e, low, past)))
got_elsewhere a k passes past _ low = refl

released_elsewhere : (a k passes : ℕ) → passes ≤ a → (e : Entry) → pass_of e < passes → is_release_by a k e ≡ false
released_elsewhere a k passes past (Released b j) low =
    ap (λ c. c && (j == k)) (ne_eqb b a (λ e. omega (arith, e, low, past)))
released_elsewhere a k passes past _ low = refl

pub holds_at : (w : World) (a k : ℕ) (p : Body) → slice_get w.parts a ≡ Some p → holds_of w a k ≡ times k p.holds
holds_at w a k p at = ap (λ (o : Option Body). elim o as (λ _. ℕ) [ Some p ↦ times k p.holds | None ↦ 0 ]) at

pub no_holds_at : (w : World) (a k : ℕ) → slice_get w.parts a ≡ None → holds_of w a k ≡ 0
no_holds_at w a k at = ap (λ (o : Option Body). elim o as (λ _. ℕ) [ Some p ↦ times k p.holds | None ↦ 0 ]) at

module _ (plan : Plan) (w : World) (l : PutLists) (all : Refines plan w l) where
  past_all : (a : ℕ) → slice_get w.parts a ≡ None → plan.passes ≤ a
  past_all a none = go (nat_lt a plan.passes) refl where
    go : (b : Bool) → nat_lt a plan.passes ≡ b → plan.passes ≤ a
    go true is =
        let low : a < plan.passes = grind (arith, nat_tests, is) in
        let passes = all.passes in
        let some = slice_get-get_or w.parts a newcomer (omega (arith, low, passes)) in
        absurd (let z : None ≡ Some (get_or w.parts a newcomer) = sym none ∙ some in cc)
    go false is = grind (arith, nat_tests, is)

  pub counted : (a k : ℕ) → got_count_by w.log a k ≡ released_count_by w.log a k + holds_of w a k
  counted a k = go (slice_get w.parts a) refl where
    go : (o : Option Body) → slice_get w.parts a ≡ o
        → got_count_by w.log a k ≡ released_count_by w.log a k + holds_of w a k
    go (Some p) at =
        let log = all.holds.of_pass a p k at in
        let holds = holds_at w a k p at in omega (arith, log, holds)
    go None at =
        let past = past_all a at in
        let got = none_counted (is_got_by a k) plan.passes (got_elsewhere a k plan.passes past) w.log all.entries in
        let released = none_counted (is_release_by a k) plan.passes (released_elsewhere a k plan.passes past) w.log
        all.entries in
        let holds = no_holds_at w a k at in omega (arith, got, released, holds)

-- ---- all passes

below_shift : (f : ℕ → ℕ) (n : ℕ) → sum_below f (suc n) ≡ f 0 + sum_below (λ i. f (suc i)) n
unfolding sum_below
below_shift f zero = omega arith
below_shift f (suc n) = let rest = below_shift f n in omega (arith, rest)

at_place : {A : Type 0} → (A → ℕ) → List A → ℕ → ℕ
at_place f xs i = elim (slice_get xs i) [ Some x ↦ f x | None ↦ 0 ]

by_place : {A : Type 0} (f : A → ℕ) (xs : List A) → total f xs ≡ sum_below (at_place f xs) (length xs)
unfolding total sum_below at_place
by_place f [] = refl
by_place f (x ∷ xs) =
    let rest = by_place f xs in
    let shift : sum_below (at_place f (x ∷ xs)) (suc (length xs)) ≡ f x + sum_below (at_place f xs) (length xs) =
    below_shift (at_place f (x ∷ xs)) (length xs) in omega (arith, rest, shift)

pub held_together : (plan : Plan) (w : World) (l : PutLists) → Refines plan w l → (k : ℕ)
    → holds_on w.log k ≡ holds_together plan.passes (object_of plan w) k
unfolding at_place
held_together plan w l all k =
    let log = all.holds.together k in
    let place = by_place (λ (p : Body). times k p.holds) w.parts in
    let passes : sum_below (at_place (λ (p : Body). times k p.holds) w.parts) (length w.parts)
    ≡ holds_together plan.passes (object_of plan w) k =
    ap (sum_below (at_place (λ (p : Body). times k p.holds) w.parts)) all.passes in
    omega (arith, log, place, passes)
