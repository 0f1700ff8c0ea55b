-- Calls on a handle that holds something.
use Rattle.std.proofs.Common.{◌≡◌, ℕ, List, false, refl, sym, subst, Result}
use Rattle.std.proofs.lemmas.Bool.{false≢true}
use Rattle.std.specs.declared.option.Option.{Option}
use Rattle.std.specs.declared.option.Option.TheVariants.{None, Some}
use Rattle.sh_value.specs.declared.refusal.Refusal.{Refusal}
use Rattle.c_handles.specs.declared.held_pass.HeldPass.{HeldPass}
use Rattle.sh_nullable.specs.Owning.{has_value}
use Rattle.c_exports.specs.Told.{Asked, AskedNumber, ReadBy, ReadTold, ReadWritten, code_of, empty_code, number_told}

-- a call on an empty handle does nothing
pub no_value : {V : Type 0} (o : Option V) → has_value o ≡ false → o ≡ None
no_value None e = refl
no_value (Some v) e = absurd (false≢true (sym e))

pub unasked : {V A : Type 0} (does : V → Result A Refusal → V → Type 0) (a : Option V) → has_value a ≡ false
    → Asked does empty_code a a
unasked does a e = subst (λ o. Asked does empty_code o o) (sym (no_value a e)) (refl, refl)

pub unasked_number : {V : Type 0} (does : V → Result ℕ Refusal → V → Type 0) (old : ℕ) (a : Option V)
    → has_value a ≡ false → AskedNumber does empty_code old old a a
unasked_number does old a e = subst (λ o. AskedNumber does empty_code old old o o) (sym (no_value a e))
    (refl, refl, refl)

pub unread : (reads : HeldPass → Result (List ℕ) Refusal → HeldPass → Type 0) (old : List ℕ) (was : ℕ)
    (a : Option HeldPass) → has_value a ≡ false → ReadTold reads empty_code old old was was a a
unread reads old was a e = subst (λ o. ReadTold reads empty_code old old was was o o) (sym (no_value a e))
    (refl, refl, refl, refl)

-- and a call on a full one is made
pub asked : {V A : Type 0} (does : V → Result A Refusal → V → Type 0) (code : ℕ) (a b : Option V) (v w : V)
    (answer : Result A Refusal) → a ≡ Some v → b ≡ Some w → code ≡ code_of answer → does v answer w
    → Asked does code a b
asked does code a b v w answer is was e d = subst (λ o. Asked does code o b) (sym is) (w, was, (answer, e, d))

pub asked_number : {V : Type 0} (does : V → Result ℕ Refusal → V → Type 0) (code old new : ℕ) (a b : Option V)
    (v w : V) (answer : Result ℕ Refusal) → a ≡ Some v → b ≡ Some w → code ≡ code_of answer
    → new ≡ number_told old answer → does v answer w → AskedNumber does code old new a b
asked_number does code old new a b v w answer is was e k d = subst (λ o. AskedNumber does code old new o b) (sym is)
    (w, was, (answer, e, k, d))

pub read_told : (reads : HeldPass → Result (List ℕ) Refusal → HeldPass → Type 0) (code : ℕ) (old new : List ℕ)
    (was count : ℕ) (a b : Option HeldPass) (v w : HeldPass) (answer : Result (List ℕ) Refusal) → a ≡ Some v
    → b ≡ Some w → ReadBy code old new was count answer → reads v answer w
    → ReadTold reads code old new was count a b
read_told reads code old new was count a b v w answer is after r d =
    subst (λ o. ReadTold reads code old new was count o b) (sym is) (w, after, (answer, r, d))

-- a read into a room that has the caller's words was a read into these words
pub read_through : (reads : HeldPass → Result (List ℕ) Refusal → HeldPass → Type 0) (code : ℕ)
    (old new there left : List ℕ) (was count here many : ℕ) (a b : Option HeldPass) (v w : HeldPass) → a ≡ Some v
    → b ≡ Some w → there ≡ old → new ≡ left → here ≡ was → count ≡ many
    → ReadWritten reads code there left here many v w → ReadTold reads code old new was count a b
read_through reads code old new there left was count here many a b v w is after begins ends has counts r =
    subst (λ (xs : List ℕ). ReadTold reads code xs new was count a b) begins
    (subst (λ (xs : List ℕ). ReadTold reads code there xs was count a b) (sym ends)
    (subst (λ (k : ℕ). ReadTold reads code there left k count a b) has
    (subst (λ (k : ℕ). ReadTold reads code there left here k a b) (sym counts)
    (read_told reads code there left here many a b v w r.0 is after r.1 r.2))))
