-- Calls that say which key they ended, on a handle that holds something, or nothing.
use Rattle.std.proofs.Common.{◌≡◌, ℕ, false, refl, sym, subst, Result}
use Rattle.std.specs.declared.option.Option.{Option}
use Rattle.std.specs.declared.option.Option.TheVariants.{Some}
use Rattle.sh_value.specs.declared.refusal.Refusal.{Refusal}
use Rattle.c_handles.specs.declared.held_pass.HeldPass.{HeldPass}
use Rattle.sh_nullable.specs.Owning.{has_value}
use Rattle.c_exports.specs.declared.telling.Ended.{Ended}
use Rattle.c_exports.specs.Ended.{EndKeyTold, EndTold, emptied, ended_number, with_ended}
use Rattle.c_exports.specs.Told.{code_of, empty_code}
use Rattle.c_exports.proofs.Asking.{no_value}

-- a call on an empty handle ends nothing
pub untold : {A : Type 0} (tells : Ended → HeldPass → Result A Refusal × Option ℕ → Ended → HeldPass → Type 0)
    (old new : Ended) (a : Option HeldPass) → has_value a ≡ false → new ≡ emptied old
    → EndTold tells empty_code old new a a
untold tells old new a e is = subst (λ o. EndTold tells empty_code old new o o) (sym (no_value a e)) (refl, refl, is)

pub untold_key : {A : Type 0} (tells : HeldPass → Result A Refusal × Option ℕ → HeldPass → Type 0) (a : Option HeldPass)
    → has_value a ≡ false → EndKeyTold tells empty_code 0 a a
untold_key tells a e = subst (λ o. EndKeyTold tells empty_code 0 o o) (sym (no_value a e)) (refl, refl, refl)

-- and one on a full handle says what it ended
pub end_told : {A : Type 0} (tells : Ended → HeldPass → Result A Refusal × Option ℕ → Ended → HeldPass → Type 0)
    (code : ℕ) (old new room : Ended) (a b : Option HeldPass) (v w : HeldPass) (answer : Result A Refusal × Option ℕ)
    → a ≡ Some v → b ≡ Some w → code ≡ code_of answer.0 → new ≡ with_ended answer.1 room
    → tells (emptied old) v answer room w → EndTold tells code old new a b
end_told tells code old new room a b v w answer is was e n d =
    subst (λ o. EndTold tells code old new o b) (sym is) (w, was, (answer, e, (room, n, d)))

pub end_key_told : {A : Type 0} (tells : HeldPass → Result A Refusal × Option ℕ → HeldPass → Type 0) (code new : ℕ)
    (a b : Option HeldPass) (v w : HeldPass) (answer : Result A Refusal × Option ℕ) → a ≡ Some v → b ≡ Some w
    → code ≡ code_of answer.0 → new ≡ ended_number answer.1 → tells v answer w → EndKeyTold tells code new a b
end_key_told tells code new a b v w answer is was e n d =
    subst (λ o. EndKeyTold tells code new o b) (sym is) (w, was, (answer, e, n, d))
