-- Giving a pass back, or the passes of a caller.
use Rattle.std.proofs.Common.{◌≡◌, ℕ, false, refl, sym, subst, Result}
use Rattle.std.specs.declared.option.Option.{Option}
use Rattle.std.specs.declared.option.Option.TheVariants.{Some}
use Rattle.sh_value.specs.declared.refusal.Refusal.{Refusal}
use Rattle.sh_nullable.specs.Owning.{has_value}
use Rattle.c_handles.specs.declared.held_pass.HeldPass.{HeldPass}
use Rattle.c_handles.specs.HeldPasses.{LeavesShards}
use Rattle.c_exports.specs.Opened.{GiveTold, GivenBy}
use Rattle.c_exports.specs.Told.{empty_code}
use Rattle.c_exports.proofs.Asking.{no_value}

-- an empty handle has nothing to give
pub none_given : (a : Option HeldPass) → has_value a ≡ false → GiveTold empty_code a a
none_given a e = subst (λ o. GiveTold empty_code o o) (sym (no_value a e)) (refl, refl)

-- what let go is given back, or stays if it has to wait
pub given : (code : ℕ) (a b : Option HeldPass) (m n : HeldPass) (answer : Result (Unit {0}) Refusal) → a ≡ Some m
    → LeavesShards m answer n → GivenBy answer n code b → GiveTold code a b
given code a b m n answer is went did = subst (λ o. GiveTold code o b) (sym is) (answer, (n, went, did))
