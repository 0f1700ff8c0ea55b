-- An operation whose count fits has room.
use Rattle.std.proofs.Common.{◌≡◌, ℕ, ◌+◌, ◌^◌, ◌<◌, ◌≤◌, sym, subst, arith}
use Rattle.sh_word.specs.Fields.{fields_of}
use Rattle.sh_step.specs.declared.operation.Operation.{Operation}
use Rattle.sh_step.specs.declared.operation.Operation.TheVariants.{FetchAdd, FetchSub, FetchOr, Swap, Store}
use Rattle.sh_step.specs.declared.operation.Operation.TheVariants.{CompareExchange, Load}
use Rattle.sh_step.specs.Operations.{HasRoom}
use Rattle.sh_core.specs.InHeap.{CountFits, CountsLeaveRoom}

-- the count is in the lowest bits of a state word
add_fits : (n m : ℕ) → n < 2 ^ 64 → (fields_of n).count + m < 2 ^ 30 → n + m < 2 ^ 64
unfolding fields_of
add_fits n m h f = omega arith

sub_fits : (n m : ℕ) → m ≤ (fields_of n).count → m ≤ n
unfolding fields_of
sub_fits n m f = omega arith

pub fits_room : CountsLeaveRoom
fits_room (FetchAdd m) n h f = add_fits n m h f
fits_room (FetchSub m) n h f = sub_fits n m f
fits_room (FetchOr m) n h f = tt
fits_room (Swap m) n h f = tt
fits_room (Store m) n h f = tt
fits_room (CompareExchange a b) n h f = tt
fits_room Load n h f = tt

pub operation_has_room : (o o' : Operation) (n n' : ℕ) → o ≡ o' → n ≡ n' → n < 2 ^ 64 → CountFits o' n' → HasRoom o n
operation_has_room o o' n n' e f h c = fits_room o n h (let P : Operation → Type 0 = λ x. CountFits x n
    in subst P (sym e) (let Q : ℕ → Type 0 = λ x. CountFits o' x in subst Q (sym f) c))
