-- If it has room, an operation does not wrap around.
use Rattle.std.proofs.Common.{◌≡◌, ℕ, ◌+◌, ◌-◌, ◌%◌, ◌^◌, ◌<◌, ◌≤◌, refl, arith}
use Rattle.sh_step.specs.declared.operation.Operation.TheVariants.{FetchAdd, FetchSub, FetchOr, Swap, Store}
use Rattle.sh_step.specs.declared.operation.Operation.TheVariants.{CompareExchange, Load}
use Rattle.sh_step.specs.Operations.{RoomDoesNotWrap}

add_stays : (n m : ℕ) → n + m < 2 ^ 64 → n + m ≡ (n + m) % 2 ^ 64
add_stays n m room = omega arith

sub_stays : (n m : ℕ) → n < 2 ^ 64 → m ≤ n → n - m ≡ (n + (2 ^ 64 - m)) % 2 ^ 64
sub_stays n m wide room = omega arith

pub room_does_not_wrap : RoomDoesNotWrap
room_does_not_wrap (FetchAdd m) n wide room = add_stays n m room
room_does_not_wrap (FetchSub m) n wide room = sub_stays n m wide room
room_does_not_wrap (FetchOr m) n wide room = refl
room_does_not_wrap (Swap m) n wide room = refl
room_does_not_wrap (Store m) n wide room = refl
room_does_not_wrap (CompareExchange old new) n wide room = refl
room_does_not_wrap Load n wide room = refl
