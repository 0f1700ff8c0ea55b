-- What an operation leaves of the word that it finds, and what it returns.
use Rattle.std.specs.Prelude.{ℕ, ◌≡◌, ◌+◌, ◌-◌, ◌%◌, ◌^◌, ◌<◌, ◌≤◌, ◌==◌, cond, bit_or, Option, Some, None}
use Rattle.sh_step.specs.declared.operation.Operation.{Operation}
use Rattle.sh_step.specs.declared.operation.Operation.TheVariants.{FetchAdd, FetchSub, FetchOr, Swap, Store}
use Rattle.sh_step.specs.declared.operation.Operation.TheVariants.{CompareExchange, Load}

-- the word after the operation
abbrev pub operate : Operation → ℕ → ℕ
operate (FetchAdd m) n = n + m
operate (FetchSub m) n = n - m
operate (FetchOr m) n = bit_or n m
operate (Swap m) n = m
operate (Store m) n = m
operate (CompareExchange old new) n = cond (n == old) new n
operate Load n = n

-- what a swap or an exchange stores fits a word
abbrev pub StoresWord : Operation → Type 0
StoresWord (Swap m) = m < 2 ^ 64
StoresWord (CompareExchange old new) = new < 2 ^ 64
StoresWord _ = Unit {0}

-- the word found has room: an addition stays a word, and a subtraction does not go below 0
abbrev pub HasRoom : Operation → ℕ → Type 0
HasRoom (FetchAdd m) n = n + m < 2 ^ 64
HasRoom (FetchSub m) n = m ≤ n
HasRoom _ n = Unit {0}

-- what a machine leaves: its words have 64 bits and wrap around
abbrev pub wrapped : Operation → ℕ → ℕ
wrapped (FetchAdd m) n = (n + m) % 2 ^ 64
wrapped (FetchSub m) n = (n + (2 ^ 64 - m)) % 2 ^ 64
wrapped (FetchOr m) n = bit_or n m
wrapped (Swap m) n = m
wrapped (Store m) n = m
wrapped (CompareExchange old new) n = cond (n == old) new n
wrapped Load n = n

-- if the word found has room, the machine's result is what the operation leaves
abbrev pub RoomDoesNotWrap : Type 0
RoomDoesNotWrap = (o : Operation) (n : ℕ) → n < 2 ^ 64 → HasRoom o n → operate o n ≡ wrapped o n

-- what it returns: the word that it found, or nothing for a store
abbrev pub answer : Operation → ℕ → Option ℕ
answer (Store m) n = None
answer _ n = Some n
