-- What an export's code means for the value behind its handle.
use Rattle.std.specs.Prelude.{◌≡◌, ℕ, ◌<◌, ◌≤◌, ◌⊎◌, List, ◌++◌, length, drop, Result, Ok, Err, Option, Some, None}
use Rattle.sh_value.specs.declared.refusal.Refusal.{Refusal}
use Rattle.sh_value.specs.declared.refusal.Refusal.TheVariants as refusal
use Rattle.sh_value.specs.Refusal.{refusal_number}
use Rattle.sh_shape.specs.Classes.{class_of}
use Rattle.c_handles.specs.declared.held_pass.HeldPass.{HeldPass}
use Rattle.c_handles.specs.HeldPasses.{HeldInserts, HeldPrepares}

-- 0 if a call was done, otherwise the refusal's number
abbrev pub code_of : {A : Type 0} → Result A Refusal → ℕ
code_of (Ok _) = 0
code_of (Err refusal) = refusal_number refusal

-- the code of a handle that holds nothing
abbrev pub empty_code : ℕ
empty_code = 14

-- what a call on the value behind a handle does: if there is no value the code is 14 and nothing is done; otherwise
-- there is a result with this code, and the value did what that result says
abbrev pub Asked : {V A : Type 0} → (V → Result A Refusal → V → Type 0) → ℕ → Option V → Option V → Type 0
Asked does code None after = (code ≡ empty_code) × (after ≡ None)
Asked {V} {A} does code (Some v) after = (w : V) × (after ≡ Some w)
    × ((answer : Result A Refusal) × (code ≡ code_of answer) × does v answer w)

-- the number that a call writes: that of its result, or what was there before if it was refused
abbrev pub number_told : ℕ → Result ℕ Refusal → ℕ
number_told old (Ok number) = number
number_told old (Err _) = old

-- the same for a call that writes a number
abbrev pub AskedNumber : {V : Type 0} → (V → Result ℕ Refusal → V → Type 0) → (code old new : ℕ) → Option V → Option V
    → Type 0
AskedNumber does code old new None after = (code ≡ empty_code) × (after ≡ None) × (new ≡ old)
AskedNumber {V} does code old new (Some v) after = (w : V) × (after ≡ Some w) × ((answer : Result ℕ Refusal)
    × (code ≡ code_of answer) × (new ≡ number_told old answer) × does v answer w)

-- ---- an insert

-- more than 16 words are refused, and nothing is done; others are inserted, if the pass owns a shard or its heap grows
abbrev pub InsertsWords : List ℕ → HeldPass → Result ℕ Refusal → HeldPass → Type 0
InsertsWords words v answer w = ((16 < length words) × (answer ≡ Err refusal.TooLong) × (w ≡ v))
    ⊎ ((length words ≤ 16) × HeldInserts words v answer w)

-- an insert by its code, and the key that it writes
abbrev pub InsertTold : List ℕ → (code old new : ℕ) → Option HeldPass → Option HeldPass → Type 0
InsertTold words = AskedNumber (InsertsWords words)

-- ---- a prepare

-- no page is for values of more than 16 words; otherwise the class of the length is prepared
abbrev pub PreparesFor : ℕ → HeldPass → Result ℕ Refusal → HeldPass → Type 0
PreparesFor words v answer w = ((16 < words) × (answer ≡ Err refusal.TooLong) × (w ≡ v))
    ⊎ ((class : ℕ) × (class_of words ≡ Some class) × HeldPrepares class v answer w)

-- a prepare by its code, and the page that it writes
abbrev pub PrepareTold : ℕ → (code old new : ℕ) → Option HeldPass → Option HeldPass → Type 0
PrepareTold words = AskedNumber (PreparesFor words)

-- ---- a read

-- the words of a value are at the front of the room, if there is room for them; otherwise no word is written
abbrev pub WordsTold : List ℕ → List ℕ → ℕ → List ℕ → Type 0
WordsTold value old code new = ((length value ≤ length old) × (code ≡ 0) × (new ≡ value ++ drop (length value) old))
    ⊎ ((length old < length value) × (code ≡ 17) × (new ≡ old))

-- what a read with this result wrote: the value's words and how many they are, or nothing
abbrev pub ReadBy : ℕ → List ℕ → List ℕ → ℕ → ℕ → Result (List ℕ) Refusal → Type 0
ReadBy code old new was count (Ok value) = (count ≡ length value) × WordsTold value old code new
ReadBy code old new was count (Err why) = (code ≡ refusal_number why) × (new ≡ old) × (count ≡ was)

-- a read of the value behind a handle did what a result says, by its code and by what it wrote
abbrev pub ReadWritten : (HeldPass → Result (List ℕ) Refusal → HeldPass → Type 0) → ℕ → List ℕ → List ℕ → ℕ → ℕ
    → HeldPass → HeldPass → Type 0
ReadWritten reads code old new was count v w =
    (answer : Result (List ℕ) Refusal) × ReadBy code old new was count answer × reads v answer w

-- the same of a handle that may hold nothing
abbrev pub ReadTold : (HeldPass → Result (List ℕ) Refusal → HeldPass → Type 0) → ℕ → List ℕ → List ℕ → ℕ → ℕ
    → Option HeldPass → Option HeldPass → Type 0
ReadTold reads code old new was count None after = (code ≡ empty_code) × (after ≡ None) × (new ≡ old) × (count ≡ was)
ReadTold reads code old new was count (Some v) after =
    (w : HeldPass) × (after ≡ Some w) × ReadWritten reads code old new was count v w
