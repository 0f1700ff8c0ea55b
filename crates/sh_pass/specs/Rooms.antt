-- What a call puts into a caller's room.
use Rattle.std.specs.Prelude.{◌≡◌, List, ℕ, Result, Ok, Err}
use Rattle.sh_value.specs.declared.refusal.Refusal.{Refusal}
use Rattle.sh_pass.specs.declared.looking.Glance.{Glance}
use Rattle.sh_pass.specs.declared.looking.Glance.TheVariants.{Seen}

-- the room that is a value: it is the value that it took, whatever it was before
abbrev pub becomes : (before value after : List ℕ) → Type 0
becomes before value after = after ≡ value

-- the room took the value that the call returned; a refusal leaves it as it was
abbrev pub FillsRoom : {M : Type 0} → (takes : M → List ℕ → M → Type 0) → (does : Result (List ℕ) Refusal → Type 0)
    → (before : M) → Result (Unit {0}) Refusal → (after : M) → Type 0
FillsRoom takes does before (Ok _) after = (value : List ℕ) × does (Ok value) × takes before value after
FillsRoom takes does before (Err why) after = does (Err why) × (after ≡ before)

-- the room took a value that was seen; otherwise it is as it was
abbrev pub TakesSeen : {M : Type 0} → (takes : M → List ℕ → M → Type 0) → Glance → (before : M) → List ℕ → (after : M)
    → Type 0
TakesSeen takes Seen before value after = takes before value after
TakesSeen takes _ before value after = after ≡ before

-- what a look does with some value, which the room took if it was seen
abbrev pub LookFills : {M : Type 0} → (takes : M → List ℕ → M → Type 0) → (does : List ℕ → Type 0) → Glance
    → (before after : M) → Type 0
LookFills takes does found before after = (value : List ℕ) × does value × TakesSeen takes found before value after
