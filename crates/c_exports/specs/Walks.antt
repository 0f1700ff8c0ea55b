-- What the codes mean for a walk over the live keys of a heap.
use Rattle.std.specs.Prelude.{◌≡◌, ℕ, ◌++◌, drop, length, Option, Some, None, Result, Ok, Err}
use Rattle.sh_value.specs.declared.hold.Hold.{Hold}
use Rattle.sh_value.specs.declared.refusal.Refusal.{Refusal}
use Rattle.sh_value.specs.Refusal.{refusal_number}
use Rattle.sh_member.specs.declared.walking.NextHeld.{NextHeld}
use Rattle.sh_member.specs.declared.walking.NextLive.{NextLive}
use Rattle.c_handles.specs.declared.held_pass.HeldPass.{HeldPass}
use Rattle.c_exports.specs.declared.walking.HeldKey.{HeldKey}
use Rattle.c_exports.specs.declared.walking.LiveKey.{LiveKey}
use Rattle.c_exports.specs.Told.{empty_code}

-- the key that was met, the place behind it and its value
pub record LiveWritten (met : NextLive) (old new : LiveKey) : Type 0 where
  pub key : new.key ≡ met.key
  pub behind : new.behind ≡ met.behind
  pub length_is : new.length ≡ length met.value
  pub words : new.words ≡ met.value ++ drop (length met.value) old.words

-- 1 with a hold
abbrev pub held_number : Option Hold → ℕ
held_number (Some hold) = 1
held_number None = 0

-- the key that was met, the place behind it and whether it is held
pub record HeldWritten (met : NextHeld) (old new : HeldKey) : Type 0 where
  pub key : new.key ≡ met.key
  pub behind : new.behind ≡ met.behind
  pub held : new.held ≡ held_number met.hold

-- what is written for the next key of a walk: what `writes` says of the key that was met, or nothing if none was
abbrev pub WalkWritten : {X K : Type 0} → (writes : X → K → K → Type 0) → Option X → (code : ℕ) → (old new : K) → Type 0
WalkWritten writes (Some met) code old new = (code ≡ 0) × writes met old new
WalkWritten writes None code old new = (code ≡ 28) × (new ≡ old)

-- the same for a call that may be refused: then the code is that of the refusal, and nothing is written
abbrev pub WalkAnswered : {X K : Type 0} → (writes : X → K → K → Type 0) → Result (Option X) Refusal → (code : ℕ)
    → (old new : K) → Type 0
WalkAnswered writes (Ok met) code old new = WalkWritten writes met code old new
WalkAnswered writes (Err why) code old new = (code ≡ refusal_number why) × (new ≡ old)

-- the call for the next key of a walk by the pass of a handle, by its code
abbrev pub WalkTold : {X K : Type 0} → (writes : X → K → K → Type 0)
    → (walks : HeldPass → Result (Option X) Refusal → HeldPass → Type 0) → (code : ℕ) → (old new : K) → Option HeldPass
    → Option HeldPass → Type 0
WalkTold writes walks code old new None after = (code ≡ empty_code) × (after ≡ None) × (new ≡ old)
WalkTold {X} {K} writes walks code old new (Some v) after = (w : HeldPass) × (after ≡ Some w)
    × ((answer : Result (Option X) Refusal) × WalkAnswered writes answer code old new × walks v answer w)
