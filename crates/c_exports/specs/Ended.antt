-- What the codes mean for calls that say which key they ended, and what these write.
use Rattle.std.specs.Prelude.{◌≡◌, ℕ, List, ◌++◌, drop, length, Option, Some, None, Result}
use Rattle.sh_value.specs.declared.refusal.Refusal.{Refusal}
use Rattle.sh_pass.specs.declared.end_room.NoWords.{NoWords}
use Rattle.c_handles.specs.declared.held_pass.HeldPass.{HeldPass}
use Rattle.c_exports.specs.declared.telling.Ended.{Ended}
use Rattle.c_exports.specs.Told.{code_of, empty_code}

-- the number for C: that of the key, or 0, which is no key
abbrev pub ended_number : Option ℕ → ℕ
ended_number (Some key) = key
ended_number None = 0

-- no key and no words
abbrev pub emptied : Ended → Ended
emptied e = record { key = 0; length = 0; words = e.words }

-- the key that ended, over the words of its value
abbrev pub with_ended : Option ℕ → Ended → Ended
with_ended ended e = record { key = ended_number ended; length = e.length; words = e.words }

-- the words of the value are at the front, and their number is written
pub record EndedTakes (before : Ended) (value : List ℕ) (after : Ended) : Type 0 where
  pub key : after.key ≡ before.key
  pub length_is : after.length ≡ length value
  pub words : after.words ≡ value ++ drop (length value) before.words

-- no room, which takes no words
abbrev pub no_room : NoWords
no_room = record {}

abbrev pub no_takes : NoWords → List ℕ → NoWords → Type 0
no_takes before words after = after ≡ before

-- a call on the value behind a handle that writes the key that it ended: if there is no value the code is 14, nothing
-- is done, and no key is written; otherwise there is a result with this code, and the key that it says is written
abbrev pub EndTold : {A : Type 0}
    → (tells : Ended → HeldPass → Result A Refusal × Option ℕ → Ended → HeldPass → Type 0) → ℕ → (old new : Ended)
    → Option HeldPass → Option HeldPass → Type 0
EndTold tells code old new None after = (code ≡ empty_code) × (after ≡ None) × (new ≡ emptied old)
EndTold {A} tells code old new (Some v) after = (w : HeldPass) × (after ≡ Some w)
    × ((answer : Result A Refusal × Option ℕ) × (code ≡ code_of answer.0)
    × ((room : Ended) × (new ≡ with_ended answer.1 room) × tells (emptied old) v answer room w))

-- the same for a call that writes the key alone
abbrev pub EndKeyTold : {A : Type 0} → (tells : HeldPass → Result A Refusal × Option ℕ → HeldPass → Type 0) → ℕ
    → (new : ℕ) → Option HeldPass → Option HeldPass → Type 0
EndKeyTold tells code new None after = (code ≡ empty_code) × (after ≡ None) × (new ≡ 0)
EndKeyTold {A} tells code new (Some v) after = (w : HeldPass) × (after ≡ Some w)
    × ((answer : Result A Refusal × Option ℕ) × (code ≡ code_of answer.0) × (new ≡ ended_number answer.1)
    × tells v answer w)
