-- What a batch of loads writes.
use Rattle.std.specs.Prelude.{◌≡◌, ℕ, List, Result, Option, Some, None}
use Rattle.sh_value.specs.declared.refusal.Refusal.{Refusal}
use Rattle.sh_member.specs.Batches.{DoesEach}
use Rattle.c_handles.specs.declared.held_pass.HeldPass.{HeldPass}
use Rattle.c_handles.specs.HeldPasses.{HeldFetches}
use Rattle.c_exports.specs.declared.batches.Loaded.{Loaded}
use Rattle.c_exports.specs.Told.{ReadBy, empty_code}

-- a key was loaded, and what its load returned was written beside it
pub record LoadsBy (old new : Loaded) (answer : Result (List ℕ) Refusal) (v w : HeldPass) : Type 0 where
  pub key : new.key ≡ old.key
  pub told : ReadBy new.code old.words new.words old.length new.length answer
  pub does_it : HeldFetches old.key v answer w

abbrev pub LoadsOne : Loaded → HeldPass → Loaded → HeldPass → Type 0
LoadsOne old v new w = (answer : Result (List ℕ) Refusal) × LoadsBy old new answer v w

-- each key was loaded, in order, whatever the loads before it returned
abbrev pub LoadsEach : List Loaded → HeldPass → List Loaded → HeldPass → Type 0
LoadsEach = DoesEach LoadsOne

-- a batch by its code: 0 if the handle has a pass, otherwise 14, with nothing done
abbrev pub LoadsTold : ℕ → (old new : List Loaded) → Option HeldPass → Option HeldPass → Type 0
LoadsTold code old new None after = (code ≡ empty_code) × (after ≡ None) × (new ≡ old)
LoadsTold code old new (Some v) after = (w : HeldPass) × (after ≡ Some w) × (code ≡ 0) × LoadsEach old v new w
