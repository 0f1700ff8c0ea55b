-- A walk into a value of the export's own finds the key with that value.
use Rattle.std.proofs.Common.{◌≡◌, ℕ, List, Option, Some, None, Result, Ok, Err, subst, sym}
use Rattle.sh_value.specs.declared.refusal.Refusal.{Refusal}
use Rattle.sh_pass.specs.declared.next_key.NextKey.{NextKey}
use Rattle.sh_member.specs.Walks.{PutsIfLive, with_value}
use Rattle.sh_member.specs.declared.walking.NextLive.{NextLive}
use Rattle.c_handles.specs.declared.held_pass.HeldPass.{HeldPass}
use Rattle.c_handles.specs.HeldPasses.{HeldNextLive}
use Rattle.c_exports.specs.declared.walking.LiveKey.{LiveKey}
use Rattle.c_exports.specs.Walks.{LiveWritten, WalkAnswered, WalkTold}

-- the answer of a walk with the value that is in the room
live_answer : (does : Result (Option NextLive) Refusal → Type 0) (before after : List ℕ) (code : ℕ) (old new : LiveKey)
    (found : Result (Option NextKey) Refusal) → PutsIfLive does before found after
    → WalkAnswered (λ key. LiveWritten (with_value key after)) found code old new
    → (answer : Result (Option NextLive) Refusal) × WalkAnswered LiveWritten answer code old new × does answer
live_answer does before after code old new (Ok (Some next)) puts written =
    (Ok (Some (with_value next after)), written, puts)
live_answer does before after code old new (Ok None) puts written = (Ok None, written, puts.0)
live_answer does before after code old new (Err why) puts written = (Err why, written, puts.0)

pub live_told : (from before code : ℕ) (room value : List ℕ) (old new : LiveKey) (a b : Option HeldPass) (v w : HeldPass)
    (found : Result (Option NextKey) Refusal) → a ≡ Some v → b ≡ Some w
    → PutsIfLive (λ met. HeldNextLive from before v met w) room found value
    → WalkAnswered (λ key. LiveWritten (with_value key value)) found code old new
    → WalkTold LiveWritten (HeldNextLive from before) code old new a b
live_told from before code room value old new a b v w found is after puts written =
    subst (λ (o : Option HeldPass). WalkTold LiveWritten (HeldNextLive from before) code old new o b) (sym is)
    (w, after, live_answer (λ met. HeldNextLive from before v met w) room value code old new found puts written)
