-- What a line is answered with: what the call of the library returned.
use Rattle.std.specs.Prelude.{◌≡◌, ℕ, List, Result, Ok, Err}
use Rattle.sh_value.specs.declared.hold.Hold.{Hold}
use Rattle.sh_value.specs.declared.refusal.Refusal.{Refusal}
use Rattle.sh_member.specs.Readers.{TakeIntoDoes}
use Rattle.sh_member.specs.Sides.{SideDoes}
use Rattle.sh_chunk.specs.Chunks.{chunked, key_within}
use Rattle.c_handles.specs.Members.{AnyDoes}
use Rattle.c_handles.specs.HeldPasses.{FillsByKey, HeldFetches, HeldGets, HeldReads, HeldReleases, HeldRemoves}
use Rattle.c_handles.specs.declared.held_pass.HeldPass.{HeldPass}
use Rattle.tool_calls.specs.declared.answers.Answer.{Answer}
use Rattle.tool_calls.specs.declared.answers.Answer.TheVariants as answer
use Rattle.tool_calls.specs.declared.line.KeyCall.{KeyCall}
use Rattle.tool_calls.specs.declared.line.KeyCall.TheVariants.{Get, Read, Look, Take, Remove, Release}

-- a refusal by its name, or what this makes of what was returned
abbrev pub told : {A : Type 0} → (A → Answer) → Result A Refusal → Answer
told shown (Ok found) = shown found
told shown (Err why) = answer.Refused why

-- the call was done, or is refused
abbrev pub done : {A : Type 0} → Result A Refusal → Answer
done = told (λ _. answer.Done)

-- the pass took the key, whose value is this
abbrev pub TakesKey : ℕ → (value : List ℕ) → HeldPass → Result (Unit {0}) Refusal → HeldPass → Type 0
TakesKey key value = FillsByKey (AnyDoes (λ l. SideDoes l (λ v a w. TakeIntoDoes l key 16 v a value w)))
    (λ v a w. TakeIntoDoes chunked (key_within key) 16 v a value w) key

-- the answer is the value, or why the key was not taken
abbrev pub TakeAnswers : ℕ → HeldPass → Answer → HeldPass → Type 0
TakeAnswers key m a n = (value : List ℕ) × (r : Result (Unit {0}) Refusal) × TakesKey key value m r n
    × (a ≡ told (λ _. answer.Value value) r)

-- the pass did the call on the key, and the answer is what that returned
abbrev pub KeyAnswers : KeyCall → ℕ → HeldPass → Answer → HeldPass → Type 0
KeyAnswers Get key m a n = (r : Result Hold Refusal) × HeldGets key m r n × (a ≡ done r)
KeyAnswers Read key m a n = (r : Result (List ℕ) Refusal) × HeldReads key m r n × (a ≡ told answer.Value r)
KeyAnswers Look key m a n = (r : Result (List ℕ) Refusal) × HeldFetches key m r n × (a ≡ told answer.Value r)
KeyAnswers Take key m a n = TakeAnswers key m a n
KeyAnswers Remove key m a n = (r : Result (Unit {0}) Refusal) × HeldRemoves key m r n × (a ≡ done r)
KeyAnswers Release key m a n = (r : Result (Unit {0}) Refusal) × HeldReleases key m r n × (a ≡ done r)
