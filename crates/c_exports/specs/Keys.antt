-- What the codes mean for the live keys of a heap, or of the shard that a pass owns.
use Rattle.std.specs.Prelude.{◌≡◌, ℕ, Option, Some, None, Result, Ok, Err}
use Rattle.sh_value.specs.declared.refusal.Refusal.{Refusal}
use Rattle.sh_value.specs.Refusal.{refusal_number}
use Rattle.sh_pass.specs.declared.next_key.NextKey.{NextKey}
use Rattle.sh_whole.specs.declared.refusal.NotTold.{NotTold}
use Rattle.sh_whole.specs.Homes.{TellsNextKey}
use Rattle.sh_member.specs.Sides.{SideNextKey}
use Rattle.c_handles.specs.declared.held_heap.HeldHeap.{HeldHeap}
use Rattle.c_handles.specs.declared.held_pass.HeldPass.{HeldPass}
use Rattle.c_handles.specs.Heaps.{heap_layout, heap_of}
use Rattle.c_handles.specs.Members.{AnyDoes}
use Rattle.c_handles.specs.HeldHeaps.{OnWhole}
use Rattle.c_handles.specs.HeldPasses.{EitherDoes, NamesNoShard}
use Rattle.c_exports.specs.WholeHeap.{why_code}
use Rattle.c_exports.specs.Told.{empty_code}

-- what is written for the next key: the key and the place behind it, or nothing if there is none
abbrev pub KeyWritten : Option NextKey → (code from place old key : ℕ) → Type 0
KeyWritten (Some next) code from place old key = (code ≡ 0) × (place ≡ next.behind) × (key ≡ next.key)
KeyWritten None code from place old key = (code ≡ 28) × (place ≡ from) × (key ≡ old)

-- the same for a call that may be refused: then the code is that of the refusal, and nothing is written
abbrev pub NextWritten : {E : Type 0} → (E → ℕ) → Result (Option NextKey) E → (code from place old key : ℕ) → Type 0
NextWritten number (Ok next) code from place old key = KeyWritten next code from place old key
NextWritten number (Err why) code from place old key = (code ≡ number why) × (place ≡ from) × (key ≡ old)

-- the call for the next key from a place on, by its code; the heap stays in its handle
abbrev pub NextKeyTold : (code from place old key : ℕ) → Option HeldHeap → Option HeldHeap → Type 0
NextKeyTold code from place old key None left = (code ≡ empty_code) × (left ≡ None) × (place ≡ from) × (key ≡ old)
NextKeyTold code from place old key (Some heap) left = (left ≡ Some heap) × ((answer : Result (Option NextKey) NotTold)
    × NextWritten why_code answer code from place old key
    × OnWhole (λ h. TellsNextKey (heap_layout h) (heap_of h) from) heap answer)

-- the call for the next key of the shard that the pass owns, by its code
abbrev pub NextOwnKeyTold : (code from place old key : ℕ) → Option HeldPass → Option HeldPass → Type 0
NextOwnKeyTold code from place old key None after = (code ≡ empty_code) × (after ≡ None) × (place ≡ from) × (key ≡ old)
NextOwnKeyTold code from place old key (Some v) after = (w : HeldPass) × (after ≡ Some w)
    × ((answer : Result (Option NextKey) Refusal) × NextWritten refusal_number answer code from place old key
    × EitherDoes (AnyDoes (λ l. SideNextKey l from)) NamesNoShard v answer w)
