-- What the calls of what a pass's handle holds say of the key that they ended.
use Rattle.std.specs.Prelude.{ℕ, List, Bool, Option, Result}
use Rattle.sh_key.specs.Layout.{Layout}
use Rattle.sh_value.specs.declared.hold.Hold.{Hold}
use Rattle.sh_value.specs.declared.refusal.Refusal.{Refusal}
use Rattle.sh_chunk.specs.Chunks.{chunk_of}
use Rattle.sh_pass.specs.Passes.{Caller}
use Rattle.sh_pass.specs.Telling.{GetTells, RemoveTells, ReleaseTells}
use Rattle.sh_member.specs.Sides.{SideDoes}
use Rattle.sh_grown.specs.Callers.{Stays}
use Rattle.sh_grown.specs.Ended.{GetTellsIn, GrownTells, ReleaseTellsIn, RemoveTellsIn}
use Rattle.c_handles.specs.declared.held_pass.HeldPass.{HeldPass}
use Rattle.c_handles.specs.HeldPasses.{EitherDoes}
use Rattle.c_handles.specs.Members.{AnyDoes}

-- a call on a key that says which key it ended: a pass of a heap of a fixed shape does the first, and a caller's member
-- in the chunk of the key the second
abbrev pub HeldTells : {A M : Type 0}
    → (fixed : Layout → (before : M) → Caller → Result A Refusal × Option ℕ → (after : M) → Caller → Type 0)
    → (grows : (ended : Option ℕ) → (before : M) → Caller → Result A Refusal → (after : M) → Caller → Type 0)
    → (key : ℕ) → (before : M) → HeldPass → Result A Refusal × Option ℕ → (after : M) → HeldPass → Type 0
HeldTells fixed grows key before m answer after n = EitherDoes
    (AnyDoes (λ l. SideDoes l (λ v a w. fixed l before v (a, answer.1) after w)))
    (λ c a d. GrownTells grows c.growing c.number (chunk_of key) c.met.items before (a, answer.1) after d.met.items
    × Stays c d) m answer.0 n

abbrev pub HeldGetTells : {M : Type 0} → Bool → (takes : M → List ℕ → M → Type 0) → (key : ℕ) → (before : M) → HeldPass
    → Result Hold Refusal × Option ℕ → (after : M) → HeldPass → Type 0
HeldGetTells asks takes key = HeldTells (λ l. GetTells asks takes l key) (GetTellsIn asks takes key) key

abbrev pub HeldRemoveTells : {M : Type 0} → Bool → (takes : M → List ℕ → M → Type 0) → (key : ℕ) → (before : M)
    → HeldPass → Result (Unit {0}) Refusal × Option ℕ → (after : M) → HeldPass → Type 0
HeldRemoveTells asks takes key = HeldTells (λ l. RemoveTells asks takes l key) (RemoveTellsIn asks takes key) key

abbrev pub HeldReleaseTells : {M : Type 0} → Bool → (takes : M → List ℕ → M → Type 0) → (key : ℕ) → (before : M)
    → HeldPass → Result (Unit {0}) Refusal × Option ℕ → (after : M) → HeldPass → Type 0
HeldReleaseTells asks takes key = HeldTells (λ l. ReleaseTells asks takes l key) (ReleaseTellsIn asks takes key) key
