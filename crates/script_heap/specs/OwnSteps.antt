-- What the steps of a run of a script say of its answers.
use Rattle.std.specs.Prelude.{◌≡◌, ◌≢◌, ℕ, ◌<◌, Bool, true, List, [], ◌∷◌, Option}
use Rattle.sh_key.specs.Layout.{Layout, IsLayout}
use Rattle.sh_shape.specs.Shape.{Numbers, IsShape, Fits}
use Rattle.sh_value.specs.declared.refusal.Refusal.TheVariants as refusal
use Rattle.sh_script.specs.declared.calls.Call.TheVariants as call
use Rattle.sh_script.specs.declared.calls.CallLine.{CallLine}
use Rattle.script_output.specs.declared.answer.Answer.TheVariants as answer
use Rattle.script_heap.specs.HeapOutput.{IsHeapOutput}

-- the line of this pass that adopts this shard
abbrev pub adopt_line : (pass shard : ℕ) → CallLine
adopt_line pass shard = record { pass = pass; call = call.Adopt shard }

-- the line of this pass that inserts these words
abbrev pub insert_line : (pass : ℕ) → (words : List ℕ) → CallLine
insert_line pass words = record { pass = pass; call = call.Insert words }

-- the line of this pass that leaves its shard
abbrev pub leave_line : (pass : ℕ) → CallLine
leave_line pass = record { pass = pass; call = call.Leave }

-- the answer to a script that consists of one adopt is not Taken, in a heap with any number of passes
abbrev pub LoneAdoptIsNotTaken : Type 0
LoneAdoptIsNotTaken = (alone asked : Bool) (layout : Layout) (shape : Numbers) (tag : Option ℕ) (pass shard : ℕ)
    (output : List ℕ) → pass < shape.passes
    → (h : IsHeapOutput alone layout shape tag (adopt_line pass shard ∷ []) asked output)
    → h.told.replies.answers ≢ answer.Refused refusal.Taken ∷ []

-- the first insert into a fresh heap, by a pass that adopted a shard, is not Full
abbrev pub FirstInsertIsNotFull : Type 0
FirstInsertIsNotFull = (asked : Bool) (layout : Layout) (shape : Numbers) (tag : Option ℕ) (pass shard : ℕ)
    (words output : List ℕ) → IsLayout layout → IsShape shape → Fits layout shape → pass < shape.passes
    → (h : IsHeapOutput true layout shape tag (adopt_line pass shard ∷ insert_line pass words ∷ []) asked output)
    → h.told.replies.answers ≢ answer.Done ∷ answer.Refused refusal.Full ∷ []

-- if two passes adopt one shard, not both adopts are ok
abbrev pub TwoAdoptsAreNotDone : Type 0
TwoAdoptsAreNotDone = (asked : Bool) (layout : Layout) (shape : Numbers) (tag : Option ℕ) (p q shard : ℕ)
    (output : List ℕ) → IsLayout layout → IsShape shape → Fits layout shape → p < shape.passes → q < shape.passes
    → (h : IsHeapOutput true layout shape tag (adopt_line p shard ∷ adopt_line q shard ∷ []) asked output)
    → h.told.replies.answers ≢ answer.Done ∷ answer.Done ∷ []

-- a leave of the shard that a pass adopted is not Waiting
abbrev pub LeaveIsNotWaiting : Type 0
LeaveIsNotWaiting = (asked : Bool) (layout : Layout) (shape : Numbers) (tag : Option ℕ) (pass shard : ℕ)
    (output : List ℕ) → IsLayout layout → IsShape shape → Fits layout shape → pass < shape.passes
    → (h : IsHeapOutput true layout shape tag (adopt_line pass shard ∷ leave_line pass ∷ []) asked output)
    → h.told.replies.answers ≢ answer.Done ∷ answer.Refused refusal.Waiting ∷ []

-- a script without lines writes nothing, also if account lines are asked for: no page got a class
abbrev pub NoLinesWriteNothing : Type 0
NoLinesWriteNothing = (alone asked : Bool) (layout : Layout) (shape : Numbers) (tag : Option ℕ) (output : List ℕ)
    → IsLayout layout → IsShape shape → Fits layout shape → IsHeapOutput alone layout shape tag [] asked output
    → output ≡ []
