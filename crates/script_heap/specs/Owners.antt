-- Who owns what between the lines of a run in one thread, what an adopt and a leave are answered, and that all passes
-- can leave at the end of a run.
use Rattle.std.specs.Prelude.{◌≡◌, ◌≢◌, ◌⊎◌, ℕ, ◌<◌, ◌≤◌, ◌==◌, Bool, true, cond, List, [], ◌∷◌, ◌++◌, Option, Some}
use Rattle.std.specs.Prelude.{None}
use Rattle.std.specs.Prelude.{IsSome, refl}
use Rattle.std.specs.List.{All}
use Rattle.sh_value.specs.declared.refusal.Refusal.TheVariants as refusal
use Rattle.sh_key.specs.Layout.{Layout, IsLayout}
use Rattle.sh_shape.specs.Shape.{Numbers, IsShape, Fits}
use Rattle.sh_step.specs.declared.action.Event.{Event}
use Rattle.sh_step.specs.Plans.{Plan, plan_of}
use Rattle.sh_script.specs.declared.calls.Call.{Call}
use Rattle.sh_script.specs.declared.calls.Call.TheVariants as call
use Rattle.sh_script.specs.declared.calls.CallLine.{CallLine}
use Rattle.script_output.specs.declared.answer.Answer.{Answer}
use Rattle.script_output.specs.declared.answer.Answer.TheVariants as answer
use Rattle.script_calls.specs.Finished.{AllAreStuck}
use Rattle.script_calls.specs.Parts.{RunTerms, PassPart, heap_terms, shard_owned}
use Rattle.script_calls.specs.Runs.{CallsRun, opening_calls}
use Rattle.script_heap.specs.ByLine.{RunsByLine}
use Rattle.script_heap.specs.HeapOutput.{IsHeapOutput}

-- the shard that pass p owns, if it owns one
abbrev pub owned_by : (ℕ → PassPart) → (p : ℕ) → Option ℕ
owned_by parts p = shard_owned (parts p).stands

-- no two of the passes own one shard
abbrev pub OwnApart : (passes : ℕ) → (owned : ℕ → Option ℕ) → Type 0
OwnApart passes owned = (p q k : ℕ) → p < passes → q < passes → owned p ≡ Some k → owned q ≡ Some k → p ≡ q

-- there is such a shard, and no pass owns it
abbrev pub IsFree : Numbers → (owned : ℕ → Option ℕ) → (k : ℕ) → Type 0
IsFree shape owned k = (k < shape.shards) × ((q : ℕ) → q < shape.passes → owned q ≢ Some k)

-- there is such a shard, and another pass owns it
abbrev pub IsOwned : Numbers → (owned : ℕ → Option ℕ) → (p k : ℕ) → Type 0
IsOwned shape owned p k = (k < shape.shards) × ((q : ℕ) × (q < shape.passes) × (q ≢ p) × (owned q ≡ Some k))

-- The answer to an adopt of shard k by pass p, if passes own these shards. It is Taken if the pass owns a shard or
-- another pass owns this one, NoShard if there is no such shard, and ok if it is free. Memory may come in place of ok.
abbrev pub AdoptIsExact : Numbers → (owned : ℕ → Option ℕ) → (p k : ℕ) → Answer → Type 0
AdoptIsExact shape owned p k (answer.Refused refusal.Taken) = IsSome (owned p) ⊎ IsOwned shape owned p k
AdoptIsExact shape owned p k (answer.Refused refusal.NoShard) = (owned p ≡ None) × (shape.shards ≤ k)
AdoptIsExact shape owned p k (answer.Refused refusal.Memory) = (owned p ≡ None) × IsFree shape owned k
AdoptIsExact shape owned p k answer.Done = (owned p ≡ None) × IsFree shape owned k
AdoptIsExact shape owned p k _ = ⊥

-- The answer to a leave of pass p. It is ok if the pass owns a shard, and otherwise NoShard. It is never Waiting.
abbrev pub LeaveIsExact : (owned : ℕ → Option ℕ) → (p : ℕ) → Answer → Type 0
LeaveIsExact owned p (answer.Refused refusal.NoShard) = owned p ≡ None
LeaveIsExact owned p answer.Done = IsSome (owned p)
LeaveIsExact owned p _ = ⊥

-- the same for a call, if it is an adopt or a leave
abbrev pub CallIsExact : Numbers → (owned : ℕ → Option ℕ) → (p : ℕ) → Call → Answer → Type 0
CallIsExact shape owned p (call.Adopt k) a = AdoptIsExact shape owned p k a
CallIsExact shape owned p call.Leave a = LeaveIsExact owned p a
CallIsExact shape owned p _ a = Unit {0}

-- for each of these lines: no two passes own one shard before it, and its answer is exact
abbrev pub OwnersAreExact : (plan : Plan) (early late : List Event) (terms : RunTerms) (tag : Option ℕ)
    (before : CallsRun) (lines : List CallLine) (answers : List Answer) (after : CallsRun)
    → RunsByLine plan early late terms tag before lines answers after → Type 0
OwnersAreExact plan early late terms tag before [] [] after h = OwnApart terms.shape.passes (owned_by before.parts)
OwnersAreExact plan early late terms tag before [] (a ∷ answers) after h = ⊥
OwnersAreExact plan early late terms tag before (l ∷ lines) [] after h = ⊥
OwnersAreExact plan early late terms tag before (l ∷ lines) (a ∷ answers) after h =
    OwnApart terms.shape.passes (owned_by before.parts)
    × CallIsExact terms.shape (owned_by before.parts) l.pass l.call a
    × OwnersAreExact plan (early ++ h.3) h.4 terms tag h.1 lines answers after h.6

-- In a run of mode heap no two passes own one shard between two lines. An adopt is Taken only if the pass owns a shard
-- by the lines before, or another pass owns this one, and ok only if it is free. A leave of a pass that owns a shard is
-- ok. So what owners have is the script's.
abbrev pub LinesKeepOwnersApart : Type 0
LinesKeepOwnersApart = (asked : Bool) (layout : Layout) (shape : Numbers) (tag : Option ℕ) (lines : List CallLine)
    (output : List ℕ) → IsLayout layout → IsShape shape → Fits layout shape
    → All (λ (l : CallLine). l.pass < shape.passes) lines
    → (h : IsHeapOutput true layout shape tag lines asked output)
    → OwnersAreExact (plan_of layout shape) [] h.events (heap_terms layout shape) tag (opening_calls (Some h.heap))
    lines h.told.replies.answers h.told.replies.after (h.by_line refl)

-- ---- by the answers alone

-- the shard that a pass owns after a call with this answer
abbrev pub owned_then : (before : Option ℕ) → Call → Answer → Option ℕ
owned_then before (call.Adopt k) answer.Done = Some k
owned_then before call.Leave answer.Done = None
owned_then before _ a = before

-- which shard each pass owns after this line
abbrev pub owned_after : (owned : ℕ → Option ℕ) → CallLine → Answer → ℕ → Option ℕ
owned_after owned l a p = cond (p == l.pass) (owned_then (owned l.pass) l.call a) (owned p)

-- no pass owns a shard
abbrev pub nobody_owns : ℕ → Option ℕ
nobody_owns p = None

-- these lines have exact answers, one after the other, if passes own these shards before
abbrev pub AnswersAreExact : Numbers → (owned : ℕ → Option ℕ) → List CallLine → List Answer → Type 0
AnswersAreExact shape owned [] [] = Unit {0}
AnswersAreExact shape owned [] (a ∷ answers) = ⊥
AnswersAreExact shape owned (l ∷ lines) [] = ⊥
AnswersAreExact shape owned (l ∷ lines) (a ∷ answers) = CallIsExact shape owned l.pass l.call a
    × AnswersAreExact shape (owned_after owned l a) lines answers

-- in a run of mode heap the answers to the lines before say which shard each pass owns
abbrev pub LinesTellOwners : Type 0
LinesTellOwners = (asked : Bool) (layout : Layout) (shape : Numbers) (tag : Option ℕ) (lines : List CallLine)
    (output : List ℕ) → IsLayout layout → IsShape shape → Fits layout shape
    → All (λ (l : CallLine). l.pass < shape.passes) lines
    → (h : IsHeapOutput true layout shape tag lines asked output)
    → AnswersAreExact shape nobody_owns lines h.told.replies.answers

-- at the end of a run no pass is refused when it leaves its shard, in one thread or in many
abbrev pub NoPassIsStuck : Type 0
NoPassIsStuck = (terms : RunTerms) → ¬ AllAreStuck terms
