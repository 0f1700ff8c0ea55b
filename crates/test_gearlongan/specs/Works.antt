-- Work of several kinds: the heaps of the passes and shards that tasks have, and that their outputs give back.
use Rattle.std.specs.Prelude.{◌≡◌, List, [], ◌∷◌, Result, IfOk}
use Rattle.gearlongan.specs.Passes.{Heap}
use Rattle.sh_value.specs.declared.refusal.Refusal.{Refusal}
use Rattle.test_gearlongan.specs.declared.work.Done.{Done}
use Rattle.test_gearlongan.specs.declared.work.Done.TheVariants.{Stored, Fetched}
use Rattle.test_gearlongan.specs.declared.work.Work.{Work}
use Rattle.test_gearlongan.specs.declared.work.Work.TheVariants.{Store, Fetch}

-- the heap of the shard or the pass that a task has
abbrev pub heap_of : Work → Heap
heap_of (Store owner value) = owner.pages.owner.heap
heap_of (Fetch pass key) = pass.heap

-- the heap of the shard or the pass that an output gives back
abbrev pub heap_back : Done → Heap
heap_back (Stored owner key) = owner.pages.owner.heap
heap_back (Fetched pass value) = pass.heap

-- each task has a pass or a shard of this heap
abbrev pub AllAt : Heap → List Work → Type 0
AllAt heap [] = Unit {0}
AllAt heap (task ∷ tasks) = (heap_of task ≡ heap) × AllAt heap tasks

-- each output that is not refused gives back a pass or a shard of this heap
abbrev pub AllBackAt : Heap → List (Result Done Refusal) → Type 0
AllBackAt heap [] = Unit {0}
AllBackAt heap (output ∷ outputs) = IfOk output (λ done. heap_back done ≡ heap) × AllBackAt heap outputs
