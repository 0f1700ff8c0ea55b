-- The heaps of the workers in the threads.
use Rattle.std.specs.Prelude.{◌≡◌}
use Rattle.gearlongan.specs.Passes.{Heap}
use Rattle.tool_large.specs.declared.crew.Four.{Four}
use Rattle.tool_large.specs.declared.worker.Worker.{Worker}
use Rattle.tool_large.specs.declared.worker.Worker.TheVariants.{Roaming, Settled}

-- the heap of a worker's pass
abbrev pub heap_of : {L : Type 0} → Worker L → Heap
heap_of (Roaming pass) = pass.heap
heap_of (Settled owner) = owner.pages.owner.heap

-- the worker of each thread has the same heap as before
abbrev pub StayAt : {L : Type 0} → Four (Worker L) → Four (Worker L) → Type 0
StayAt o n = (heap_of n.one ≡ heap_of o.one) × (heap_of n.two ≡ heap_of o.two) × (heap_of n.three ≡ heap_of o.three)
    × (heap_of n.four ≡ heap_of o.four)
