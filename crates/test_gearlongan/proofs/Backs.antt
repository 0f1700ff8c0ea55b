-- If each task has a pass or a shard of a heap, each output that is not refused gives back one of that heap.
use Rattle.std.proofs.Common.{◌≡◌, ◌∙◌, List, [], ◌∷◌, Result, Ok, Err, IfOk}
use Rattle.gearlongan.specs.Passes.{Heap}
use Rattle.gearlongan.specs.Tasks.{AllGive}
use Rattle.sh_value.specs.declared.refusal.Refusal.{Refusal}
use Rattle.test_gearlongan.specs.Works.{AllAt, AllBackAt, heap_back, heap_of}
use Rattle.test_gearlongan.specs.declared.work.Done.{Done}
use Rattle.test_gearlongan.specs.declared.work.Work.{Work}

if_ok_at : (heap : Heap) (task : Work) (output : Result Done Refusal) → heap_of task ≡ heap
    → IfOk output (λ done. heap_back done ≡ heap_of task) → IfOk output (λ done. heap_back done ≡ heap)
if_ok_at heap task (Ok done) at back = back ∙ at
if_ok_at heap task (Err why) at back = tt

pub all_back : (heap : Heap) (tasks : List Work) (outputs : List (Result Done Refusal)) → AllAt heap tasks
    → AllGive (λ task output. IfOk output (λ done. heap_back done ≡ heap_of task)) tasks outputs
    → AllBackAt heap outputs
all_back heap [] [] at give = tt
all_back heap (task ∷ tasks) (output ∷ outputs) at give =
    (if_ok_at heap task output at.0 give.0, all_back heap tasks outputs at.1 give.1)
all_back heap [] (output ∷ outputs) at give = absurd give
all_back heap (task ∷ tasks) [] at give = absurd give
