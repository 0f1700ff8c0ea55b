use Rattle.std.proofs.Common.{Result, Ok, Err}
use Rattle.std.specs.Prelude.{IfOk}
use Rattle.sh_replay.proofs.HeapLemmas.{output_of_heap}
use Rattle.sh_replay.proofs.replaying.output.Goals as goal

ok_more : {T E : Type 0} (r : Result T E) (P Q : T → Type 0) → ((x : T) → P x → Q x) → IfOk r P → IfOk r Q
ok_more (Ok x) P Q f h = f x h
ok_more (Err e) P Q f h = tt

pub returns-in-Heap-clause-output : goal.returns-in-Heap-clause-output
returns-in-Heap-clause-output c = rw c.in-Heap.is
    (ok_more c.heap_output.result _ _
    (λ output. output_of_heap c.args.accounts c.args.text.now output.items)
    c.heap_output.ensures.output)
