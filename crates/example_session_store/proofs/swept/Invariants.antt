use Rattle.std.proofs.Common.{◌≡◌}
use Rattle.example_session_store.proofs.swept.Given as goal

abbrev pub invariant-loop-key : goal.invariant-loop-key
invariant-loop-key l = l.reader.heap ≡ l.initial.reader.heap
