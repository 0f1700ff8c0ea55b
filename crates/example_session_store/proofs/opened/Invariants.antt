use Rattle.std.proofs.Common.{◌≡◌}
use Rattle.example_session_store.proofs.opened.Given as goal

abbrev pub invariant-loop-user : goal.invariant-loop-user
invariant-loop-user l = l.owner.pages.owner.heap ≡ l.initial.owner.pages.owner.heap
