use Rattle.std.proofs.Common.{◌≡◌}
use Rattle.test_values.proofs.plain.a_hold_refused_for_memory_is_not_taken.Given as goal

abbrev pub invariant-loop : goal.invariant-loop
invariant-loop g l = l.store.passes ≡ 2

abbrev pub invariant-loop-key : goal.invariant-loop-key
invariant-loop-key g l = l.store.passes ≡ 2

abbrev pub invariant-loop-key-2 : goal.invariant-loop-key-2
invariant-loop-key-2 g l = l.store.passes ≡ 2

abbrev pub invariant-loop-pass : goal.invariant-loop-pass
invariant-loop-pass g l = l.store.passes ≡ 2
