use Rattle.std.proofs.Common.{◌≡◌}
use Rattle.example_key_channel.proofs.fetch_all.Given as goal

abbrev pub invariant-loop : goal.invariant-loop
invariant-loop g l = l.pass.heap ≡ l.initial.pass.heap
