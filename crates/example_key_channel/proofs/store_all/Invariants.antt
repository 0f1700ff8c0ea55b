use Rattle.std.proofs.Common.{◌≡◌}
use Rattle.example_key_channel.proofs.store_all.Given as goal

abbrev pub invariant-loop-number : goal.invariant-loop-number
invariant-loop-number g l = l.owner.pages.owner.heap ≡ l.initial.owner.pages.owner.heap
