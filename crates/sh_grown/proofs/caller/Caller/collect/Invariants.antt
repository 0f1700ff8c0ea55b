use Rattle.std.proofs.Common.{◌≡◌, length}
use Rattle.sh_grown.specs.Callers.{Stays}
use Rattle.sh_grown.specs.Collecting.{CollectsBelow}
use Rattle.sh_grown.specs.Keeping.{KeepsMembers}
use Rattle.sh_grown.proofs.caller.Caller.collect.Given as goal

abbrev pub invariant-loop-number : goal.invariant-loop-number
invariant-loop-number l = record {
  end : l.number-end ≡ length l.initial.self.growing.cells.items;
  stays : Stays l.initial.self l.self;
  keeps : KeepsMembers l.initial.self.met.items l.self.met.items;
  collects : CollectsBelow l.number l.initial.self.met.items l.self.met.items;
}
