use Rattle.std.proofs.Common.{◌≡◌, length}
use Rattle.sh_grown.specs.Callers.{Stays}
use Rattle.sh_grown.specs.Keeping.{KeepsMembers}
use Rattle.sh_grown.proofs.LeftChunks.{LeftSoFar}
use Rattle.sh_grown.proofs.caller.Caller.leave_idle.Given as goal

abbrev pub invariant-loop-chunk : goal.invariant-loop-chunk
invariant-loop-chunk l = record {
  end : l.chunk-end ≡ length l.initial.self.met.items;
  count : length l.self.met.items ≡ length l.initial.self.met.items;
  stays : Stays l.initial.self l.self;
  keeps : KeepsMembers l.initial.self.met.items l.self.met.items;
  left : LeftSoFar l.chunk l.initial.self.met.items l.answer l.self.met.items;
}
