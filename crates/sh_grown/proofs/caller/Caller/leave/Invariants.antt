use Rattle.std.proofs.Common.{◌≡◌, ℕ, ◌<◌, ◌≤◌, None, get_or, length}
use Rattle.sh_grown.specs.Callers.{Stays}
use Rattle.sh_grown.specs.Inserts.{OwnsNone}
use Rattle.sh_grown.specs.Keeping.{KeepsMembers}
use Rattle.sh_grown.proofs.caller.Caller.leave.Given as goal

abbrev pub invariant-loop-chunk : goal.invariant-loop-chunk
invariant-loop-chunk l = record {
  end : l.chunk-end ≡ length l.initial.self.met.items;
  count : length l.self.met.items ≡ length l.initial.self.met.items;
  stays : Stays l.initial.self l.self;
  keeps : KeepsMembers l.initial.self.met.items l.self.met.items;
  left : (chunk : ℕ) → chunk < l.chunk → OwnsNone (get_or l.self.met.items chunk None);
  rest : (chunk : ℕ) → l.chunk ≤ chunk
      → get_or l.self.met.items chunk None ≡ get_or l.initial.self.met.items chunk None;
}
