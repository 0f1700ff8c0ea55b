use Rattle.std.proofs.Common.{take}
use Rattle.sh_member.specs.Batches.{GetsEach, RemainsAfter}
use Rattle.sh_member.proofs.batches.get_each.Given as goal

abbrev pub invariant-loop-at : goal.invariant-loop-at
invariant-loop-at g l =
    let caller = g.R.Reader.caller in
    record {
      does : GetsEach g.R.Reader.layout (take l.at l.keys) (caller l.fn.reader) (take l.at l.results) (caller l.reader);
      remains : RemainsAfter g.R.Reader.layout (take l.at l.keys) (caller l.fn.reader) (caller l.reader);
    }
