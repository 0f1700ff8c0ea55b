use Rattle.std.proofs.Common.{arith}
use Rattle.sh_grown.proofs.Heeding.{covers_in}
use Rattle.sh_grown.proofs.OneMap.{one_map_of}
use Rattle.sh_grown.proofs.caller.Caller.receipt.Goals as goal

pub returns-clause-of : goal.returns-clause-of
returns-clause-of c =
    let i = c.loop-chunk.invariant in
    let caller = c.args.self.now in
    covers_in caller.growing c.loop-chunk.chunk caller.met.items c.loop-chunk.chunks.items i.count
    (omega (arith, i.end)) caller.of_chunks i.covers

pub returns-clause-one_map : goal.returns-clause-one_map
returns-clause-one_map c =
    let i = c.loop-chunk.invariant in
    let end = i.end in
    let past = c.loop-chunk-test.false in
    let caller = c.args.self.now in
    one_map_of caller.growing caller.met.items caller.of_chunks
    (λ chunk few. i.rest chunk (omega (arith, end, past, few)))
