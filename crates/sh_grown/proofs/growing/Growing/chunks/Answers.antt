use Rattle.std.proofs.Common.{length, subst}
use Rattle.sh_grown.specs.Wholes.{CountsBelow, IsAny}
use Rattle.sh_grown.proofs.Wholes.{none_told}
use Rattle.sh_grown.proofs.growing.Growing.chunks.Goals as goal

pub chunks_told-requires : goal.chunks_told-requires
chunks_told-requires c =
    none_told c.args.self.now c.none-receipt.result.chunks.items c.none-receipt.ensures

pub returns-clause-counts : goal.returns-clause-counts
returns-clause-counts c =
    subst (λ g. CountsBelow c.args.self.now g IsAny (length c.args.self.now.cells.items) c.chunks_told.result)
    c.none-receipt.ensures c.chunks_told.ensures.counts
