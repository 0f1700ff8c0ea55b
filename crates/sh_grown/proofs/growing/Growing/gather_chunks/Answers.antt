use Rattle.std.proofs.Common.{length, subst}
use Rattle.std.specs.Prelude.{IfOk}
use Rattle.sh_grown.specs.Wholes.{CountsBelow, IsGathered}
use Rattle.sh_grown.proofs.Wholes.{none_told}
use Rattle.sh_grown.proofs.growing.Growing.gather_chunks.Goals as goal

pub gather_told-requires : goal.gather_told-requires
gather_told-requires c =
    none_told c.args.self.now c.none-receipt.result.chunks.items c.none-receipt.ensures

pub returns-clause-gathers : goal.returns-clause-gathers
returns-clause-gathers c =
    subst (λ g. IfOk c.gather_told.result
    (CountsBelow c.args.self.now g IsGathered (length c.args.self.now.cells.items)))
    c.none-receipt.ensures c.gather_told.ensures.gathers
