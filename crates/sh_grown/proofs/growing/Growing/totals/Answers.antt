use Rattle.std.proofs.Common.{length, subst}
use Rattle.std.specs.Prelude.{IfOk}
use Rattle.sh_grown.specs.Sums.{SumsBelow}
use Rattle.sh_grown.proofs.Wholes.{none_told}
use Rattle.sh_grown.proofs.growing.Growing.totals.Goals as goal

pub totals_told-requires : goal.totals_told-requires
totals_told-requires c =
    none_told c.args.self.now c.none-receipt.result.chunks.items c.none-receipt.ensures

pub returns-clause-sums : goal.returns-clause-sums
returns-clause-sums c =
    subst (λ g. IfOk c.totals_told.result (SumsBelow c.args.self.now g (length c.args.self.now.cells.items)))
    c.none-receipt.ensures c.totals_told.ensures.sums
