use Rattle.std.proofs.Common.{rules, refl}
use Rattle.test_values.proofs.Lending.{gives_lent}
use Rattle.test_values.proofs.typed.lender.LenderLookup.get.Goals as goal

pub returns-in-Idle-clause-leaves : goal.returns-in-Idle-clause-leaves
returns-in-Idle-clause-leaves c = gives_lent c.args.key _ (search rules) (rw c.in-Idle.is refl)
