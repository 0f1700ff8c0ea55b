use Rattle.sh_laws.proofs.StrongOrders.{strongly_linearizable}
use Rattle.sh_laws.proofs.laws.core_is_strongly_linearizable.Goals as goal

pub returns : goal.returns
returns c = strongly_linearizable
