use Rattle.sh_core.proofs.Clauses.LayoutLaws.{plan_lawful}
use Rattle.sh_table.proofs.laws.plans_are_lawful.Goals as goal

pub returns : goal.returns
returns c = plan_lawful
