use Rattle.sh_quiet.proofs.Exact.{collected_is_empty}
use Rattle.sh_quiet.proofs.laws.collected_is_empty.Goals as goal

pub returns : goal.returns
returns c = collected_is_empty
