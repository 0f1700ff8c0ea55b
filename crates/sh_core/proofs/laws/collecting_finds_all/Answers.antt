use Rattle.sh_core.proofs.Collects.{collecting_finds_all}
use Rattle.sh_core.proofs.laws.collecting_finds_all.Goals as goal

pub returns : goal.returns
returns c = collecting_finds_all
