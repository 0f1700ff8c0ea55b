use Rattle.sh_quiet.proofs.Fulls.{full_is_exact}
use Rattle.sh_quiet.proofs.laws.full_is_exact.Goals as goal

pub returns : goal.returns
returns c = full_is_exact
