use Rattle.sh_quiet.proofs.Exact.{joins_are_heard}
use Rattle.sh_quiet.proofs.laws.joins_are_heard.Goals as goal

pub returns : goal.returns
returns c = joins_are_heard
