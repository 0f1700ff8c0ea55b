use Rattle.std.proofs.Common.{false}
use Rattle.sh_replay.proofs.threads_output.lines_on.Given as goal

abbrev pub ghost-gathered : goal.ghost-gathered
ghost-gathered g a = (g.at.0, g.at.1, g.at.2, false)
