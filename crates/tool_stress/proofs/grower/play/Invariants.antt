use Rattle.std.proofs.Common.{None, Some}
use Rattle.tool_stress.proofs.grower.play.Given as goal

abbrev pub ghosts-worked : goal.ghosts-worked
ghosts-worked g a = record { heap = None; growing = Some a.growing.now }
