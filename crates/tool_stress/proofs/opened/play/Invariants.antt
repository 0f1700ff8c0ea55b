use Rattle.std.proofs.Common.{None, Some}
use Rattle.tool_stress.proofs.opened.play.Given as goal

abbrev pub ghosts-worked : goal.ghosts-worked
ghosts-worked g a = record { heap = Some a.heap.now; growing = None }
