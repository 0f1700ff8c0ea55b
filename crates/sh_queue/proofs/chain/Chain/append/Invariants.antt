use Rattle.sh_queue.proofs.Appending.{Appending}
use Rattle.sh_queue.proofs.chain.Chain.append.Given as goal

abbrev pub invariant-loop-x : goal.invariant-loop-x
invariant-loop-x l = Appending l.first l.count l.x l.fn.self l.self
