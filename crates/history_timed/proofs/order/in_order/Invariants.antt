use Rattle.history_timed.proofs.OrderLemmas.{HasPlaced}
use Rattle.history_timed.proofs.order.in_order.Given as goal

abbrev pub invariant-loop-call : goal.invariant-loop-call
invariant-loop-call l = HasPlaced l.calls l.call-index l.all.items
