use Rattle.std.proofs.Common.{arith}
use Rattle.sh_lists.proofs.Walks.{fills}
use Rattle.sh_lists.proofs.lists.PageLists.full.Goals as goal

pub invariant_of-result : goal.invariant_of-result
invariant_of-result c = (
  (fills c.loop-slot.next c.args.slots c.saturating_sub.result c.requires (omega arith)
      (λ k below. c.loop-slot.invariant.links k (omega arith))).threaded,
  tt,
)

pub returns : goal.returns
returns c =
    (fills c.loop-slot.next c.args.slots c.saturating_sub.result c.requires (omega arith)
    (λ k below. c.loop-slot.invariant.links k (omega arith))).shows
