use Rattle.sh_grown.proofs.share.GrowingShare.seen.Goals as goal

pub seen-requires : goal.seen-requires
seen-requires c = rw c.heap.ensures c.requires

pub returns-clause-shape : goal.returns-clause-shape
returns-clause-shape c = rw c.heap.ensures at c.seen.ensures.shape
