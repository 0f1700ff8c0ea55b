use Rattle.sh_grown.proofs.share.GrowingShare.opened.Goals as goal

pub opened-requires : goal.opened-requires
opened-requires c = rw c.heap.ensures c.requires

pub returns-clause-shape : goal.returns-clause-shape
returns-clause-shape c = rw c.heap.ensures at c.opened.ensures.shape
