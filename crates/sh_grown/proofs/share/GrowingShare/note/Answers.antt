use Rattle.sh_grown.proofs.share.GrowingShare.note.Goals as goal

pub returns : goal.returns
returns c = rw c.heap.ensures at c.note.ensures
