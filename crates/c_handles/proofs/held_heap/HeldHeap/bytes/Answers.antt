use Rattle.c_handles.proofs.held_heap.HeldHeap.bytes.Goals as goal

pub returns : goal.returns
returns c = (c.size-size.result, c.size-size.ensures, c.bytes.ensures)
