use Rattle.c_handles.proofs.held_heap.HeldHeap.capacity.Goals as goal

pub returns : goal.returns
returns c = (c.size-size.result, c.size-size.ensures, c.capacity.ensures)
