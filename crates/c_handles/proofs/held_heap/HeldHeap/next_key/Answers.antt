use Rattle.c_handles.proofs.held_heap.HeldHeap.next_key.Goals as goal

pub returns-in-Fixed : goal.returns-in-Fixed
returns-in-Fixed c = rw c.in-Fixed.is c.next_key.ensures
