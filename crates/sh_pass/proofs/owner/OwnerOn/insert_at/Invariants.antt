use Rattle.std.proofs.Common.{◌+◌, []}
use Rattle.sh_slots.specs.declared.hand.Hand.TheVariants.{Filling}
use Rattle.sh_pass.specs.Owners.{OwnerActs, OnPage, SameBells, NonePut, heap_page, heap_slot, seen_page, page_without}
use Rattle.sh_pass.proofs.owner.OwnerOn.insert_at.Given as goal

abbrev pub invariant-loop-i : goal.invariant-loop-i
invariant-loop-i g l =
    OwnerActs (Filling (heap_slot l.fn.self l.fn.name l.slot) l.value l.i) [] (1 + l.i) l.fn.self l.self
    × SameBells g.L.KeyLayout.layout l.fn.self l.self
    × OnPage (heap_page l.fn.self l.fn.name) (page_without (seen_page l.fn.self (heap_page l.fn.self l.fn.name)) l.slot)
    l.fn.self l.self
    × NonePut l.fn.self l.self
