use Rattle.script_heap.proofs.WholeLemmas.{members_are}
use Rattle.script_heap.proofs.heap_lines.members.Goals as goal

pub returns-in-Ok-as_members-clause-all : goal.returns-in-Ok-as_members-clause-all
returns-in-Ok-as_members-clause-all g c =
    members_are g.L.KeyLayout.layout c.args.heap.now c.args.heap.now.shape.passes c.in-Ok.passes.items
    c.in-Ok-as_members.members.items c.in-Ok-as_members.ensures c.in-Ok.ensures.all
