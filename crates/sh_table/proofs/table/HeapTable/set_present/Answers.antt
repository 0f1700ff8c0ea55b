use Rattle.sh_table.proofs.Allowing.{allowed_present}
use Rattle.sh_table.proofs.table.HeapTable.set_present.Goals as goal

pub fetch_add-requires : goal.fetch_add-requires
fetch_add-requires g c = allowed_present _ _ _ _ _ _ _ _ c.args.seat.now c.args.place _ c.self.view_is c.self.invariant
    c.requires.ready c.requires.place c.requires.operation c.table_number.ensures.is c.table_number.ensures.below
    c.requires.fills
