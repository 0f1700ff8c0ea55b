use Rattle.sh_table.proofs.Filling.{publishes_filled}
use Rattle.sh_table.proofs.table.HeapTable.publish.Goals as goal

pub set_present-requires-clause-fills : goal.set_present-requires-clause-fills
set_present-requires-clause-fills g c =
    publishes_filled _ c.args.seat.now.me.0.own.body c.args.slot_ref c.args.value.now
    c.requires.may
