use Rattle.std.proofs.Common.{sym, ap, ◌∙◌}
use Rattle.sh_table.specs.Seats.{Heap}
use Rattle.sh_table.proofs.SeatLaws.{copies}
use Rattle.sh_table.proofs.table.HeapTable.copy_receipt.Goals as goal

pub split_seat-requires : goal.split_seat-requires
split_seat-requires g c =
    let is = c.self.view_is in
    let h = c.requires.receipt in (
      h.table ∙ sym (ap (λ (h : Heap). h.table) is),
      c.self.invariant.2,
      copies g.L.KeyLayout.layout c.self.inside.table.shared.key c.args.receipt.now.id c.args.receipt.now.me.0 h.role,
    )
