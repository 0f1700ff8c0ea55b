use Rattle.std.proofs.Common.{sym, ap, ◌∙◌}
use Rattle.sh_table.specs.Seats.{Heap}
use Rattle.sh_table.proofs.BundleLaws.{opens_bundle}
use Rattle.sh_table.proofs.table.HeapTable.bundle.Goals as goal

pub split_seat-requires : goal.split_seat-requires
split_seat-requires g c =
    let is = c.self.view_is in
    let h = c.requires.seat in (
      h.table ∙ sym (ap (λ (h : Heap). h.table) is),
      c.self.invariant.2,
      opens_bundle g.L.KeyLayout.layout c.self.inside.table.shared.key c.args.seat.now.id c.args.seat.now.me.0
          (h.shape ∙ (sym (ap (λ (h : Heap). h.shape) is) ∙ sym c.self.invariant.0)),
    )
