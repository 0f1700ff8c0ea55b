use Rattle.std.proofs.Common.{sym, ap, ◌∙◌}
use Rattle.sh_table.specs.Seats.{Heap}
use Rattle.sh_table.proofs.BundleLaws.{binds}
use Rattle.sh_table.proofs.table.HeapTable.bind.Goals as goal

pub join_seat-requires : goal.join_seat-requires
join_seat-requires g c =
    let is = c.self.view_is in
    let h = c.requires.bundle in
    let o = c.requires.other in (
      h.table ∙ sym (ap (λ (h : Heap). h.table) is),
      o.table ∙ sym (ap (λ (h : Heap). h.table) is),
      o.slots,
      c.self.invariant.2,
      binds g.L.KeyLayout.layout c.self.inside.table.shared.key c.args.bundle.now.id c.args.other.id
          c.args.bundle.now.me.0 c.args.other.me.0
          (h.shape ∙ (sym (ap (λ (h : Heap). h.shape) is) ∙ sym c.self.invariant.0)) h.role o.role,
    )
