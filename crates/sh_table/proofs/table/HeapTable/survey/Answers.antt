use Rattle.std.proofs.Common.{sym, ap, ◌∙◌}
use Rattle.sh_table.specs.Seats.{Heap}
use Rattle.sh_table.proofs.BundleLaws.{surveys}
use Rattle.sh_table.proofs.table.HeapTable.survey.Goals as goal

pub load-requires : goal.load-requires
load-requires g c =
    let is = c.self.view_is in
    let h = c.requires.bundle in (
      h.table ∙ sym (ap (λ (h : Heap). h.table) is),
      c.self.invariant.2,
      surveys g.L.KeyLayout.layout c.self.inside.table.shared.key _ _ 0 c.args.bundle.now.me
          (sym (h.shape ∙ (sym (ap (λ (h : Heap). h.shape) is) ∙ sym c.self.invariant.0))) h.role,
    )
