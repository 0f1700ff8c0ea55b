use Rattle.std.proofs.Common.{◌≡◌, ◌∙◌, IfSome, slice_get, ap, sym, subst}
use Rattle.once_cell.specs.Once.{cell_name}
use Rattle.sh_grown.specs.OfChunks.{AreOfChunks}
use Rattle.sh_grown.proofs.OfChunks.{meets_of}
use Rattle.sh_grown.proofs.caller.Caller.meet_opened.Goals as goal

pub invariant_of-self : goal.invariant_of-self
invariant_of-self c =
    let was = c.args.self.now in
    let met = c.in-Some-meet.met in
    let opened = c.in-Ok.ensures in
    record {
      of_chunks = subst (λ items. AreOfChunks was.growing items) (sym c.put_met.ensures)
          (meets_of was.growing c.in-Ok.share.now was.number was.met.items c.args.chunk met was.of_chunks opened.few
          c.in-Some-meet.ensures.0
          (ap (λ t. t.known) c.in-Some-meet.ensures.1 ∙ opened.value.0)
          (subst (λ n. IfSome (slice_get was.growing.cells.items c.args.chunk) (λ x. n ≡ cell_name x))
          (sym (ap (λ t. t.cell) c.in-Some-meet.ensures.1 ∙ opened.cell)) c.in-Some.ensures.1)
          opened.shape);
    }
