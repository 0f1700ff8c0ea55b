use Rattle.std.proofs.Common.{◌≡◌, ◌∙◌, IfSome, slice_get, ap, sym, subst}
use Rattle.once_cell.specs.Once.{cell_name}
use Rattle.sh_grown.specs.OfChunks.{AreOfChunks}
use Rattle.sh_grown.proofs.Meeting.{met_there}
use Rattle.sh_grown.proofs.OfChunks.{meets_of}
use Rattle.sh_grown.proofs.caller.Caller.meet_by.Goals as goal

pub invariant_of-self-2 : goal.invariant_of-self-2
invariant_of-self-2 c =
    let was = c.args.self.now in
    let met = c.in-Some-meet.met in
    let seen = c.in-Some.ensures in
    record {
      of_chunks = subst (λ items. AreOfChunks was.growing items) (sym c.put_met.ensures)
          (meets_of was.growing c.in-Some.share.now was.number was.met.items c.args.chunk met was.of_chunks seen.few
          c.in-Some-meet.ensures.0
          (ap (λ t. t.known) c.in-Some-meet.ensures.1 ∙ seen.value.0)
          (subst (λ n. IfSome (slice_get was.growing.cells.items c.args.chunk) (λ x. n ≡ cell_name x))
          (sym (ap (λ t. t.cell) c.in-Some-meet.ensures.1 ∙ seen.cell)) c.requires)
          seen.shape);
    }

pub returns-clause-there : goal.returns-clause-there
returns-clause-there c =
    met_there c.args.chunk c.in-Some-meet.met c.args.self.now.met.items c.put_met.new.members.items c.put_met.ensures
