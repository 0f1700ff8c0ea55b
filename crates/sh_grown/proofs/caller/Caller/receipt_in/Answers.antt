use Rattle.std.proofs.Common.{◌≡◌, get_or, subst, sym}
use Rattle.sh_grown.proofs.OfChunks.{stays_of}
use Rattle.sh_grown.proofs.caller.Caller.receipt_in.Goals as goal

pub invariant_of-self : goal.invariant_of-self
invariant_of-self c =
    let caller = c.args.self.now in
    record {
      of_chunks = stays_of caller.growing caller.met.items c.args.chunk c.receipt_at.new.place caller.of_chunks
          (subst (λ o. o ≡ get_or caller.met.items c.args.chunk o) (sym c.receipt_at.ensures.same)
          c.in-Some.ensures.value);
    }
