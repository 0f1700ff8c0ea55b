use Rattle.std.proofs.Common.{subst, sym}
use Rattle.sh_grown.specs.Receipts.{IsReceiptAt, IsReceiptIn}
use Rattle.sh_grown.proofs.Heeding.{receipt_at_place}
use Rattle.sh_grown.proofs.OfChunks.{heeds_of}
use Rattle.sh_grown.proofs.caller.Caller.heed_in.Goals as goal

pub heed_at-requires : goal.heed_at-requires
heed_at-requires c =
    let met = c.meet_by.new.self in
    let found = c.index_mut.result.now in
    subst (λ n. IsReceiptAt (record { receipt = c.args.given.receipt; note = n }) found)
    (sym c.again-note.ensures.0)
    (receipt_at_place met.growing c.args.chunk c.args.given met.met.items found
    (subst (λ g. IsReceiptIn g c.args.chunk c.args.given) (sym c.meet_by.ensures.stays.growing) c.requires)
    met.of_chunks c.in-Ok.ensures.there.1 c.index_mut.ensures.value)

pub invariant_of-self : goal.invariant_of-self
invariant_of-self c =
    let met = c.meet_by.new.self in
    record {
      of_chunks = heeds_of c.args.given met.growing met.met.items c.args.chunk c.index_mut.result.now
          c.heed_at.new.place met.of_chunks c.index_mut.ensures.value c.heed_at.ensures;
    }
