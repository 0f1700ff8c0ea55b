use Rattle.std.proofs.Common.{◌≡◌, Some, None, arith, get_or, subst, sym, ◌∙◌}
use Rattle.sh_grown.specs.Receipts.{HeedsChunk}
use Rattle.sh_grown.proofs.Heeding.{heeds_more}
use Rattle.sh_grown.proofs.Keeping.{stays_then}
use Rattle.sh_grown.proofs.caller.Caller.heed.Goals as goal

pub loop-chunk-preserved : goal.loop-chunk-preserved
loop-chunk-preserved c =
    let i = c.loop-chunk.invariant in
    let k = c.loop-chunk.chunk in
    let all = c.args.receipt.chunks.items in
    let old = c.args.self.now in
    let now = c.loop-chunk.self in
    let new = c.heed_in.new.self in
    let is : get_or all k None ≡ Some c.in-Some.given =
    sym (i.left k (omega arith)) ∙ (sym c.take.ensures.given ∙ c.in-Some.is) in
    record {
      end = i.end;
      stays = stays_then old now new i.stays c.heed_in.ensures.stays;
      left = λ j past. c.take.ensures.rest j (λ e. omega (arith, past, e)) ∙ i.left j (omega (arith, past));
      heeds = heeds_more old.growing old.number k all c.in-Some.given old.met.items now.met.items new.met.items is
          i.heeds
          (subst (λ g. HeedsChunk g old.number k c.in-Some.given now.met.items new.met.items) i.stays.growing
          (subst (λ n. HeedsChunk now.growing n k c.in-Some.given now.met.items new.met.items) i.stays.number
          c.in_ok-heed_in.ensures.heeds));
    }
