use Rattle.std.proofs.Common.{◌≡◌, ◌+◌, ◌∙◌, arith, length, subst, sym}
use Rattle.sh_grown.specs.Leaving.{LeavesIdle}
use Rattle.sh_grown.proofs.Keeping.{keeps_then, stays_then}
use Rattle.sh_grown.proofs.LeftChunks.{LeftSoFar, left_more}
use Rattle.sh_grown.proofs.caller.Caller.leave_idle.Goals as goal

pub leave_in-requires : goal.leave_in-requires
leave_in-requires c =
    let end = c.loop-chunk.invariant.end in
    let count = c.loop-chunk.invariant.count in
    let less = c.loop-chunk-test.true in omega (arith, end, count, less)

pub loop-chunk-preserved : goal.loop-chunk-preserved
loop-chunk-preserved c =
    let i = c.loop-chunk.invariant in
    let k = c.loop-chunk.chunk in
    let old = c.args.self.now.met.items in
    let now = c.loop-chunk.self.met.items in
    let new = c.leave_in.new.self.met.items in
    let did = c.leave_in.ensures in
    record {
      end = i.end;
      count = did.count ∙ i.count;
      stays = stays_then c.args.self.now c.loop-chunk.self c.leave_in.new.self i.stays did.stays;
      keeps = keeps_then old now new i.keeps did.keeps;
      left = subst (λ a. LeftSoFar (k + 1) old a new) (sym c.and-answer.ensures)
          (left_more k old now new did.others c.leave_in.result c.loop-chunk.answer i.left did.left did.err
          did.waits);
    }

pub returns-clause-idle : goal.returns-clause-idle
returns-clause-idle c =
    let i = c.loop-chunk.invariant in
    let end = i.end in
    let past = c.loop-chunk-test.false in
    let old = c.args.self.now.met.items in
    let all : c.loop-chunk.chunk ≡ length old = omega (arith, end, past) in
    subst (λ n. LeavesIdle n old c.loop-chunk.answer c.loop-chunk.self.met.items) all i.left.done
