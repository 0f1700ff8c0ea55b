use Rattle.std.proofs.Common.{◌≡◌, ◌<◌, length, arith, subst}
use Rattle.sh_member.proofs.BatchSteps.{done_more}
use Rattle.c_exports.specs.Batches.{LoadsOne}
use Rattle.c_exports.proofs.BatchCodes.{first_of_rest, rest_behind}
use Rattle.c_exports.proofs.batches.load_all.Goals as goal

pub loop-at-preserved : goal.loop-at-preserved
loop-at-preserved c =
    let loads = c.args.loads.now in
    let i = c.loop-at.at in
    let here : i < length loads = c.loop-at-test.true in
    let same : length c.loop-at.loads ≡ length loads = c.loop-at.auto.loads in
    record {
      does =
          done_more LoadsOne loads c.loop-at.loads i _ c.load_one.new.load c.args.member.now c.loop-at.member
          c.load_one.new.member here (omega arith) c.loop-at.invariant.does
          (subst (λ old. LoadsOne old c.loop-at.member c.load_one.new.load c.load_one.new.member)
          (first_of_rest c.loop-at.loads loads i _ c.loop-at.invariant.rest) c.load_one.ensures);
      rest = rest_behind c.loop-at.loads loads i c.load_one.new.load c.loop-at.invariant.rest;
    }
