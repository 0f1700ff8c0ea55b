use Rattle.std.proofs.Common.{subst}
use Rattle.sh_pass.specs.Passes.{Caller, IsTally}
use Rattle.sh_pass.proofs.Together.{named_more}
use Rattle.sh_pass.proofs.gathering.named_together.Goals as goal

pub loop-pass-preserved : goal.loop-pass-preserved
loop-pass-preserved g c a =
    let inside = c.pass.inside in
    let tally : IsTally inside.seated.named c.pass-item.result.view =
    subst (λ (p : Caller). IsTally inside.seated.named p.view) c.pass.view_is c.pass.invariant.tally in
    named_more c.args.passes.now c.loop-pass.pass-index c.loop-pass.named inside.seated.named a c.pass-item.result
    c.loop-pass-test.true c.pass-item.is tally (c.loop-pass.invariant a)
