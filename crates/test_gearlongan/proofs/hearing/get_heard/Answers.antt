use Rattle.std.proofs.Common.{subst}
use Rattle.sh_pass.specs.Passes.{Caller, GetDoes}
use Rattle.test_gearlongan.proofs.Heard.{gone_if_heard}
use Rattle.test_gearlongan.proofs.hearing.get_heard.Goals as goal

pub returns-clause-gone : goal.returns-clause-gone
returns-clause-gone g c =
    let layout = g.L.KeyLayout.layout in
    let key = c.args.key in
    let after : Caller = c.get.new.self in
    let does = subst (λ (v : Caller). GetDoes layout key v c.get.result after) c.heed.ensures.heeds
    c.get.ensures.does in
    gone_if_heard c.heard_comes_first.ensures.gone layout key c.args.receipt c.args.pass.now after c.get.result does
