use Rattle.script_calls.proofs.MemberLaws.{gives_its_pass, keeps_no_pass}
use Rattle.script_calls.proofs.running.pass_of.Goals as goal

pub unreachable-requires : goal.unreachable-requires
unreachable-requires g c =
    keeps_no_pass g.L.KeyLayout.layout c.args.member c.in-Err.field-0 c.requires c.in-Err.ensures

pub returns : goal.returns
returns g c = gives_its_pass g.L.KeyLayout.layout c.args.member c.in-Ok.pass c.in-Ok.ensures
