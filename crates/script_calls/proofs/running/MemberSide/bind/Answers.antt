use Rattle.script_calls.proofs.MemberLaws.{member_binds, member_leads, receipt_is_of}
use Rattle.script_calls.proofs.running.MemberSide.bind.Goals as goal

pub bind-requires : goal.bind-requires
bind-requires g c = receipt_is_of g.L.KeyLayout.layout c.args.self c.args.bundle.now c.requires

pub returns : goal.returns
returns g c =
    let layout = g.L.KeyLayout.layout in
    let call = c.bind in
    record {
      binds = member_binds layout c.args.self c.args.bundle.now call.new.bundle call.ensures.binds;
      leads = member_leads layout c.args.self c.args.bundle.now call.new.bundle call.ensures.binds call.ensures.leads;
    }
