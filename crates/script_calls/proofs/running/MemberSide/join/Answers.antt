use Rattle.script_calls.proofs.MemberLaws.{members_may_join, members_join}
use Rattle.script_calls.proofs.running.MemberSide.join.Goals as goal

pub join-requires : goal.join-requires
join-requires g c =
    members_may_join g.L.KeyLayout.layout c.args.self c.args.other c.requires.none c.requires.heap

pub returns : goal.returns
returns g c =
    let j = members_join g.L.KeyLayout.layout c.args.self c.args.other c.join.result c.join.ensures in
    record { none = j.none; heap = j.heap; terms = j.terms; tale = j.tale; orders = j.orders; parts = j.parts }
