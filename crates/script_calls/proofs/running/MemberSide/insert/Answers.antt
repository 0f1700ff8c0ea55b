use Rattle.script_calls.proofs.MemberLaws.{member_inserts, member_key_is_small}
use Rattle.script_calls.proofs.running.MemberSide.insert.Goals as goal

pub returns : goal.returns
returns g c =
    let layout = g.L.KeyLayout.layout in
    let call = c.insert in
    let h = member_inserts layout c.args.self.now call.new.self c.args.value.now call.result call.ensures.serves in
    record {
      does = h.0;
      small = member_key_is_small layout c.args.self.now call.new.self c.args.value.now call.result call.ensures.serves;
      same = h.1;
    }
