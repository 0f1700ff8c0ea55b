use Rattle.std.proofs.Common.{map}
use Rattle.script_calls.proofs.HeardAll.{heard_of_heap}
use Rattle.script_calls.proofs.LeaveLaws.{knows_heard}
use Rattle.script_calls.proofs.leaving.met_in_turn.Goals as goal

pub left_and_met-requires : goal.left_and_met-requires
left_and_met-requires g c κs within =
    let ss = map g.S.Side.seen c.args.sides.items in
    let h = c.heed_in_turn-heard in
    let ts = map g.S.Side.seen h.result.sides.items in (
      within,
      (
        heard_of_heap c.args.last g.at.0 g.at.1 ss ts h.ensures.hear c.requires.1.0,
        (h.ensures.of, knows_heard c.args.last h.result.last ss ts h.ensures.hear h.ensures.knows),
      ),
    )

pub returns : goal.returns
returns g c =
    let h = c.heed_in_turn-heard in
    record {
      heard = map g.S.Side.seen h.result.sides.items;
      hear = h.ensures.hear;
      leave = c.left_and_met.ensures;
    }
