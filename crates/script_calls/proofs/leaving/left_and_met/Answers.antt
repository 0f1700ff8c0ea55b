use Rattle.std.proofs.Common.{map, inl}
use Rattle.script_calls.proofs.LeaveLaws.{alike_of_heap, left_alike}
use Rattle.script_calls.proofs.LeftLaws.{left_met, left_none}
use Rattle.script_calls.proofs.leaving.left_and_met.Goals as goal

pub met-requires : goal.met-requires
met-requires g c κs within =
    let ss = map g.S.Side.seen c.args.sides.items in
    let ts = map g.S.Side.seen c.in-Ok.sides.items in
    let left = c.in-Ok.ensures.left in (
      within,
      (alike_of_heap g.at.0 g.at.1 ss ts (left_alike ss ts left) c.requires.1.0, left_none ss ts left),
    )

pub bind_all-requires : goal.bind_all-requires
bind_all-requires g c κs within =
    let ss = map g.S.Side.seen c.args.sides.items in
    let ts = map g.S.Side.seen c.in-Err.refused.sides.items in
    let waits = c.in-Err.ensures.waits in
    (within, (alike_of_heap g.at.0 g.at.1 ss ts waits.alike c.requires.1.0, waits.bundle))

pub returns-in-Ok : goal.returns-in-Ok
returns-in-Ok g c =
    left_met g.S.Side.seen g.at.0 g.at.1 (map g.S.Side.seen c.args.sides.items)
    (map g.S.Side.seen c.in-Ok.sides.items) c.met.result c.in-Ok.ensures.left c.met.ensures.met c.met.ensures.own
    c.met.ensures.stays

pub returns-in-Err : goal.returns-in-Err
returns-in-Err g c =
    let waits = c.in-Err.ensures.waits in
    record {
      met = tt;
      ended = tt;
      stays = inl (record {
        ends = map g.S.Side.seen c.in-Err.refused.sides.items;
        alike = waits.alike;
        refused = waits.refused;
        together = c.bind_all.ensures;
      });
    }
