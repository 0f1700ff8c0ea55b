use Rattle.std.proofs.Common.{◌≡◌, None, arith, get_or, length, refl, subst}
use Rattle.sh_grown.specs.Collecting.{CollectsBelow}
use Rattle.sh_grown.proofs.Collecting.{collects_more, collects_none}
use Rattle.sh_grown.proofs.Keeping.{keeps_then, place_stays, stays_then}
use Rattle.sh_grown.proofs.caller.Caller.collect.Goals as goal

pub loop-number-init : goal.loop-number-init
loop-number-init c =
    let was = c.args.self.now in
    record {
      end = c.chunks_allowed-number-end.ensures.count;
      stays = record { growing = refl; number = refl };
      keeps = λ chunk. place_stays (get_or was.met.items chunk None);
      collects = collects_none was.met.items;
    }

pub loop-number-preserved : goal.loop-number-preserved
loop-number-preserved c =
    let i = c.loop-number.invariant in
    let old = c.args.self.now in
    let now = c.loop-number.self in
    let new = c.collect_in.new.self in
    record {
      end = i.end;
      stays = stays_then old now new i.stays c.collect_in.ensures.stays;
      keeps = keeps_then old.met.items now.met.items new.met.items i.keeps c.collect_in.ensures.keeps;
      collects = collects_more c.loop-number.number old.met.items now.met.items new.met.items c.collect_in.result
          i.collects c.collect_in.ensures.collects;
    }

pub returns-clause-collects : goal.returns-clause-collects
returns-clause-collects c =
    let i = c.loop-number.invariant in
    let end = i.end in
    let past = c.loop-number-test.false in
    let old = c.args.self.now in
    let all : c.loop-number.number ≡ length old.growing.cells.items = omega (arith, end, past) in
    subst (λ n. CollectsBelow n old.met.items c.loop-number.self.met.items) all i.collects
