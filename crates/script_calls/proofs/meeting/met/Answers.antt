use Rattle.std.proofs.Common.{arith, rules, ◌≡◌, ◌∙◌, sym, ap, subst, refl, ◌++◌, ◌∷◌, [], append_assoc}
use Rattle.std.proofs.Common.{length-append, map, Option, Some, None}
use Rattle.std.specs.Prelude.{IfNone}
use Rattle.std.specs.Vec.Iter.{into_iter_len}
use Rattle.script_calls.specs.Meeting.{CarriesTale, tales_told}
use Rattle.std.specs.Option.{option_map}
use Rattle.script_calls.proofs.MeetLaws.{carries_more, orders_more, has_met, rest_of, rest_left, first_left, none_there}
use Rattle.script_calls.proofs.MeetLaws.{all_yielded, carrier_of}
use Rattle.script_calls.proofs.EndLaws.{own_more, all_own}
use Rattle.script_calls.proofs.meeting.met.Goals as goal

pub meet-requires : goal.meet-requires
meet-requires g c =
    let was = c.loop-side.invariant in
    let seen = g.S.Side.seen in
    let step = c.in-Some.ensures.steps.0 in
    record {
      heap = carrier_of seen g.at.0 g.at.1 _ c.in-Some.side _ _ (option_map seen c.loop-side.carrier) was.carries was.of
          step;
      none = (was.none, first_left seen c.in-Some.side _ _ was.left step);
    }

pub loop-side-preserved : goal.loop-side-preserved
loop-side-preserved g c =
    let was = c.loop-side.invariant in
    let y = c.loop-side.yielded in
    let seen = g.S.Side.seen in
    let step = c.in-Some.ensures.steps.0 in
    let side = seen c.in-Some.side in
    record {
      carries = carries_more seen g.at.0 g.at.1 y c.in-Some.side _ _ side (seen c.meet.result)
          (option_map seen c.loop-side.carrier) was.carries was.of step refl refl c.meet.ensures.meets;
      heard = orders_more seen y c.in-Some.side side (seen c.meet.result) (option_map seen c.loop-side.carrier)
          was.heard refl c.meet.ensures.meets;
      none = c.meet.ensures.none;
      own = own_more seen y c.in-Some.side (seen c.meet.result) (option_map seen c.loop-side.carrier) was.own
          c.meet.ensures.parts;
      of = rest_of seen g.at.0 g.at.1 c.in-Some.side _ _ was.of step;
      left = rest_left seen c.in-Some.side _ _ was.left step;
      rest = was.rest ∙ (ap (λ z. y ++ z) step ∙ sym (append_assoc y (c.in-Some.side ∷ []) _));
      counted = omega (arith, was.counted, c.in-Some.ensures.steps.1, length-append y (c.in-Some.side ∷ []));
    }

-- what holds in any case holds if there is none
in_any_case : {A P : Type 0} (o : Option A) → P → IfNone o P
in_any_case None p = p
in_any_case (Some x) p = tt

pub returns-in_err-carrier-clause-stays : goal.returns-in_err-carrier-clause-stays
returns-in_err-carrier-clause-stays g c =
    let seen = g.S.Side.seen in
    let y = c.loop-side.yielded in
    let none : c.loop-side.carrier ≡ None = search rules in
    let tale : tales_told (map seen y) ≡ [] =
    subst (λ o. CarriesTale g.at.0 g.at.1 (option_map seen o) (tales_told (map seen y))) none
    c.loop-side.invariant.carries in
    in_any_case c.from_residual.result
    (none_there seen c.args.sides.items y (into_iter_len c.loop-side.side-iterator) c.loop-side.invariant.counted
    c.in-None.ensures.steps.0 tale)

pub returns-clause-met : goal.returns-clause-met
returns-clause-met g c =
    let seen = g.S.Side.seen in
    let was = c.loop-side.invariant in
    let some : c.loop-side.carrier ≡ Some c.in_ok-carrier.carrier = search rules in
    has_met seen g.at.0 g.at.1 c.args.sides.items c.loop-side.yielded _ (into_iter_len c.loop-side.side-iterator)
    (seen c.in_ok-carrier.carrier) (option_map seen c.loop-side.carrier) was.rest was.counted c.in-None.ensures.steps.0
    was.carries was.heard was.none (ap (option_map seen) some) c.whole-known.ensures.tale

pub returns-clause-own : goal.returns-clause-own
returns-clause-own g c =
    let seen = g.S.Side.seen in
    let was = c.loop-side.invariant in
    let some : c.loop-side.carrier ≡ Some c.in_ok-carrier.carrier = search rules in
    let y = c.loop-side.yielded in
    all_own seen c.args.sides.items y (seen c.in_ok-carrier.carrier) (option_map seen c.loop-side.carrier)
    (all_yielded c.args.sides.items y _ (into_iter_len c.loop-side.side-iterator) was.rest was.counted
    c.in-None.ensures.steps.0) (ap (option_map seen) some) was.own
