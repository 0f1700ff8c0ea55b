use Rattle.std.proofs.Common.{arith, rules, ◌∙◌, sym, ap, ◌++◌, ◌∷◌, [], append_assoc, length-append}
use Rattle.std.specs.Vec.Iter.{into_iter_len}
use Rattle.script_calls.proofs.BundleLaws.{all_bound, binding_begins, bound_more, heap_of_next}
use Rattle.script_calls.proofs.MeetLaws.{all_yielded, rest_of}
use Rattle.script_calls.proofs.leaving.bind_all.Goals as goal

pub loop-side-init : goal.loop-side-init
loop-side-init g c = record {
  bound = binding_begins g.at.0 g.at.1 c.args.bundle c.requires.1.1;
  of = search rules;
  rest = search rules;
  counted = search rules;
}

pub bind-requires : goal.bind-requires
bind-requires g c =
    let was = c.loop-side.invariant in
    heap_of_next g.S.Side.seen g.at.0 g.at.1 c.in-Some.side _ _ c.loop-side.bundle was.bound.heap_is was.of
    c.in-Some.ensures.steps.0

pub loop-side-preserved : goal.loop-side-preserved
loop-side-preserved g c =
    let was = c.loop-side.invariant in
    let y = c.loop-side.yielded in
    let seen = g.S.Side.seen in
    let step = c.in-Some.ensures.steps.0 in
    record {
      bound = bound_more seen g.at.0 g.at.1 y c.in-Some.side _ _ c.loop-side.bundle c.bind.new.bundle was.bound was.of
          step c.whole-known.ensures.stands c.whole-known.ensures.shape c.bind.ensures.binds c.bind.ensures.leads;
      of = rest_of seen g.at.0 g.at.1 c.in-Some.side _ _ was.of step;
      rest = was.rest ∙ (ap (λ z. y ++ z) step ∙ sym (append_assoc y (c.in-Some.side ∷ []) _));
      counted = omega (arith, was.counted, c.in-Some.ensures.steps.1, length-append y (c.in-Some.side ∷ []));
    }

pub returns : goal.returns
returns g c =
    let seen = g.S.Side.seen in
    let was = c.loop-side.invariant in
    let y = c.loop-side.yielded in
    all_bound seen g.at.0 g.at.1 c.args.sides.items y c.loop-side.bundle
    (all_yielded c.args.sides.items y _ (into_iter_len c.loop-side.side-iterator) was.rest was.counted
    c.in-None.ensures.steps.0) was.bound
