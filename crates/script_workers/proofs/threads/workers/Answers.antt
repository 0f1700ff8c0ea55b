use Rattle.std.proofs.Common.{rules, arith, ◌≡◌, ◌+◌, ◌∙◌, sym, ap, ◌++◌, ◌∷◌, [], length, append_assoc, length-append}
use Rattle.std.proofs.Common.{vec_len}
use Rattle.std.specs.Vec.Iter.{into_iter_len}
use Rattle.script_calls.specs.Parts.{new_pass, passes_below}
use Rattle.script_calls.proofs.Newcomers.{next_newcomer, up_more, all_new}
use Rattle.script_workers.proofs.threads.workers.Goals as goal

pub new-requires-clause-side : goal.new-requires-clause-side
new-requires-clause-side g c =
    let room = g.B.Room in
    let was = c.loop-side.invariant in
    let is = next_newcomer g.S.Side.seen room.heap room.terms room.terms.shape.passes c.args.sides.items
    c.loop-side.yielded _ _ c.in-Some.side c.requires.sides was.rest c.in-Some.ensures.steps.0 in
    is ∙ ap (new_pass room.heap room.terms) (sym (c.len-number.ensures ∙ was.long))

pub loop-side-preserved : goal.loop-side-preserved
loop-side-preserved g c =
    let was = c.loop-side.invariant in
    let y = c.loop-side.yielded in
    let grown : c.push_reserved.new.self.items ≡ c.loop-side.all.items ++ c.new.result ∷ [] = search rules in
    let longer : vec_len c.push_reserved.new.self ≡ vec_len c.loop-side.all + 1 = search rules in
    let is : c.new.result ≡ length y = c.new.ensures ∙ (c.len-number.ensures ∙ was.long) in
    record {
      made = grown ∙ ((λ i. was.made i ++ is i ∷ []) ∙ sym (up_more y c.in-Some.side));
      long = omega (arith, longer, was.long, length-append y (c.in-Some.side ∷ []));
      space = omega (arith, was.space, longer, c.push_reserved.ensures.capacity, c.in-Some.ensures.steps.1);
      rest = was.rest ∙ (ap (λ z. y ++ z) c.in-Some.ensures.steps.0 ∙ sym (append_assoc y (c.in-Some.side ∷ []) _));
      counted = omega (arith, was.counted, c.in-Some.ensures.steps.1, length-append y (c.in-Some.side ∷ []));
    }

pub returns-clause-all : goal.returns-clause-all
returns-clause-all g c =
    let room = g.B.Room in
    let was = c.loop-side.invariant in
    let all : length c.loop-side.yielded ≡ room.terms.shape.passes = all_new g.S.Side.seen room.heap room.terms
    room.terms.shape.passes c.args.sides.items c.loop-side.yielded (into_iter_len c.loop-side.side-iterator)
    c.requires.sides was.counted c.in-None.ensures.steps.0 in
    was.made ∙ ap passes_below all
