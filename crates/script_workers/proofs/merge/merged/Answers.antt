use Rattle.std.proofs.Common.{rules, arith, ◌≡◌, ◌≤◌, ◌∙◌, sym, ap, subst, refl, List, ◌++◌, ◌∷◌, []}
use Rattle.std.proofs.Common.{cond, length, Some, slice_get, map}
use Rattle.std.proofs.lemmas.Grind.{common_steps}
use Rattle.std.proofs.lemmas.Option.{gets}
use Rattle.sh_script.specs.declared.calls.CallLine.{CallLine}
use Rattle.script_output.specs.Replies.{reply_line}
use Rattle.sh_script.specs.BoundNames.{binds}
use Rattle.script_workers.specs.declared.worker.Made.{Made}
use Rattle.script_workers.specs.Works.{bound_by}
use Rattle.script_workers.specs.Merges.{bound_needed, MergedSoFar}
use Rattle.script_workers.proofs.Merges.{merged_more, merging_begins, merging_ends, never_empty}
use Rattle.script_workers.proofs.merge.merged.Goals as goal

pub loop-line-init : goal.loop-line-init
loop-line-init g c =
    let room = g.B.Room in
    rw (c.new-names.ensures.items, c.new-output.ensures.items) (merging_begins room.heap room.terms room.tag room.lines
    (map g.S.Side.seen c.args.ended.sides.items) c.args.ended.rests.items c.requires.ended)

pub loop-line-preserved : goal.loop-line-preserved
loop-line-preserved g c =
    let room = g.B.Room in
    let sides = map g.S.Side.seen c.args.ended.sides.items in
    let was = c.loop-line.invariant in
    let l : CallLine = c.line-item.result in
    let m : Made = c.in-Some-take.made in
    let ms : List Made = c.take.new.self in
    let at : slice_get room.lines c.loop-line.line-index ≡ Some l = grind (arith, common_steps, gets) in
    let all : c.in-Some.rest.now ≡ m ∷ ms = search rules in
    let found : slice_get c.loop-line.rests.items l.pass ≡ Some c.in-Some.rest.now = grind (arith, common_steps, gets)
    in
    let own : slice_get c.loop-line.rests.items l.pass ≡ Some (m ∷ ms) = found ∙ ap (λ (z : List Made). Some z) all in
    let bound : m.bound ≡ bound_needed c.loop-line.names.items l.call = search rules in
    let named : c.tell.new.names.items ≡ cond (binds l.call) (c.loop-line.names.items ++ bound_by l.pass m ∷ [])
    c.loop-line.names.items = search rules in
    let printed : c.tell.new.output.items ≡ c.loop-line.output.items ++ reply_line l m.answer = search rules in
    merged_more room.heap room.terms room.tag room.lines c.loop-line.line-index c.loop-line.names.items sides
    c.loop-line.rests.items c.loop-line.output.items was l at m ms own bound c.tell.new.names.items _
    c.tell.new.output.items named refl printed

pub returns : goal.returns
returns g c =
    let room = g.B.Room in
    let sides = map g.S.Side.seen c.args.ended.sides.items in
    let past : length c.args.lines.now ≤ c.loop-line.line-index = search rules in
    let M : List CallLine → Type 0 = λ ls. MergedSoFar room.heap room.terms room.tag ls c.loop-line.line-index
    c.loop-line.names.items sides c.loop-line.rests.items c.loop-line.output.items in
    record {
      answered = merging_ends room.heap room.terms room.tag c.args.lines.now c.loop-line.line-index
          c.loop-line.names.items sides c.loop-line.rests.items c.loop-line.output.items past
          (subst M (sym c.requires.lines) c.loop-line.invariant);
    }

pub unreachable-requires-in_default-take : goal.unreachable-requires-in_default-take
unreachable-requires-in_default-take g c =
    let room = g.B.Room in
    let sides = map g.S.Side.seen c.args.ended.sides.items in
    let l : CallLine = c.line-item.result in
    let at : slice_get room.lines c.loop-line.line-index ≡ Some l = grind (arith, common_steps, gets) in
    let none : c.in-Some.rest.now ≡ [] = search rules in
    let found : slice_get c.loop-line.rests.items l.pass ≡ Some c.in-Some.rest.now = grind (arith, common_steps, gets)
    in
    let own : slice_get c.loop-line.rests.items l.pass ≡ Some [] = found ∙ ap (λ (z : List Made). Some z) none in
    never_empty room.heap room.terms room.tag room.lines c.loop-line.line-index c.loop-line.names.items sides
    c.loop-line.rests.items c.loop-line.output.items c.loop-line.invariant l at own
