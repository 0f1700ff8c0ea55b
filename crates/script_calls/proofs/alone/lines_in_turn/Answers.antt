use Rattle.std.specs.List.{All}
use Rattle.std.proofs.Common.{rules, arith, ◌≡◌, ◌<◌, ◌≤◌, ◌∙◌, ℕ, true, refl, sym, ap, subst, map, ◌++◌, length, set}
use Rattle.std.proofs.Common.{Some, Option, slice_get}
use Rattle.std.specs.Option.{option_map}
use Rattle.std.proofs.lemmas.Grind.{common_steps}
use Rattle.std.proofs.lemmas.Option.{gets, slice_get-map}
use Rattle.sh_script.specs.declared.calls.CallLine.{CallLine}
use Rattle.script_output.specs.Keys.{HasTagRoom}
use Rattle.script_calls.specs.OwnParts.{PartIsTrue}
use Rattle.script_calls.specs.Parts.{RunTerms, SeenPass, new_passes}
use Rattle.script_calls.specs.Calls.{CallAnswers}
use Rattle.script_output.specs.Replies.{reply_line}
use Rattle.script_calls.specs.Runs.{number_meant, with_number}
use Rattle.script_calls.proofs.AloneLaws.{begins_ordered, ordered_more, last_of}
use Rattle.script_calls.proofs.AloneEnds.{ordered_by}
use Rattle.script_calls.proofs.StepLaws.{steps_in_turn}
use Rattle.script_calls.proofs.HearLaws.{orders_only}
use Rattle.script_calls.proofs.InTurn.{heap_at, map_set, all_are, terms_at, lines_ran}
use Rattle.script_calls.proofs.alone.lines_in_turn.Goals as goal

pub loop-line-init : goal.loop-line-init
loop-line-init g c =
    let new : map g.S.Side.seen c.args.sides.items ≡ new_passes g.at.0 g.at.1 g.at.1.shape.passes = search rules in
    rw (c.new-numbers.ensures.items, c.new-output.ensures.items)
    (begins_ordered g.at.0 g.at.1 c.args.tag c.args.lines.now (map g.S.Side.seen c.args.sides.items) new)

pub heed_last-requires : goal.heed_last-requires
heed_last-requires g c =
    let own : slice_get (map g.S.Side.seen c.loop-line.sides.items) c.line-item.result.pass
    ≡ Some (g.S.Side.seen c.in-Some.side.now) = (let found : slice_get c.loop-line.sides.items c.line-item.result.pass
    ≡ Some c.in-Some.side.now = grind (arith, common_steps, gets) in
    slice_get-map g.S.Side.seen c.loop-line.sides.items c.line-item.result.pass
    ∙ ap (option_map g.S.Side.seen) found) in
    last_of g.at.0 (g.S.Side.seen c.in-Some.side.now).heap _ c.loop-line.last
    (heap_at g.at.0 g.at.1 c.args.tag c.args.lines.now c.loop-line.line-index c.loop-line.numbers.items _
    c.loop-line.output.items c.loop-line.invariant.so_far c.line-item.result.pass
    (g.S.Side.seen c.in-Some.side.now) own)
    c.loop-line.invariant.last_heard

pub answered-answer-requires : goal.answered-answer-requires
answered-answer-requires g c =
    let l : CallLine = c.line-item.result in
    let found : slice_get c.loop-line.sides.items l.pass ≡ Some c.in-Some.side.now = grind (arith, common_steps, gets)
    in
    let own : slice_get (map g.S.Side.seen c.loop-line.sides.items) l.pass
    ≡ Some (g.S.Side.seen c.in-Some.side.now) = slice_get-map g.S.Side.seen c.loop-line.sides.items l.pass
    ∙ ap (option_map g.S.Side.seen) found in
    let terms : (g.S.Side.seen c.in-Some.side.now).terms ≡ g.at.1 = terms_at g.at.0 g.at.1 c.args.tag
    c.args.lines.now c.loop-line.line-index c.loop-line.numbers.items _ c.loop-line.output.items
    c.loop-line.invariant.so_far l.pass (g.S.Side.seen c.in-Some.side.now) own in
    let only = orders_only c.loop-line.last (g.S.Side.seen c.in-Some.side.now) (g.S.Side.seen c.heed_last.new.side)
    c.heed_last.ensures in
    let heeded : (g.S.Side.seen c.heed_last.new.side).terms ≡ g.at.1 = ap (λ (z : SeenPass). z.terms) only ∙ terms in
    let room : HasTagRoom g.at.1.layout c.args.tag = search rules in
    let R : RunTerms → Type 0 = λ t. HasTagRoom t.layout c.args.tag in
    record { room = subst R (sym heeded) room }

pub loop-line-preserved : goal.loop-line-preserved
loop-line-preserved g c =
    let seen = g.S.Side.seen in
    let l : CallLine = c.line-item.result in
    let at : slice_get c.args.lines.now c.loop-line.line-index ≡ Some l = grind (arith, common_steps, gets) in
    let found : slice_get c.loop-line.sides.items l.pass ≡ Some c.in-Some.side.now = grind (arith, common_steps, gets)
    in
    let own : slice_get (map seen c.loop-line.sides.items) l.pass ≡ Some (seen c.in-Some.side.now) = slice_get-map seen
    c.loop-line.sides.items l.pass ∙ ap (option_map seen) found in
    let side = seen c.in-Some.side.now in
    let mid = seen c.heed_last.new.side in
    let now = seen c.answered-answer.new.side in
    let a = c.answered-answer.result in
    let bound : c.number_meant-bound.result ≡ number_meant c.loop-line.numbers.items l.call = search rules in
    let named : c.tell.new.names.items ≡ with_number c.loop-line.numbers.items l.call a = search rules in
    let printed : c.tell.new.output.items ≡ c.loop-line.output.items ++ reply_line l a = search rules in
    let D : Option ℕ → Type 0 = λ b. CallAnswers mid.terms c.args.tag mid.pass mid.part l.call b a now.part in
    let put : map seen (set c.loop-line.sides.items l.pass c.receipt.new.self) ≡ set (map seen c.loop-line.sides.items)
    l.pass now = map_set seen c.loop-line.sides.items l.pass c.receipt.new.self
    ∙ ap (set (map seen c.loop-line.sides.items) l.pass) c.receipt.ensures.same in
    let stands : PartIsTrue now.terms.layout now.part = c.whole-known.ensures.stands in
    ordered_more g.at.0 g.at.1 c.args.tag c.args.lines.now c.loop-line.line-index c.loop-line.numbers.items
    (map seen c.loop-line.sides.items) c.loop-line.output.items c.loop-line.last
    c.loop-line.invariant l at side mid now own c.heed_last.ensures
    c.answered-answer.ensures.same a (subst D bound c.answered-answer.ensures.does) stands
    c.tell.new.names.items _ c.tell.new.output.items c.receipt.result named put printed c.receipt.ensures.tells

pub met_in_turn-requires : goal.met_in_turn-requires
met_in_turn-requires g c κs within = (
  within,
  (
    all_are g.at.0 g.at.1 c.args.tag c.args.lines.now c.loop-line.line-index c.loop-line.numbers.items
        (map g.S.Side.seen c.loop-line.sides.items) c.loop-line.output.items c.loop-line.invariant.so_far,
    last_of g.at.0 g.at.0 _ c.loop-line.last refl c.loop-line.invariant.last_heard,
  ),
)

pub returns : goal.returns
returns g c =
    let seen = g.S.Side.seen in
    let sides = map seen c.loop-line.sides.items in
    let e = c.met_in_turn.ensures in
    let past : length c.args.lines.now ≤ c.loop-line.line-index = search rules in
    let fits : All (λ (l : CallLine). l.pass < g.at.1.shape.passes) c.args.lines.now = search rules in
    record {
      ran = lines_ran true g.at.0 g.at.1 c.args.tag c.args.lines.now c.loop-line.line-index c.loop-line.numbers.items
          sides c.loop-line.output.items (option_map seen c.met_in_turn.result) c.loop-line.last past fits
          c.loop-line.invariant.so_far e
          (λ s m alone. (
            ordered_by g.at.0 g.at.1 c.args.tag c.args.lines.now c.loop-line.line-index c.loop-line.numbers.items sides
                c.loop-line.output.items c.loop-line.last c.loop-line.invariant past e.heard e.hear s m,
            steps_in_turn g.at.0 g.at.1 c.args.tag c.args.lines.now c.loop-line.line-index c.loop-line.numbers.items
                sides c.loop-line.output.items c.loop-line.last c.loop-line.invariant.so_far past
                c.loop-line.invariant.heard_steps c.loop-line.invariant.last_steps e.heard e.hear s.orders m.heard,
          ));
    }
