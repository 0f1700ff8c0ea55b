use Rattle.std.proofs.Common.{rules, ◌≡◌, ◌<◌, true, map}
use Rattle.std.specs.List.{All}
use Rattle.std.specs.Option.{option_map}
use Rattle.sh_shape.specs.Shape.{IsShape}
use Rattle.sh_script.specs.declared.calls.CallLine.{CallLine}
use Rattle.script_output.specs.Keys.{HasTagRoom}
use Rattle.sh_member.specs.Sides.{SeenSide}
use Rattle.script_calls.specs.Running.{seen_of_member}
use Rattle.script_heap.proofs.OpenedLemmas.{opened_room, opened_new, opened_within, opened_ran}
use Rattle.script_heap.proofs.heap_output.lines_on.Goals as goal

pub alone_lines-requires-clause-room : goal.alone_lines-requires-clause-room
alone_lines-requires-clause-room g c =
    let layout = g.L.KeyLayout.layout in
    let sides = map (λ (m : SeenSide). seen_of_member layout m) c.in_ok-sides.sides.items in
    let heap : c.args.heap.now ≡ g.at.0 = search rules in
    let tag : c.args.tag ≡ g.at.1 = search rules in
    let room : HasTagRoom g.L.KeyLayout.layout g.at.1 = search rules in
    let shape : IsShape g.at.0.shape = search rules in
    opened_room layout g.at.0 shape c.args.heap.now heap sides
    c.in_ok-sides.ensures.all c.args.tag g.at.1 tag room

pub alone_lines-requires-clause-sides : goal.alone_lines-requires-clause-sides
alone_lines-requires-clause-sides g c =
    let layout = g.L.KeyLayout.layout in
    let sides = map (λ (m : SeenSide). seen_of_member layout m) c.in_ok-sides.sides.items in
    let heap : c.args.heap.now ≡ g.at.0 = search rules in
    let shape : IsShape g.at.0.shape = search rules in
    opened_new layout g.at.0 shape c.args.heap.now heap sides
    c.in_ok-sides.ensures.all

pub alone_lines-requires-clause-passes : goal.alone_lines-requires-clause-passes
alone_lines-requires-clause-passes g c =
    let layout = g.L.KeyLayout.layout in
    let sides = map (λ (m : SeenSide). seen_of_member layout m) c.in_ok-sides.sides.items in
    let heap : c.args.heap.now ≡ g.at.0 = search rules in
    let shape : IsShape g.at.0.shape = search rules in
    let lines : c.args.lines.now ≡ g.at.2 = search rules in
    let within : All (λ (l : CallLine). l.pass < g.at.0.shape.passes) g.at.2 = search rules in
    opened_within layout g.at.0 shape c.args.heap.now heap sides
    c.in_ok-sides.ensures.all c.args.lines.now g.at.2 lines within

pub gathered-requires : goal.gathered-requires
gathered-requires g c κs within =
    let layout = g.L.KeyLayout.layout in
    let sides = map (λ (m : SeenSide). seen_of_member layout m) c.in_ok-sides.sides.items in
    let heap : c.args.heap.now ≡ g.at.0 = search rules in
    let shape : IsShape g.at.0.shape = search rules in
    let tag : c.args.tag ≡ g.at.1 = search rules in
    let lines : c.args.lines.now ≡ g.at.2 = search rules in (
      within,
      (
        shape,
        opened_ran layout g.at.0 shape c.args.heap.now heap sides
            c.in_ok-sides.ensures.all true c.args.tag g.at.1 c.args.lines.now g.at.2
            c.in_ok-output.output.items
            (option_map (λ (m : SeenSide). seen_of_member layout m) c.in_ok-output.carrier) tag lines
            c.in_ok-output.ensures.ran,
      ),
    )
