use Rattle.std.proofs.Common.{rules, ◌≡◌, ap, None}
use Rattle.std.specs.Option.{option_map}
use Rattle.sh_member.specs.Sides.{SeenSide}
use Rattle.script_calls.specs.Parts.{heap_terms}
use Rattle.script_calls.specs.Running.{seen_of_member}
use Rattle.script_heap.proofs.Stuck.{carries_always}
use Rattle.script_heap.proofs.heap_lines.gathered.Goals as goal

pub unreachable-requires : goal.unreachable-requires
unreachable-requires g c =
    let layout = g.L.KeyLayout.layout in
    let seen = λ (m : SeenSide). seen_of_member layout m in
    let none : c.args.carrier ≡ None = search rules in
    carries_always g.at.3 _ (heap_terms layout g.at.0.shape) g.at.1 g.at.2 c.args.output.items
    (option_map seen c.args.carrier) c.requires.1.0 (ap (option_map seen) none) c.requires.1.1
