use Rattle.std.proofs.Common.{◌≡◌, ◌++◌, take, slice_get}
use Rattle.std.specs.List.{flat_map, filter_map}
use Rattle.script_orders.specs.Printed.{line_text}
use Rattle.script_orders.proofs.report.push_numbered.Given as goal

abbrev pub invariant-loop-number : goal.invariant-loop-number
invariant-loop-number l = l.out.items ≡ l.fn.out.items
    ++ flat_map (λ line. line_text line.now) (filter_map (slice_get l.lines) (take l.number-index l.numbers))
