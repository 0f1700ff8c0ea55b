use Rattle.std.proofs.Common.{◌≡◌, ◌++◌, take}
use Rattle.std.specs.List.{flat_map}
use Rattle.script_orders.specs.Printed.{line_text}
use Rattle.script_orders.proofs.report.push_lines.Given as goal

abbrev pub invariant-loop-line : goal.invariant-loop-line
invariant-loop-line l = l.out.items
    ≡ l.fn.out.items ++ flat_map (λ line. line_text line.now) (take l.line-index l.lines)
