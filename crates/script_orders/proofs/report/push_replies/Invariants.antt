use Rattle.std.proofs.Common.{◌≡◌, ◌++◌, take}
use Rattle.std.specs.Prelude.{vec_items}
use Rattle.std.specs.List.{flat_map}
use Rattle.script_orders.proofs.report.push_replies.Given as goal

abbrev pub invariant-loop-lines : goal.invariant-loop-lines
invariant-loop-lines l = l.out.items ≡ l.fn.out.items ++ flat_map vec_items (take l.lines-index l.replies)
