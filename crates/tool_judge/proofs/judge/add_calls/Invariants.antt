use Rattle.std.proofs.Common.{◌≡◌, ◌++◌, map, take}
use Rattle.tool_judge.specs.Calls.{call_of}
use Rattle.tool_judge.proofs.judge.add_calls.Given as goal

abbrev pub invariant-loop-line : goal.invariant-loop-line
invariant-loop-line l = l.calls.items ≡ l.fn.calls.items ++ map (call_of l.mark) (take l.line-index l.lines)
