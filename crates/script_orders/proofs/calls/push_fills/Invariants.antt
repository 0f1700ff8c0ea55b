use Rattle.std.proofs.Common.{◌≡◌, ◌++◌, drop, map}
use Rattle.script_orders.specs.Calls.{fills_text}
use Rattle.script_orders.proofs.calls.push_fills.Given as goal

abbrev pub invariant-loop-word : goal.invariant-loop-word
invariant-loop-word l = l.out.items ++ fills_text l.pass (map (λ w. w.now) (drop l._word-index l.words))
    ≡ l.fn.out.items ++ fills_text l.pass (map (λ w. w.now) l.words)
