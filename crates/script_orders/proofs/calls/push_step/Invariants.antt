use Rattle.std.proofs.Common.{◌≡◌, ◌++◌, take, map, codes}
use Rattle.std.specs.List.{flat_map}
use Rattle.script_orders.proofs.calls.push_step.Given as goal

abbrev pub invariant-loop-word : goal.invariant-loop-word
invariant-loop-word l = l.out.items ≡ l.fn.out.items ++ (l.pass ++ (codes " " ++ (l.step
    ++ flat_map (λ w. codes " " ++ w) (map (λ w. w.now) (take l.word-index l.words)))))
