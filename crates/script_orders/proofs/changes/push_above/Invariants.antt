use Rattle.std.proofs.Common.{◌≡◌, ◌++◌, take}
use Rattle.std.specs.Prelude.{nat_lt}
use Rattle.std.specs.List.{filter}
use Rattle.script_orders.specs.declared.changes.Change.{Change}
use Rattle.script_orders.proofs.changes.push_above.Given as goal

abbrev pub invariant-loop-change : goal.invariant-loop-change
invariant-loop-change l = l.out.items
    ≡ l.initial.out.items ++ filter (λ (c : Change). nat_lt l.number c.number) (take l.change-index l.changes)
