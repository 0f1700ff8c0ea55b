use Rattle.std.specs.Prelude.{IfSome}
use Rattle.std.specs.List.{Contains}
use Rattle.history_timed.proofs.clashing.last_insert.Given as goal

abbrev pub invariant-loop-call : goal.invariant-loop-call
invariant-loop-call l = IfSome l.last (λ call. Contains l.calls call.now)
