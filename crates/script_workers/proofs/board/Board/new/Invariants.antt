use Rattle.std.proofs.Common.{◌≡◌, length}
use Rattle.script_workers.proofs.board.Board.new.Given as goal

abbrev pub invariant-loop-name : goal.invariant-loop-name
invariant-loop-name g l = length l.bound.items ≡ l._name
