use Rattle.std.proofs.Common.{◌≡◌, take, map}
use Rattle.script_orders.specs.Answers.{having}
use Rattle.script_orders.proofs.answer.having.Given as goal

abbrev pub invariant-loop-place : goal.invariant-loop-place
invariant-loop-place l = l.those.items ≡ having l.found (map (λ w. w.now) l.reply) (take l.place-index l.places)
