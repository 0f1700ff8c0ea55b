use Rattle.std.proofs.Common.{◌≡◌, take}
use Rattle.script_orders.specs.Comments.{replies_of}
use Rattle.script_orders.specs.Answers.{having_some}
use Rattle.script_orders.proofs.answer.having_some.Given as goal

abbrev pub invariant-loop-place : goal.invariant-loop-place
invariant-loop-place l = l.those.items ≡ having_some l.found (replies_of l.replies) (take l.place-index l.places)
