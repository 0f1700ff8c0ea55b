use Rattle.std.proofs.Common.{◌≡◌, drop}
use Rattle.script_orders.specs.Comments.{replies_of}
use Rattle.script_orders.specs.Answers.{has_some}
use Rattle.script_orders.proofs.answer.has_some.Given as goal

abbrev pub invariant-loop-reply : goal.invariant-loop-reply
invariant-loop-reply l = has_some l.found (replies_of (drop l.reply-index l.replies)) l.place
    ≡ has_some l.found (replies_of l.replies) l.place
