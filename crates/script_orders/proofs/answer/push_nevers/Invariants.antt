use Rattle.std.proofs.Common.{◌≡◌, ◌++◌, drop}
use Rattle.script_orders.specs.Comments.{replies_of}
use Rattle.script_orders.specs.Answers.{nevers_text}
use Rattle.script_orders.proofs.answer.push_nevers.Given as goal

abbrev pub invariant-loop-reply : goal.invariant-loop-reply
invariant-loop-reply l = l.out.items ++ nevers_text l.found (replies_of (drop l.reply-index l.replies)) l.places
    ≡ l.fn.out.items ++ nevers_text l.found (replies_of l.replies) l.places
