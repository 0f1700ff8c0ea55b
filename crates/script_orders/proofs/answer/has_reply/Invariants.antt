use Rattle.std.proofs.Common.{◌≡◌, drop, map}
use Rattle.std.specs.Prelude.{vec_items}
use Rattle.script_orders.specs.Answers.{is_replied}
use Rattle.script_orders.proofs.answer.has_reply.Given as goal

abbrev pub invariant-loop-lines : goal.invariant-loop-lines
invariant-loop-lines l =
    is_replied (map (λ w. w.now) l.reply) (map vec_items (drop l.lines-index l.found.replies.items))
    ≡ is_replied (map (λ w. w.now) l.reply) (map vec_items l.found.replies.items)
