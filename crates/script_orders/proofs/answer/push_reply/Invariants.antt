use Rattle.std.proofs.Common.{◌≡◌, ◌++◌, take, map}
use Rattle.script_orders.specs.Answers.{reply_text}
use Rattle.script_orders.proofs.answer.push_reply.Given as goal

abbrev pub invariant-loop-word : goal.invariant-loop-word
invariant-loop-word l = l.out.items
    ≡ l.fn.out.items ++ reply_text (map (λ w. w.now) (take l.word-index l.reply))
