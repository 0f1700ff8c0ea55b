use Rattle.std.proofs.Common.{◌≡◌, length, map}
use Rattle.sh_script.specs.Script.{pieces_of}
use Rattle.script_orders.specs.Answers.{lines_have}
use Rattle.script_orders.proofs.answer.lines_have.Given as goal

abbrev pub invariant-loop-line : goal.invariant-loop-line
invariant-loop-line l = lines_have (map (λ w. w.now) l.reply) (pieces_of l.rest)
    ≡ lines_have (map (λ w. w.now) l.reply) (pieces_of l.lines)

abbrev pub decreases-loop-line : goal.decreases-loop-line
decreases-loop-line l = length l.rest
