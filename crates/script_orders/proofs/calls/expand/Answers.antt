use Rattle.std.proofs.Common.{◌∙◌, List, ℕ, ◌++◌, sym, ap, append_assoc}
use Rattle.sh_script.specs.Script.{pieces_of}
use Rattle.script_orders.specs.Calls.{steps_text, expanded}
use Rattle.script_orders.proofs.CallLines.{one_line}
use Rattle.script_orders.proofs.calls.expand.Goals as goal

pub loop-line-preserved : goal.loop-line-preserved
loop-line-preserved c =
    let out : List ℕ = c.loop-line.out.items in
    let line = c.in-Some.line.now in
    let more = c.in-Some.more.now in
    ap (λ (xs : List ℕ). xs ++ expanded (pieces_of more)) c.in_ok-push_line.ensures
    ∙ append_assoc out (steps_text line) (expanded (pieces_of more))
    ∙ ap (λ (xs : List ℕ). out ++ xs) (sym (one_line line c.loop-line.rest.now more c.in-Some.ensures.some))
    ∙ c.loop-line.invariant
