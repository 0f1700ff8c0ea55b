use Rattle.std.proofs.Common.{◌∙◌, List, ℕ, Bor, map, ap}
use Rattle.script_orders.specs.Answers.{begins}
use Rattle.script_orders.proofs.Words.{starts_map}
use Rattle.script_orders.proofs.answer.line_has.Goals as goal

pub returns : goal.returns
returns c =
    let reply = map {A = Bor (List ℕ)} {B = List ℕ} (λ w. w.now) c.args.reply.now in
    c.starts_with.ensures.value
    ∙ starts_map c.as_slice.result.now c.args.reply.now
    ∙ ap (λ (ws : List (Bor (List ℕ))). begins (map (λ w. w.now) ws) reply) c.as_slice.ensures.value
    ∙ ap (λ (ws : List (List ℕ)). begins ws reply) c.in_ok-words.ensures
