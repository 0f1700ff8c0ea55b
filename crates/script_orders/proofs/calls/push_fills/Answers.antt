use Rattle.std.proofs.Common.{◌≡◌, ◌∙◌, ℕ, ◌+◌, ◌<◌, List, [], ◌∷◌, ◌++◌, Bor, length, map, drop, codes, sym, ap}
use Rattle.std.proofs.Common.{append_assoc, arith}
use Rattle.std.proofs.lemmas.List.{at_drop_more}
use Rattle.script_orders.specs.Calls.{step_line, fills_text}
use Rattle.script_orders.proofs.calls.push_fills.Goals as goal

one_more : (pass : List ℕ) (ws : List (Bor (List ℕ))) (i : ℕ) → i < length ws
    → fills_text pass (map (λ w. w.now) (drop i ws))
    ≡ step_line pass (codes "Fill") [] ++ fills_text pass (map (λ w. w.now) (drop (i + 1) ws))
one_more pass [] i less = absurd (omega arith)
one_more pass (w ∷ ws) i less =
    at_drop_more (λ (xs : List (Bor (List ℕ))). fills_text pass (map (λ v. v.now) xs)) (w ∷ ws) i w less

pub loop-word-preserved : goal.loop-word-preserved
loop-word-preserved c =
    let pass = c.args.pass.now in
    let words = c.args.words.now in
    let i = c.loop-word._word-index in
    let out : List ℕ = c.loop-word.out.items in
    let fill = step_line pass (codes "Fill") [] in
    let rest = fills_text pass (map {A = Bor (List ℕ)} {B = List ℕ} (λ w. w.now) (drop (i + 1) words)) in
    ap (λ (xs : List ℕ). xs ++ rest) c.in_ok-push_step.ensures
    ∙ append_assoc out fill rest
    ∙ ap (λ (xs : List ℕ). out ++ xs) (sym (one_more pass words i c.loop-word-test.true))
    ∙ c.loop-word.invariant
