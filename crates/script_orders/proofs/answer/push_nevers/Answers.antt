use Rattle.std.proofs.Common.{◌≡◌, ◌∙◌, List, ℕ, ◌+◌, ◌∷◌, ◌++◌, Bor, Vec, Global, map, drop, codes, sym, ap}
use Rattle.std.proofs.Common.{append_assoc}
use Rattle.std.proofs.lemmas.List.{at_drop_more}
use Rattle.script_orders.specs.Comments.{replies_of}
use Rattle.script_orders.specs.Answers.{asked_text, nevers_text}
use Rattle.script_orders.proofs.answer.push_nevers.Goals as goal

pub loop-reply-preserved : goal.loop-reply-preserved
loop-reply-preserved c =
    let found = c.args.found.now in
    let replies = c.args.replies.now in
    let places = c.args.places.now in
    let i = c.loop-reply.reply-index in
    let out : List ℕ = c.loop-reply.out.items in
    let reply = c.reply-item.result in
    let rest = drop (i + 1) replies in
    let slice = c.as_slice.ensures.value in
    let line = λ (ws : List (Bor (List ℕ))). asked_text (codes "never") found (map (λ w. w.now) ws) places in
    let text = λ (rs : List (Vec (Bor (List ℕ)) Global)). nevers_text found (replies_of rs) places in
    let first : text (drop i replies) ≡ line reply.items ++ text rest =
    at_drop_more text replies i reply c.loop-reply-test.true
    ∙ ap (λ (r : Vec (Bor (List ℕ)) Global). text (r ∷ rest)) (sym c.reply-item.is) in
    ap (λ (xs : List ℕ). xs ++ text rest)
    (c.in_ok-push_asked.ensures.text ∙ ap (λ (ws : List (Bor (List ℕ))). out ++ line ws) slice)
    ∙ append_assoc out (line reply.items) (text rest)
    ∙ ap (λ (xs : List ℕ). out ++ xs) (sym first)
    ∙ c.loop-reply.invariant
