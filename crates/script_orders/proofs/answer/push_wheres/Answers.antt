use Rattle.std.proofs.Common.{◌≡◌, ◌∙◌, List, ℕ, ◌+◌, ◌∷◌, ◌++◌, Bor, Vec, Global, map, drop, codes, sym, ap}
use Rattle.std.proofs.Common.{append_assoc}
use Rattle.std.proofs.lemmas.List.{at_drop_more}
use Rattle.script_orders.specs.Comments.{replies_of}
use Rattle.script_orders.specs.Answers.{having, having_all, asked_text, wheres_text}
use Rattle.script_orders.proofs.answer.push_wheres.Goals as goal

pub loop-reply-init : goal.loop-reply-init
loop-reply-init c =
    let found = c.args.found.now in
    let replies = replies_of c.args.replies.now in
    record {
      text = ap (λ (ps : List ℕ). c.args.out.now.items ++ wheres_text found replies ps) c.in_ok-places.ensures;
      places = ap (having_all found replies) c.in_ok-places.ensures;
    }

pub loop-reply-preserved : goal.loop-reply-preserved
loop-reply-preserved c =
    let found = c.args.found.now in
    let replies = c.args.replies.now in
    let i = c.loop-reply.reply-index in
    let out : List ℕ = c.loop-reply.out.items in
    let places : List ℕ = c.loop-reply.places.items in
    let reply = c.reply-item.result in
    let rest = drop (i + 1) replies in
    let less = c.loop-reply-test.true in
    let slice = c.as_slice.ensures.value in
    let there = c.as_slice-in-loop-reply.ensures.value in
    let words = map {A = Bor (List ℕ)} {B = List ℕ} (λ w. w.now) reply.items in
    let line = asked_text (codes "where") found words places in
    let text = λ (ps : List ℕ) (rs : List (Vec (Bor (List ℕ)) Global)). wheres_text found (replies_of rs) ps in
    let all = λ (ps : List ℕ) (rs : List (Vec (Bor (List ℕ)) Global)). having_all found (replies_of rs) ps in
    let those : c.in_ok-those.those.items ≡ having found words places =
    c.in_ok-those.ensures.places ∙ λ j. having found (map (λ w. w.now) (slice j)) (there j) in
    let wrote : c.push_asked.new.out.items ≡ out ++ line =
    c.in_ok-those.ensures.text
    ∙ λ j. out ++ asked_text (codes "where") found (map (λ w. w.now) (slice j)) (there j) in
    let first : text places (drop i replies) ≡ line ++ text (having found words places) rest =
    at_drop_more (text places) replies i reply less
    ∙ ap (λ (r : Vec (Bor (List ℕ)) Global). text places (r ∷ rest)) (sym c.reply-item.is) in
    let first_all : all places (drop i replies) ≡ all (having found words places) rest =
    at_drop_more (all places) replies i reply less
    ∙ ap (λ (r : Vec (Bor (List ℕ)) Global). all places (r ∷ rest)) (sym c.reply-item.is) in
    record {
      text = (λ j. wrote j ++ text (those j) rest)
          ∙ append_assoc out line (text (having found words places) rest)
          ∙ ap (λ (xs : List ℕ). out ++ xs) (sym first)
          ∙ c.loop-reply.invariant.text;
      places = ap (λ (ps : List ℕ). all ps rest) those ∙ sym first_all ∙ c.loop-reply.invariant.places;
    }
