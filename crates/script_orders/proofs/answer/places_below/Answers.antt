use Rattle.std.proofs.Common.{◌≡◌, ◌∙◌, ◌+◌, List, ℕ, [], ◌∷◌, ◌++◌, sym, ap, arith}
use Rattle.std.specs.List.{range_with_len}
use Rattle.script_orders.proofs.LineLists.{range_split}
use Rattle.script_orders.proofs.answer.places_below.Goals as goal

pub loop-place-preserved : goal.loop-place-preserved
loop-place-preserved c =
    let place = c.loop-place.place in
    let less = c.loop-place-test.true in
    let same : 0 + place ≡ place = omega arith in
    record {
      places = c.in_ok-push.ensures.items
          ∙ ap (λ (xs : List ℕ). xs ++ place ∷ []) c.loop-place.invariant.places
          ∙ sym (range_split 0 place 1 ∙ ap (λ (n : ℕ). range_with_len 0 place ++ n ∷ []) same);
      most = omega arith;
    }
