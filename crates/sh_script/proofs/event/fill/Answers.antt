use Rattle.std.proofs.Common.{ℕ, List, [], length, map, ap, arith}
use Rattle.std.proofs.lemmas.List.{length-map}
use Rattle.sh_script.proofs.ArgumentLemmas.{numbers_count}
use Rattle.sh_script.proofs.event.fill.Goals as goal

pub unreachable-requires : goal.unreachable-requires
unreachable-requires c =
    let others = c.in-Some.others.now in
    let count = numbers_count (map (λ w. w.now) others) [] c.in_ok-words.words c.in_ok-words.ensures in
    let same = length-map others (λ w. w.now) in
    let seen = ap (λ (xs : List ℕ). length xs) c.as_slice.ensures in
    omega (arith, count, same, seen, c.in-Err.ensures.too_long.1, c.if-others-gt-WORDS_MAX.false)
