-- The words of a value, one by one.
use Rattle.std.proofs.Common.{◌≡◌, ◌∙◌, ap, ℕ, ◌+◌, ◌<◌, ◌≤◌, inl, inr, List, length, slice_index, slice_set, arith}
use Rattle.std.proofs.Common.{sym}
use Rattle.std.proofs.lemmas.List.{get_or-set_other}
use Rattle.std.proofs.lemmas.Grind.{get_or-set_at}
use Rattle.std.proofs.lemmas.Bool.Decides.{nat_tests}
use Rattle.std.proofs.Math.Nat.{eq-or-lt_of_le}
use Rattle.tool_judge.specs.Pattern.{mixed_word, pattern_word}

behind : (serial place : ℕ) → 0 < place → pattern_word serial place ≡ mixed_word serial place
behind serial place h = grind (arith, nat_tests)

-- the pattern after one more word is written
pub one_more_word : (serial place w : ℕ) (words : List ℕ) → 0 < place → place < length words
    → ((k : ℕ) → k < place → slice_index words k ≡ pattern_word serial k) → w ≡ mixed_word serial place
    → (k : ℕ) → k < place + 1 → slice_index (slice_set words place w) k ≡ pattern_word serial k
one_more_word serial place w words some within before is k below =
    let at_most : k ≤ place = omega arith in
    elim (eq-or-lt_of_le at_most) [
      | inl same ↦ get_or-set_at words place k w 0 same within ∙ is
          ∙ sym (behind serial place some) ∙ sym (at_same k place same)
      | inr less ↦ get_or-set_other words place k w 0 (omega arith) ∙ before k less
    ]
  where
    at_same : (k place : ℕ) → k ≡ place → pattern_word serial k ≡ pattern_word serial place
    at_same k place e = ap (pattern_word serial) e
