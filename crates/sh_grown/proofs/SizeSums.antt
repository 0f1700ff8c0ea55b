-- Sizes with one chunk more.
use Rattle.std.proofs.Common.{◌≡◌, ℕ, suc, ◌+◌, ◌<◌, ◌≤◌, ◌⊎◌, arith, subst}
use Rattle.std.specs.Prelude.{◌*◌, ◌^◌}
use Rattle.sh_shape.specs.Places.{all_pages, page_words, words_of}
use Rattle.sh_shape.specs.Shape.{IsShape, Numbers}
use Rattle.sh_shape.proofs.PlaceLaws.{few_pages}
use Rattle.sh_grown.specs.declared.growing.Growing.{Growing}
use Rattle.sh_grown.specs.Sizes.{AddsSize, AreFew, Sizes, SizesBelow, size_with}

-- they stay within the limits
pub few_more : (shape : Numbers) (s : Sizes) → IsShape shape → words_of shape ≤ page_words * 2 ^ 24 + 2 ^ 22
    → s.chunks < 256 → AreFew s → AreFew (size_with shape s)
few_more shape s is words more few = record {
  chunks = omega (arith, more);
  pages = omega (arith, few.pages, few_pages shape is);
  words = omega (arith, few.words, words);
}

-- one chunk more was looked for
pub size_more : (growing : Growing) (k : ℕ) (s t : Sizes) → SizesBelow growing k s
    → (t ≡ s) ⊎ AddsSize growing k s t → SizesBelow growing (k + 1) t
size_more growing k s t below here =
    let is : suc k ≡ k + 1 = omega arith in subst (λ (z : ℕ). SizesBelow growing z t) is (s, below, here)
