-- The class word of a page, as its owner sees it.
use Rattle.std.proofs.Common.{◌≡◌, ℕ, ◌<◌, Option, Some, None, refl, ap, ◌∙◌, sym, arith}
use Rattle.sh_pass.specs.Owners.{SeenPage}
use Rattle.sh_shard.specs.Pages.{seen_class}

pub word_of : (g : SeenPage) (word : ℕ) → g.class ≡ Some word → seen_class g ≡ word
word_of g word is = ap (λ (o : Option ℕ). elim o as (λ _. ℕ) [ Some m ↦ m | None ↦ 0 ]) is

-- a page with a class word above 0 has this class word
pub classed_is : (g : SeenPage) → 0 < seen_class g → g.class ≡ Some (seen_class g)
classed_is g some = go g.class refl some where
  go : (o : Option ℕ) → g.class ≡ o → 0 < seen_class g → g.class ≡ Some (seen_class g)
  go None is l = let e : seen_class g ≡ 0 = ap (λ (o : Option ℕ). elim o as (λ _. ℕ) [ Some m ↦ m | None ↦ 0 ]) is
      in absurd (omega arith)
  go (Some m) is l = is ∙ ap (λ z. Some z) (sym (word_of g m is))
