-- What is left of a key with one hold less.
use Rattle.std.proofs.Common.{◌≡◌, ℕ, ◌==◌, Bool, false, cond, ap}
use Rattle.sh_step.specs.declared.body.Body.{Body}
use Rattle.sh_step.specs.Collections.{has, without, off}
use Rattle.sh_step.specs.Rows.{freed}

-- what is left if there is another hold, and if there is none
freed_by : Body → ℕ → Bool → Body
freed_by p k other = record p {
  holds = without (λ j. j == k) p.holds;
  class_words = cond other p.class_words (off (λ x. x.0 == k) p.class_words);
  lengths = cond other p.lengths (off (λ x. x.0 == k) p.lengths);
  contents = cond other p.contents (off (λ x. x.0 == k) p.contents);
}

pub freed_last : (p : Body) (k : ℕ) → has (λ j. j == k) (without (λ j. j == k) p.holds) ≡ false
    → freed p k ≡ record p {
      holds = without (λ j. j == k) p.holds;
      class_words = off (λ x. x.0 == k) p.class_words;
      lengths = off
          (λ x. x.0 == k) p.lengths;
      contents = off (λ x. x.0 == k) p.contents;
    }
unfolding freed_by
freed_last p k last = ap (freed_by p k) last
