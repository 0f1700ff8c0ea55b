-- How many passes a newly opened heap has.
use Rattle.std.proofs.Common.{◌≡◌, ℕ, ◌+◌, zero, suc, length, refl, ap, ◌∙◌, arith}
use Rattle.std.proofs.lemmas.List.{length-append}
use Rattle.sh_table.specs.Seats.{Heap}
use Rattle.sh_pass.specs.Passes.{newcomers}

pub newcomers_count : (heap : Heap) (n : ℕ) → length (newcomers heap n) ≡ n
newcomers_count heap zero = refl
newcomers_count heap (suc n) = let e : n + 1 ≡ suc n = omega arith in
    length-append (newcomers heap n) _ ∙ (ap (λ k. k + 1) (newcomers_count heap n) ∙ e)
