-- What is counted over a list of steps with one more step.
use Rattle.std.proofs.Common.{◌+◌, cond, [], ◌∷◌, ap, ◌∙◌, zero-add}
use Rattle.std.specs.Prelude.{count_by}
use Rattle.std.proofs.lemmas.List.Sums.{sum_by-append}
use Rattle.sh_step.specs.Collections.{if1}
use Rattle.sh_step.specs.Footsteps.{CountsGrow}

pub counts_grow : CountsGrow
counts_grow is_such trail t = sum_by-append (λ x. cond (is_such x) 1 0) trail (t ∷ [])
    ∙ ap (λ n. count_by is_such trail + n) (zero-add (if1 (is_such t)))
