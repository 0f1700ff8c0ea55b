use Rattle.std.proofs.lemmas.Result.{err_from_is_err_and}
use Rattle.script_output.proofs.FaultLemmas.{only_memory}
use Rattle.script_models.proofs.plain_output.plain_output.Goals as goal

pub returns-in_err-header-clause-answers : goal.returns-in_err-header-clause-answers
returns-in_err-header-clause-answers c = λ h.
    let p = err_from_is_err_and c.from_residual.result c.from_residual.ensures.1 in
    rw (p.1, p.2) (only_memory c.in_err-header.field-0.0 h.0 h.1 (c.in_err-header.ensures.only_calls h.0 h.1 h.2))
