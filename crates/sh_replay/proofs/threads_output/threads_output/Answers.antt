use Rattle.std.proofs.lemmas.Result.{err_from_is_err_and}
use Rattle.sh_script.specs.declared.header.Layout.TheVariants as layout
use Rattle.script_output.proofs.HeaderShapes.{calls_fit_named}
use Rattle.script_output.proofs.FaultLemmas.{only_memory}
use Rattle.sh_replay.proofs.threads_output.threads_output.Goals as goal

pub returns-in_err-header-clause-answers : goal.returns-in_err-header-clause-answers
returns-in_err-header-clause-answers g c = λ h.
    let p = err_from_is_err_and c.from_residual.result c.from_residual.ensures.1 in
    rw (p.1, p.2) (only_memory c.in_err-header.field-0.0 h.0 h.1 (c.in_err-header.ensures.only_calls h.0 h.1 h.2))

pub heap_lines-requires-clause-fits : goal.heap_lines-requires-clause-fits
heap_lines-requires-clause-fits g c κs within = calls_fit_named c.args.text.now c.in_ok-header.field-0.header
    c.in_ok-header.field-0.lines.items layout.Tiny c.in_ok-header.ensures.calls c.in-Tiny.is

pub heap_lines-requires-in-Wide-clause-fits : goal.heap_lines-requires-in-Wide-clause-fits
heap_lines-requires-in-Wide-clause-fits g c κs within = calls_fit_named c.args.text.now c.in_ok-header.field-0.header
    c.in_ok-header.field-0.lines.items layout.Wide c.in_ok-header.ensures.calls c.in-Wide.is

pub heap_lines-requires-in-Tagged-clause-fits : goal.heap_lines-requires-in-Tagged-clause-fits
heap_lines-requires-in-Tagged-clause-fits g c κs within = calls_fit_named c.args.text.now c.in_ok-header.field-0.header
    c.in_ok-header.field-0.lines.items layout.Tagged c.in_ok-header.ensures.calls c.in-Tagged.is
