use Rattle.std.proofs.Common.{◌≡◌, ◌∙◌, ap, ap₂}
use Rattle.clap.specs.Words.{Rule, app_of, with_rule}
use Rattle.std.proofs.lemmas.Result.{IfOk-weaker}
use Rattle.script_program.specs.Options.{mode_rule, program_app}
use Rattle.script_program.proofs.ArgumentLemmas.{is_local}
use Rattle.script_program.proofs.options.command.Goals as goal

pub returns : goal.returns
returns c =
    let mode = c.mode_argument in
    let accounts = c.accounts_argument in
    let with_mode : app_of c.in_ok-arg.field-0 ≡ with_rule program_app (mode_rule c.args.modes) =
    c.in_ok-arg.ensures.shape (is_local mode.result (ap (λ (r : Rule). r.is_simple) mode.ensures))
    ∙ ap₂ with_rule c.program.ensures mode.ensures in
    IfOk-weaker c.arg-2.result _ _ (λ x added. added.shape
    (is_local accounts.result (ap (λ (r : Rule). r.is_simple) accounts.ensures))
    ∙ ap₂ with_rule with_mode accounts.ensures) c.arg-2.ensures
