use Rattle.std.proofs.Common.{rules, ◌≡◌, ◌∙◌}
use Rattle.std.specs.Prelude.{count_by, ◌==◌}
use Rattle.sh_script.specs.declared.calls.CallLine.{CallLine}
use Rattle.script_workers.proofs.Works.{count_own}
use Rattle.script_workers.proofs.threads.own_lines.Goals as goal

pub returns : goal.returns
returns c =
    let counted : c.count.result ≡ count_by (λ (l : CallLine). l.pass == c.args.pass) c.args.lines.now = search rules in
    counted ∙ count_own c.args.pass c.args.lines.now
