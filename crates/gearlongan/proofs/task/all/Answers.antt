use Rattle.std.proofs.Common.{rules, arith, ◌≡◌, vec_len, sym, ◌∙◌}
use Rattle.gearlongan.proofs.Giving.{giving, if_ok}
use Rattle.gearlongan.proofs.task.all.Goals as goal

pub returns : goal.returns
returns g c = if_ok {P = λ v. vec_len v ≡ vec_len c.args.tasks} c.map_vec.result
    (λ v len each. let x = v.ok.0 in let y = c.args.tasks.ok.0 in
    giving g.T.Task.gives c.args.tasks.items v.items (omega arith)
    (λ i d l. let j = (each i d l).1 in (j.job, j.job_is, j.call.met))) c.map_vec.ensures.len c.map_vec.ensures.each
