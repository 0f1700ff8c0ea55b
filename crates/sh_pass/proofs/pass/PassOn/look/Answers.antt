use Rattle.std.proofs.Common.{List, ℕ}
use Rattle.std.specs.Prelude.{Result}
use Rattle.std.proofs.lemmas.Result.{err_from_is_err_and}
use Rattle.sh_value.specs.declared.refusal.Refusal.{Refusal}
use Rattle.sh_pass.specs.Fetching.{FetchDoes}
use Rattle.sh_pass.proofs.Fetched.{value_filled}
use Rattle.sh_pass.proofs.pass.PassOn.look.Goals as goal

pub returns-in_err-look_into-clause-does : goal.returns-in_err-look_into-clause-does
returns-in_err-look_into-clause-does g c =
    let p = err_from_is_err_and c.from_residual.result c.from_residual.ensures.1 in
    rw (p.1, p.2) c.in_err-look_into.ensures.does.0

pub returns-clause-does : goal.returns-clause-does
returns-clause-does g c =
    let does : Result (List ℕ) Refusal → Type 0 = λ r. FetchDoes g.L.KeyLayout.layout c.args.key c.args.self.now r
    c.look_into.new.self in
    value_filled does c.from-value.result c.look_into.new.room c.in_ok-look_into.ensures.does
