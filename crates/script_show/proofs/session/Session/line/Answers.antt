use Rattle.std.proofs.Common.{sym, subst, inl, inr, Option, Some, ◌++◌}
use Rattle.std.proofs.lemmas.Result.{err_from_is_err_and}
use Rattle.sh_step.specs.declared.action.Event.{Event}
use Rattle.sh_script.specs.declared.fault.Fault.{Fault}
use Rattle.script_show.specs.Sessions.{SaysLast, RefusesLine}
use Rattle.script_show.proofs.session.Session.line.Goals as goal

pub returns-in_err-tell-in-Some-clause-refused : goal.returns-in_err-tell-in-Some-clause-refused
returns-in_err-tell-in-Some-clause-refused g c =
    let told = c.from_residual-in_err-tell-in-Some in
    let p = err_from_is_err_and told.result told.ensures.1 in
    let text = c.args.self.now.opening.items ++ c.args.line.now in
    let P : Fault → Type 0 = λ f. RefusesLine g.L.KeyLayout.layout c.args.self.now.tag text c.args.self.now.world
    c.tell.new.self.world f in
    let Q : Option Event → Type 0 = λ e. SaysLast text e in
    let says = subst Q c.in-Some.is c.in_ok-event.ensures.says in
    rw (p.1, p.2) (subst P (sym c.in_err-tell-in-Some.ensures.memory)
    (elim c.in_err-tell-in-Some.ensures.either [
      | inl same ↦ inl same
      | inr x ↦ inr (x.0, record { said = Some c.in-Some.event; says = says; does = x.1 })
    ]))
