use Rattle.std.proofs.Common.{◌∙◌, sym, ap}
use Rattle.std.specs.Prelude.{nat_lt}
use Rattle.history_timed.specs.declared.course.Course.{Course}
use Rattle.history_timed.proofs.IndexLemmas.{used_later, never_later}
use Rattle.history_timed.proofs.index.Index.is_used_later.Goals as goal

pub returns-in-Some : goal.returns-in-Some
returns-in-Some c =
    let course = c.of.ensures ∙ c.self.invariant.courses_are c.args.key in
    rw (← c.self.view_is) (c.is_used_after.ensures
    ∙ (ap (λ (k : Course). nat_lt c.in-Some.end k.last_use) course
    ∙ used_later c.args.key c.args.call.now c.self.inside.calls.now c.in-Some.end (sym c.end.ensures ∙ c.in-Some.is)))

pub returns-in-None : goal.returns-in-None
returns-in-None c =
    rw (← c.self.view_is) (never_later c.args.key c.args.call.now c.self.inside.calls.now (sym c.end.ensures
    ∙ c.in-None.is))
