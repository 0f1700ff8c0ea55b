use Rattle.std.proofs.Common.{◌∙◌, sym, ap, rules}
use Rattle.std.specs.Prelude.{nat_lt}
use Rattle.history_timed.specs.declared.course.Course.{Course}
use Rattle.history_timed.proofs.IndexLemmas.{found_before, is_found, none_first}
use Rattle.history_timed.proofs.index.Index.earlier_find.Goals as goal

pub returns-then-not-is_found_before : goal.returns-then-not-is_found_before
returns-then-not-is_found_before c =
    let calls = c.self.inside.calls.now in
    let begin = c.args.call.now.times.begin in
    let course = c.of.ensures ∙ c.self.invariant.courses_are c.args.key in
    let told = c.is_found_before.ensures
    ∙ (ap (λ (n : _). nat_lt c.of.result.first_end n) c.begin.ensures
    ∙ (ap (λ (k : Course). nat_lt k.first_end begin) course ∙ is_found c.args.key begin (search rules) calls)) in
    rw (← c.self.view_is) (sym (none_first (found_before c.args.key begin) calls
    (sym told ∙ c.if-not-is_found_before.true)))
