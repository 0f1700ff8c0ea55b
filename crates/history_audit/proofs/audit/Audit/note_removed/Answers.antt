use Rattle.std.proofs.Common.{rules, Some, refl, sym}
use Rattle.history_audit.proofs.TakeLemmas.{takes_removed}
use Rattle.history_audit.proofs.audit.Audit.note_removed.Goals as goal

pub returns-in-Some-clause-ok : goal.returns-in-Some-clause-ok
returns-in-Some-clause-ok c = λ lines pass is allowed.
    let w = c.get_mut.follows.holds (record c.in-Some.note.now { removed = Some c.args.line }) in
    takes_removed c.args.self.now _ lines c.args.line is pass c.args.key c.in-Some.note.now allowed
    (sym c.in-Some.ensures.value)
    (record { same = record { passes = refl; guard_max = refl }; notes = (w.3 (search rules)).0 }) refl w.2
