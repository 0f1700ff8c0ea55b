use Rattle.std.proofs.Common.{rules, arith, refl, sym}
use Rattle.history_audit.proofs.TakeLemmas.{takes_got}
use Rattle.history_audit.proofs.audit.Audit.note_got.Goals as goal

pub returns-in-Some-get_mut-clause-ok : goal.returns-in-Some-get_mut-clause-ok
returns-in-Some-get_mut-clause-ok c = λ lines line value is allowed.
    let w = c.get_mut.follows.holds (record c.in-Some-get_mut.note.now { got = c.in-Some-checked_add.got }) in
    takes_got c.args.self.now _ lines line is c.args.pass c.args.key value c.in-Some-get_mut.note.now
    c.in-Some-checked_add.got allowed (sym c.in-Some-get_mut.ensures.value)
    (rw (← c.in-Some.ensures.value) (omega (arith, c.in-Some-checked_add.ensures)))
    (record { same = record { passes = refl; guard_max = refl }; notes = (w.3 (search rules)).0 })
    c.in_ok-add.ensures.ok w.2
