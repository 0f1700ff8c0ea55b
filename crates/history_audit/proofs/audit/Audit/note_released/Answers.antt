use Rattle.std.proofs.Common.{rules, arith, refl, sym}
use Rattle.history_audit.proofs.TakeLemmas.{takes_released, no_holds}
use Rattle.history_audit.proofs.audit.Audit.note_released.Goals as goal

pub returns-in_default-clause-ok : goal.returns-in_default-clause-ok
returns-in_default-clause-ok c = λ lines line is allowed.
    absurd (no_holds c.args.self.now lines c.args.pass c.args.key is (search rules) allowed)

pub returns-in-Some-get_mut-clause-ok : goal.returns-in-Some-get_mut-clause-ok
returns-in-Some-get_mut-clause-ok c = λ lines line is allowed.
    let w = c.get_mut.follows.holds (record c.in-Some-get_mut.note.now { released = c.in-Some-checked_add.released }) in
    takes_released c.args.self.now _ lines line is c.args.pass c.args.key c.in-Some-get_mut.note.now
    c.in-Some-checked_add.released allowed (sym c.in-Some-get_mut.ensures.value)
    (rw (← c.in-Some.ensures.value) (omega (arith, c.in-Some-checked_add.ensures)))
    (record { same = record { passes = refl; guard_max = refl }; notes = (w.3 (search rules)).0 })
    c.take.ensures w.2
