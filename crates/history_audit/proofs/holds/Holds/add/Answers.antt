use Rattle.std.proofs.Common.{Some, arith}
use Rattle.std.specs.HashMap.{get}
use Rattle.history_audit.specs.Held.{same_place}
use Rattle.history_audit.proofs.HeldLemmas.{after_add}
use Rattle.history_audit.proofs.holds.Holds.add.Goals as goal

pub returns-clause-ok : goal.returns-clause-ok
returns-clause-ok c =
    after_add (get same_place c.args.self.now.counts) (get same_place c.insert.new.self) c.args.pass c.args.key
    (Some c.in-Some.count) c.in_ok-insert.ensures.updates.0 (omega (arith, c.in-Some.ensures))
