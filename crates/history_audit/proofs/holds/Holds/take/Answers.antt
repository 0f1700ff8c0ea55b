use Rattle.std.proofs.Common.{◌-◌, Some, None, arith, rules}
use Rattle.std.specs.HashMap.{get}
use Rattle.history_audit.specs.Held.{same_place}
use Rattle.history_audit.proofs.HeldLemmas.{after_take}
use Rattle.history_audit.proofs.holds.Holds.take.Goals as goal

pub returns-in-Some : goal.returns-in-Some
returns-in-Some c =
    let h = c.get_mut.follows.holds (c.count-count.result - 1) in
    after_take (get same_place c.args.self.now.counts)
    (get same_place (c.get_mut.follows.lender (c.count-count.result - 1))) c.args.pass c.args.key
    (Some (c.count-count.result - 1)) (h.3 (search rules)).0 (omega arith)

pub returns-else-count-gt1 : goal.returns-else-count-gt1
returns-else-count-gt1 c =
    after_take (get same_place c.args.self.now.counts) (get same_place c.remove.new.self) c.args.pass c.args.key
    None c.remove.ensures.updates.0 (omega arith)
