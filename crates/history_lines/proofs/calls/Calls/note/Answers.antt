use Rattle.history_lines.proofs.CallsLemmas.{has_more}
use Rattle.history_lines.proofs.calls.Calls.note.Goals as goal

pub returns : goal.returns
returns c = λ calls has same.
    has_more c.args.self.now (record { all = c.push.new.self; last = c.insert.new.self }) calls c.args.call c.args.pass
    has
    same c.in_ok-push.ensures.items (λ q. c.in_ok-insert.ensures.updates.0 q)
