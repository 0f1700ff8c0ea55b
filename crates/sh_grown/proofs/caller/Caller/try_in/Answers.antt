use Rattle.sh_grown.proofs.Full.{insert_none, insert_refused, insert_tries}
use Rattle.sh_grown.proofs.caller.Caller.try_in.Goals as goal

pub returns-in-Err-clause-tries : goal.returns-in-Err-clause-tries
returns-in-Err-clause-tries c =
    rw c.tried_by.ensures (insert_tries c.args.value.now c.args.chunk c.args.self.now.met.items
    c.insert_in.new.self.met.items c.in-Err.why c.in-Err.ensures.keeps c.in-Err.ensures.inserts)

pub returns-in-Err-clause-refused : goal.returns-in-Err-clause-refused
returns-in-Err-clause-refused c =
    rw c.tried_by.ensures (insert_refused c.args.value.now c.args.chunk c.args.self.now.met.items
    c.insert_in.new.self.met.items c.in-Err.why c.in-Err.ensures.inserts)

pub returns-in-Err-clause-none : goal.returns-in-Err-clause-none
returns-in-Err-clause-none c =
    rw c.tried_by.ensures (insert_none c.args.value.now c.args.chunk c.args.self.now.met.items
    c.insert_in.new.self.met.items c.in-Err.why c.in-Err.ensures.inserts)

pub returns-in-Ok-clause-steps : goal.returns-in-Ok-clause-steps
returns-in-Ok-clause-steps c = c.insert_in.ensures.steps

pub returns-in-Err-clause-steps : goal.returns-in-Err-clause-steps
returns-in-Err-clause-steps c = c.insert_in.ensures.steps
