use Rattle.std.proofs.Common.{arith, length}
use Rattle.sh_grown.specs.Steps.{steps_of}
use Rattle.sh_grown.proofs.Keeping.{tries_then}
use Rattle.sh_grown.proofs.Stepping.{one_then, one_within}
use Rattle.sh_grown.proofs.Walked.{move_refused_in, move_tries, owner_refused}
use Rattle.sh_grown.proofs.caller.Caller.try_shard.Goals as goal

-- ---- with a collect

pub returns-in-Ok-clause-tries : goal.returns-in-Ok-clause-tries
returns-in-Ok-clause-tries c =
    tries_then c.args.value.now c.args.self.now.met.items c.move_in.new.self.met.items
    c.try_collected.new.self.met.items c.try_collected.result c.move_in.ensures.keeps c.try_collected.ensures.tries

pub returns-in-Ok-clause-refused : goal.returns-in-Ok-clause-refused
returns-in-Ok-clause-refused c collects =
    owner_refused c.args.value.now c.args.chunk c.args.shard c.args.self.now.met.items c.move_in.new.self.met.items
    c.try_collected.new.self.met.items c.try_collected.result c.move_in.ensures.keeps c.in-Ok.ensures.owns
    c.try_collected.ensures.refused

pub returns-in-Ok-clause-steps : goal.returns-in-Ok-clause-steps
returns-in-Ok-clause-steps c =
    let words = length c.args.value.now in
    one_then c.args.chunk (λ s. steps_of 0 0 1 0) (λ s. steps_of 1 1 0 words) (λ s. steps_of 1 1 1 words)
    c.args.self.now c.move_in.new.self c.try_collected.new.self (λ s p. omega arith) c.move_in.ensures.stays
    c.move_in.ensures.steps c.try_collected.ensures.steps

-- ---- with no collect

pub returns-in-Ok-2-clause-tries : goal.returns-in-Ok-2-clause-tries
returns-in-Ok-2-clause-tries c =
    tries_then c.args.value.now c.args.self.now.met.items c.move_in.new.self.met.items c.try_in.new.self.met.items
    c.try_in.result c.move_in.ensures.keeps c.try_in.ensures.tries

pub returns-in-Ok-2-clause-refused : goal.returns-in-Ok-2-clause-refused
returns-in-Ok-2-clause-refused c collects = absurd (cc)

pub returns-in-Ok-2-clause-steps : goal.returns-in-Ok-2-clause-steps
returns-in-Ok-2-clause-steps c =
    let words = length c.args.value.now in
    one_then c.args.chunk (λ s. steps_of 0 0 1 0) (λ s. steps_of 1 0 0 words) (λ s. steps_of 1 1 1 words)
    c.args.self.now c.move_in.new.self c.try_in.new.self (λ s p. omega arith) c.move_in.ensures.stays
    c.move_in.ensures.steps c.try_in.ensures.steps

-- ---- refused

pub returns-in-Err-clause-tries : goal.returns-in-Err-clause-tries
returns-in-Err-clause-tries c =
    rw c.tried_by.ensures (move_tries c.args.value.now c.args.chunk c.args.shard c.args.self.now.met.items
    c.move_in.new.self.met.items c.in-Err.why c.move_in.ensures.keeps c.in-Err.ensures.refused)

pub returns-in-Err-clause-refused : goal.returns-in-Err-clause-refused
returns-in-Err-clause-refused c collects =
    rw c.tried_by.ensures (move_refused_in c.args.value.now c.args.chunk c.args.shard c.args.self.now.met.items
    c.move_in.new.self.met.items c.in-Err.why c.in-Err.ensures.refused)

pub returns-in-Err-clause-steps : goal.returns-in-Err-clause-steps
returns-in-Err-clause-steps c =
    let words = length c.args.value.now in
    one_within c.args.chunk (λ s. steps_of 0 0 1 0) (λ s. steps_of 1 1 1 words) c.args.self.now c.move_in.new.self
    (λ s p. omega arith) c.move_in.ensures.steps
