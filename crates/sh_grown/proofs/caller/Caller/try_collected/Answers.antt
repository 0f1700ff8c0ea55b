use Rattle.std.proofs.Common.{◌∙◌, arith, false, length, sym}
use Rattle.sh_grown.specs.Steps.{steps_of}
use Rattle.sh_grown.proofs.Full.{collect_refused, collected_full}
use Rattle.sh_grown.proofs.Keeping.{tries_then}
use Rattle.sh_grown.proofs.Stepping.{one_then, one_within}
use Rattle.sh_grown.proofs.caller.Caller.try_collected.Goals as goal

pub returns-then-is_err-clause-refused : goal.returns-then-is_err-clause-refused
returns-then-is_err-clause-refused c =
    collect_refused false c.args.value.now c.args.chunk c.args.self.now.met.items c.collect_in.new.self.met.items
    c.collect_in.result (sym c.is_err.ensures.value ∙ c.if-is_err.true) c.collect_in.ensures.collects

pub returns-clause-refused : goal.returns-clause-refused
returns-clause-refused c =
    collected_full c.args.value.now c.args.chunk c.args.self.now.met.items c.collect_in.new.self.met.items
    c.try_in.new.self.met.items c.collect_in.result c.try_in.result c.collect_in.ensures.collects
    c.try_in.ensures.refused c.try_in.ensures.none

pub returns-then-is_err-clause-steps : goal.returns-then-is_err-clause-steps
returns-then-is_err-clause-steps c =
    let words = length c.args.value.now in
    one_within c.args.chunk (λ s. steps_of 0 1 0 0) (λ s. steps_of 1 1 0 words) c.args.self.now c.collect_in.new.self
    (λ s p. omega arith) c.collect_in.ensures.steps

pub returns-clause-steps : goal.returns-clause-steps
returns-clause-steps c =
    let words = length c.args.value.now in
    one_then c.args.chunk (λ s. steps_of 0 1 0 0) (λ s. steps_of 1 0 0 words) (λ s. steps_of 1 1 0 words)
    c.args.self.now c.collect_in.new.self c.try_in.new.self (λ s p. omega arith) c.collect_in.ensures.stays
    c.collect_in.ensures.steps c.try_in.ensures.steps

pub returns-then-is_err-clause-tries : goal.returns-then-is_err-clause-tries
returns-then-is_err-clause-tries c = (c.collect_in.ensures.keeps, λ own. absurd (cc))

pub returns-clause-tries : goal.returns-clause-tries
returns-clause-tries c =
    tries_then c.args.value.now c.args.self.now.met.items c.collect_in.new.self.met.items
    c.try_in.new.self.met.items c.try_in.result c.collect_in.ensures.keeps c.try_in.ensures.tries
