use Rattle.std.proofs.Common.{◌≡◌, ◌+◌, arith, false, length}
use Rattle.std.specs.Prelude.{Ok}
use Rattle.sh_grown.specs.declared.tried.Tried.TheVariants.{Refused}
use Rattle.sh_grown.specs.Inserts.{OnRefused, OwnsNowhere, TriesInsert}
use Rattle.sh_grown.specs.Steps.{steps_of}
use Rattle.sh_grown.proofs.Keeping.{tries_after}
use Rattle.sh_grown.proofs.Walked.{nowhere_before}
use Rattle.sh_grown.proofs.Stepping.{calls_then, calls_within, each_more, each_then}
use Rattle.sh_grown.proofs.caller.Caller.try_open.Goals as goal

pub returns-in_err-own-clause-steps : goal.returns-in_err-own-clause-steps
returns-in_err-own-clause-steps c =
    let w = length c.args.value.now in
    each_more (λ s. steps_of 3 1 0 w) (λ s. steps_of (3 + s) (1 + s) s w) c.args.self.now c.try_owned_shards.new.self
    (λ s p. calls_within 3 (3 + s) 1 (1 + s) 0 s w p (omega arith) (omega arith) (omega arith))
    c.try_owned_shards.ensures.steps

pub returns-in_default-clause-steps : goal.returns-in_default-clause-steps
returns-in_default-clause-steps c =
    let w = length c.args.value.now in
    each_more (λ s. steps_of 3 1 0 w) (λ s. steps_of (3 + s) (1 + s) s w) c.args.self.now c.try_owned_shards.new.self
    (λ s p. calls_within 3 (3 + s) 1 (1 + s) 0 s w p (omega arith) (omega arith) (omega arith))
    c.try_owned_shards.ensures.steps

pub returns-clause-steps : goal.returns-clause-steps
returns-clause-steps c =
    let w = length c.args.value.now in
    each_then (λ s. steps_of 3 1 0 w) (λ s. steps_of s s s w) (λ s. steps_of (3 + s) (1 + s) s w) c.args.self.now
    c.try_owned_shards.new.self c.try_later.new.self
    (λ s p. calls_then 3 s (3 + s) 1 s (1 + s) 0 s s w p (omega arith) (omega arith) (omega arith))
    c.try_owned_shards.ensures.stays c.try_owned_shards.ensures.steps c.try_later.ensures.steps

pub returns-clause-tries : goal.returns-clause-tries
returns-clause-tries c =
    let value = c.args.value.now in
    let old = c.args.self.now.met.items in
    let mid = c.try_owned_shards.new.self.met.items in
    let own : TriesInsert value old (Ok (Refused c.in-Refused.owned)) mid =
    rw c.in-Refused.is at (c.in_ok-own.ensures.tries) in
    rw c.tried_after.ensures
    (tries_after value old mid c.try_later.new.self.met.items c.in-Refused.owned c.try_later.result own.0 own.1
    c.try_later.ensures.tries)

pub returns-clause-none : goal.returns-clause-none
returns-clause-none c =
    let was = c.args.self.now in
    let nowhere = OwnsNowhere (length was.growing.cells.items) was.met.items in
    let before : OnRefused (Ok (Refused c.in-Refused.owned)) (λ here. here ≡ false → nowhere) =
    rw c.in-Refused.is at (c.in_ok-own.ensures.none) in
    rw c.tried_after.ensures (nowhere_before nowhere c.in-Refused.owned c.try_later.result before)
