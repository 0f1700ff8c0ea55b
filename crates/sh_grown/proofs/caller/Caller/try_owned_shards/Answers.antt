use Rattle.std.proofs.Common.{◌≡◌, ℕ, arith, false, length, subst, sym}
use Rattle.std.proofs.lemmas.Result.{err_from_is_err_and}
use Rattle.std.specs.Prelude.{Ok, Result}
use Rattle.sh_value.specs.declared.refusal.Refusal.{Refusal}
use Rattle.sh_grown.specs.declared.tried.Tried.{Tried}
use Rattle.sh_grown.specs.declared.tried.Tried.TheVariants.{Refused}
use Rattle.sh_grown.specs.declared.growing.Growing.{Growing}
use Rattle.sh_grown.specs.Inserts.{OnRefused, OwnsNowhere, TriesInsert, tried_after}
use Rattle.sh_grown.specs.Steps.{steps_of}
use Rattle.sh_grown.proofs.Keeping.{stays_then, tries_after}
use Rattle.sh_grown.proofs.Walked.{nowhere_before, nowhere_here, refused}
use Rattle.sh_grown.proofs.Stepping.{each_then, one_each}
use Rattle.sh_grown.proofs.caller.Caller.try_owned_shards.Goals as goal

-- after the insert in front
pub returns-in_err-front-clause-steps : goal.returns-in_err-front-clause-steps
returns-in_err-front-clause-steps c =
    let w = length c.args.value.now in
    one_each c.args.self.now.front (λ s. steps_of 1 0 0 w) (λ s. steps_of 3 1 0 w) c.args.self.now c.try_in.new.self
    (λ s p. omega arith) c.try_in.ensures.steps

pub returns-in_default-clause-steps : goal.returns-in_default-clause-steps
returns-in_default-clause-steps c =
    let w = length c.args.value.now in
    one_each c.args.self.now.front (λ s. steps_of 1 0 0 w) (λ s. steps_of 3 1 0 w) c.args.self.now c.try_in.new.self
    (λ s p. omega arith) c.try_in.ensures.steps

-- after an insert in each chunk, besides
pub returns-in_err-own-clause-steps : goal.returns-in_err-own-clause-steps
returns-in_err-own-clause-steps c =
    let w = length c.args.value.now in
    let one : ℕ → ℕ → ℕ = λ s. steps_of 1 0 0 w in
    let was = c.args.self.now in
    let mid = c.try_in.new.self in
    each_then one one (λ s. steps_of 3 1 0 w) was mid c.try_own.new.self (λ s p. omega arith) c.try_in.ensures.stays
    (one_each was.front one one was mid (λ s p. omega arith) c.try_in.ensures.steps) c.try_own.ensures.steps

pub returns-in_default-own-clause-steps : goal.returns-in_default-own-clause-steps
returns-in_default-own-clause-steps c =
    let w = length c.args.value.now in
    let one : ℕ → ℕ → ℕ = λ s. steps_of 1 0 0 w in
    let was = c.args.self.now in
    let mid = c.try_in.new.self in
    each_then one one (λ s. steps_of 3 1 0 w) was mid c.try_own.new.self (λ s p. omega arith) c.try_in.ensures.stays
    (one_each was.front one one was mid (λ s p. omega arith) c.try_in.ensures.steps) c.try_own.ensures.steps

-- after a collect and one insert more
pub returns-clause-steps : goal.returns-clause-steps
returns-clause-steps c =
    let w = length c.args.value.now in
    let one : ℕ → ℕ → ℕ = λ s. steps_of 1 0 0 w in
    let two : ℕ → ℕ → ℕ = λ s. steps_of 2 0 0 w in
    let again : ℕ → ℕ → ℕ = λ s. steps_of 1 1 0 w in
    let was = c.args.self.now in
    let mid = c.try_in.new.self in
    let own = c.try_own.new.self in
    each_then two again (λ s. steps_of 3 1 0 w) was own c.try_collected.new.self (λ s p. omega arith)
    (stays_then was mid own c.try_in.ensures.stays c.try_own.ensures.stays)
    (each_then one one two was mid own (λ s p. omega arith) c.try_in.ensures.stays
    (one_each was.front one one was mid (λ s p. omega arith) c.try_in.ensures.steps) c.try_own.ensures.steps)
    (one_each own.front again again own c.try_collected.new.self (λ s p. omega arith) c.try_collected.ensures.steps)

-- what the tries came to
pub returns-in_err-own-clause-tries : goal.returns-in_err-own-clause-tries
returns-in_err-own-clause-tries c =
    let value = c.args.value.now in
    let old = c.args.self.now.met.items in
    let mid = c.try_in.new.self.met.items in
    let own = c.try_own.new.self.met.items in
    let front : TriesInsert value old (Ok (Refused c.in-Refused.first)) mid =
    rw c.in-Refused.is at (c.in_ok-front.ensures.tries) in
    let p = err_from_is_err_and c.from_residual-in_err-own.result c.from_residual-in_err-own.ensures.1 in
    rw (p.1, p.2) (subst (λ (a : Result Tried Refusal). TriesInsert value old a own) (sym c.in_err-own.ensures)
    (tries_after value old mid own c.in-Refused.first c.try_own.result front.0 front.1 c.try_own.ensures.tries))

pub returns-clause-tries : goal.returns-clause-tries
returns-clause-tries c =
    let value = c.args.value.now in
    let old = c.args.self.now.met.items in
    let mid = c.try_in.new.self.met.items in
    let own = c.try_own.new.self.met.items in
    let new = c.try_collected.new.self.met.items in
    let front : TriesInsert value old (Ok (Refused c.in-Refused.first)) mid =
    rw c.in-Refused.is at (c.in_ok-front.ensures.tries) in
    let tried : TriesInsert value old (Ok (Refused c.in-Refused-own.owned)) own =
    refused (λ (a : Result Tried Refusal). TriesInsert value old a own)
    (tried_after c.in-Refused.first c.try_own.result) c.in_ok-own.own c.in-Refused-own.owned c.in_ok-own.ensures
    c.in-Refused-own.is
    (tries_after value old mid own c.in-Refused.first c.try_own.result front.0 front.1 c.try_own.ensures.tries) in
    rw c.tried_after-2.ensures
    (tries_after value old own new c.in-Refused-own.owned c.try_collected.result tried.0 tried.1
    c.try_collected.ensures.tries)

pub returns-clause-none : goal.returns-clause-none
returns-clause-none c =
    let was = c.args.self.now in
    let chunks = length was.growing.cells.items in
    let old = was.met.items in
    let mid = c.try_in.new.self.met.items in
    let before : OnRefused (Ok (Refused c.in-Refused-own.owned)) (λ here. here ≡ false → OwnsNowhere chunks old) =
    refused (λ (a : Result Tried Refusal). OnRefused a (λ here. here ≡ false → OwnsNowhere chunks old))
    (tried_after c.in-Refused.first c.try_own.result) c.in_ok-own.own c.in-Refused-own.owned c.in_ok-own.ensures
    c.in-Refused-own.is
    (nowhere_here (OwnsNowhere chunks mid) (OwnsNowhere chunks old) c.in-Refused.first c.try_own.result
    (λ none chunk less. c.try_in.ensures.leaves chunk (none chunk less))
    (subst (λ (g : Growing). OnRefused c.try_own.result
    (λ here. here ≡ false → OwnsNowhere (length g.cells.items) mid)) c.try_in.ensures.stays.growing
    c.try_own.ensures.none)) in
    rw c.tried_after-2.ensures
    (nowhere_before (OwnsNowhere chunks old) c.in-Refused-own.owned c.try_collected.result before)
