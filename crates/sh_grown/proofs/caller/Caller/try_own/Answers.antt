use Rattle.std.proofs.Common.{◌≡◌, ℕ, ◌+◌, ◌≤◌, None, arith, false, get_or, length, refl, subst, sym, true}
use Rattle.std.proofs.lemmas.Result.{err_from_is_err_and}
use Rattle.std.specs.Prelude.{Ok, Result, ltb}
use Rattle.sh_value.specs.declared.refusal.Refusal.{Refusal}
use Rattle.sh_grown.specs.declared.tried.Tried.{Tried}
use Rattle.sh_grown.specs.declared.tried.Tried.TheVariants.{Refused}
use Rattle.sh_grown.specs.Inserts.{OnRefused, OwnsNowhere, TriesInsert, tried_after}
use Rattle.sh_grown.specs.Steps.{steps_of}
use Rattle.sh_grown.proofs.Full.{left_then, none_left}
use Rattle.sh_grown.proofs.Keeping.{place_stays, stays_then, tries_after}
use Rattle.sh_grown.proofs.Walked.{nowhere_after, nowhere_else, refused, returned}
use Rattle.sh_grown.proofs.Stepping.{below_each, below_one, takes_none}
use Rattle.sh_grown.proofs.caller.Caller.try_own.Goals as goal

pub loop-number-init : goal.loop-number-init
loop-number-init c =
    let was = c.args.self.now in
    record {
      stays = record { growing = refl; number = refl };
      keeps = λ chunk. place_stays (get_or was.met.items chunk None);
      own = λ e. absurd (cc);
      leaves = none_left was.met.items;
      none = λ e chunk less. absurd (omega (arith, less));
      steps = takes_none (λ k. ltb k 0) (λ s. steps_of 1 0 0 (length c.args.value.now)) was;
    }

pub loop-number-preserved : goal.loop-number-preserved
loop-number-preserved c =
    let i = c.loop-number.invariant in
    let value = c.args.value.now in
    let old = c.args.self.now in
    let mid = c.loop-number.self in
    let new = c.try_in.new.self in
    let owned = c.loop-number.owned in
    let n = c.loop-number.number in
    let all = tried_after owned c.try_in.result in
    let tried : TriesInsert value old.met.items (Ok (Refused c.in-Refused.so_far)) new.met.items =
    refused (λ (a : Result Tried Refusal). TriesInsert value old.met.items a new.met.items) all c.in_ok-tried.tried
    c.in-Refused.so_far c.in_ok-tried.ensures c.in-Refused.is
    (tries_after value old.met.items mid.met.items new.met.items owned c.try_in.result i.keeps i.own
    c.try_in.ensures.tries) in
    record {
      stays = stays_then old mid new i.stays c.try_in.ensures.stays;
      keeps = tried.0;
      own = tried.1;
      leaves = left_then old.met.items mid.met.items new.met.items i.leaves c.try_in.ensures.leaves;
      none = refused
          (λ (a : Result Tried Refusal). OnRefused a (λ here. here ≡ false → OwnsNowhere (n + 1) old.met.items)) all
          c.in_ok-tried.tried c.in-Refused.so_far c.in_ok-tried.ensures c.in-Refused.is
          (nowhere_after owned n old.met.items mid.met.items c.try_in.result i.none i.leaves c.try_in.ensures.none);
      steps = below_one n (λ s. steps_of 1 0 0 (length value)) old mid new i.stays i.steps c.try_in.ensures.steps;
    }

pub returns-in_err-tried-clause-tries : goal.returns-in_err-tried-clause-tries
returns-in_err-tried-clause-tries c =
    let i = c.loop-number.invariant in
    let value = c.args.value.now in
    let old = c.args.self.now.met.items in
    let new = c.try_in.new.self.met.items in
    let p = err_from_is_err_and c.from_residual.result c.from_residual.ensures.1 in
    rw (p.1, p.2) (subst (λ (a : Result Tried Refusal). TriesInsert value old a new) (sym c.in_err-tried.ensures)
    (tries_after value old c.loop-number.self.met.items new c.loop-number.owned c.try_in.result i.keeps i.own
    c.try_in.ensures.tries))

-- one chunk more, which ended the search
pub returns-in_err-tried-clause-steps : goal.returns-in_err-tried-clause-steps
returns-in_err-tried-clause-steps c =
    let i = c.loop-number.invariant in
    let most : ℕ → ℕ → ℕ = λ s. steps_of 1 0 0 (length c.args.value.now) in
    let old = c.args.self.now in
    let mid = c.loop-number.self in
    let new = c.try_in.new.self in
    below_each (c.loop-number.number + 1) most old new
    (below_one c.loop-number.number most old mid new i.stays i.steps c.try_in.ensures.steps)

pub returns-in_default-clause-steps : goal.returns-in_default-clause-steps
returns-in_default-clause-steps c =
    let i = c.loop-number.invariant in
    let most : ℕ → ℕ → ℕ = λ s. steps_of 1 0 0 (length c.args.value.now) in
    let old = c.args.self.now in
    let mid = c.loop-number.self in
    let new = c.try_in.new.self in
    below_each (c.loop-number.number + 1) most old new
    (below_one c.loop-number.number most old mid new i.stays i.steps c.try_in.ensures.steps)

pub returns-clause-none : goal.returns-clause-none
returns-clause-none c =
    let old = c.args.self.now in
    let end = c.loop-number-test.false in
    let past : c.reach-number-end.result ≤ c.loop-number.number = omega (arith, end) in
    λ e. nowhere_else c.loop-number.number c.reach-number-end.result (length old.growing.cells.items) old.met.items
    (c.loop-number.invariant.none e) past c.reach-number-end.ensures.none

pub returns-clause-steps : goal.returns-clause-steps
returns-clause-steps c =
    below_each c.loop-number.number (λ s. steps_of 1 0 0 (length c.args.value.now)) c.args.self.now c.loop-number.self
    c.loop-number.invariant.steps
