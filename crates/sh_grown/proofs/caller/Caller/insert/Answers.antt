use Rattle.std.proofs.Common.{◌≡◌, Bool, false, length, subst, sym}
use Rattle.std.proofs.lemmas.Result.{err_from_is_err_and}
use Rattle.std.specs.Prelude.{Ok, Result}
use Rattle.sh_value.specs.declared.refusal.Refusal.{Refusal}
use Rattle.sh_grown.specs.declared.tried.Tried.{Tried}
use Rattle.sh_grown.specs.declared.tried.Tried.TheVariants.{Refused}
use Rattle.sh_grown.specs.Inserts.{OnRefused, OwnsNowhere, TriesInsert, tried_after}
use Rattle.sh_grown.proofs.Walked.{Comes, comes_after, err_comes, refused, returned}
use Rattle.sh_grown.proofs.Stepping.{both_in_all, open_in_all}
use Rattle.sh_grown.proofs.caller.Caller.insert.Goals as goal

pub returns-in_err-key-clause-steps : goal.returns-in_err-key-clause-steps
returns-in_err-key-clause-steps c =
    open_in_all (length c.args.value.now) c.args.self.now c.try_open.new.self c.try_open.ensures.steps

pub returns-in-Stored-clause-steps : goal.returns-in-Stored-clause-steps
returns-in-Stored-clause-steps c =
    open_in_all (length c.args.value.now) c.args.self.now c.try_open.new.self c.try_open.ensures.steps

pub returns-in_err-key-2-clause-steps : goal.returns-in_err-key-2-clause-steps
returns-in_err-key-2-clause-steps c =
    both_in_all (length c.args.value.now) c.args.self.now c.try_open.new.self c.try_all.new.self
    c.try_open.ensures.stays c.try_open.ensures.steps c.try_all.ensures.steps

pub returns-in-Stored-2-clause-steps : goal.returns-in-Stored-2-clause-steps
returns-in-Stored-2-clause-steps c =
    both_in_all (length c.args.value.now) c.args.self.now c.try_open.new.self c.try_all.new.self
    c.try_open.ensures.stays c.try_open.ensures.steps c.try_all.ensures.steps

pub returns-in-Refused-true-clause-steps : goal.returns-in-Refused-true-clause-steps
returns-in-Refused-true-clause-steps c =
    both_in_all (length c.args.value.now) c.args.self.now c.try_open.new.self c.try_all.new.self
    c.try_open.ensures.stays c.try_open.ensures.steps c.try_all.ensures.steps

pub returns-in-Refused-false-clause-steps : goal.returns-in-Refused-false-clause-steps
returns-in-Refused-false-clause-steps c =
    both_in_all (length c.args.value.now) c.args.self.now c.try_open.new.self c.try_all.new.self
    c.try_open.ensures.stays c.try_open.ensures.steps c.try_all.ensures.steps

pub returns-in_err-key-clause-inserts : goal.returns-in_err-key-clause-inserts
returns-in_err-key-clause-inserts c =
    let p = err_from_is_err_and c.from_residual.result c.from_residual.ensures.1 in
    rw (p.1, p.2) (err_comes (length c.args.self.now.growing.cells.items) c.args.value.now c.args.self.now.met.items
    c.try_open.new.self.met.items c.in_err-key.field-0.0 c.in_err-key.ensures.tries)

pub returns-in-Stored-clause-inserts : goal.returns-in-Stored-clause-inserts
returns-in-Stored-clause-inserts c = rw c.in-Stored.is at (c.in_ok-key.ensures.tries)

pub returns-in_err-key-2-clause-inserts : goal.returns-in_err-key-2-clause-inserts
returns-in_err-key-2-clause-inserts c =
    let value = c.args.value.now in
    let was = c.args.self.now in
    let chunks = length was.growing.cells.items in
    let old = was.met.items in
    let mid = c.try_open.new.self.met.items in
    let new = c.try_all.new.self.met.items in
    let owned = c.in-Refused.owned in
    let before : TriesInsert value old (Ok (Refused owned)) mid =
    rw c.in-Refused.is at (c.in_ok-key.ensures.tries) in
    let none : OnRefused (Ok (Refused owned)) (λ here. here ≡ false → OwnsNowhere chunks old) =
    rw c.in-Refused.is at (c.in_ok-key.ensures.none) in
    let p = err_from_is_err_and c.from_residual-in_err-key-2.result c.from_residual-in_err-key-2.ensures.1 in
    rw (p.1, p.2)
    (subst (λ (a : Result Tried Refusal). Comes chunks value old a new) (sym c.in_err-key-2.ensures)
    (comes_after owned was.growing c.try_open.new.self.growing value old mid new c.try_all.result
    c.try_open.ensures.stays.growing before none c.try_all.ensures.tries c.try_all.ensures.err
    c.try_all.ensures.refused))

-- the walk over all found no room
pub returns-in-Refused-true-clause-inserts : goal.returns-in-Refused-true-clause-inserts
returns-in-Refused-true-clause-inserts c =
    let value = c.args.value.now in
    let was = c.args.self.now in
    let chunks = length was.growing.cells.items in
    let old = was.met.items in
    let mid = c.try_open.new.self.met.items in
    let new = c.try_all.new.self.met.items in
    let owned = c.in-Refused.owned in
    let before : TriesInsert value old (Ok (Refused owned)) mid =
    rw c.in-Refused.is at (c.in_ok-key.ensures.tries) in
    let none : OnRefused (Ok (Refused owned)) (λ here. here ≡ false → OwnsNowhere chunks old) =
    rw c.in-Refused.is at (c.in_ok-key.ensures.none) in
    subst (λ (all : Bool). Comes chunks value old (Ok (Refused all)) new) c.in-Refused-true.field-0-test
    (refused (λ (a : Result Tried Refusal). Comes chunks value old a new) (tried_after owned c.try_all.result) _
    c.in-Refused-true.field-0 c.in_ok-key-2.ensures c.in-Refused-true.is
    (comes_after owned was.growing c.try_open.new.self.growing value old mid new c.try_all.result
    c.try_open.ensures.stays.growing before none c.try_all.ensures.tries c.try_all.ensures.err
    c.try_all.ensures.refused))

pub returns-in-Refused-false-clause-inserts : goal.returns-in-Refused-false-clause-inserts
returns-in-Refused-false-clause-inserts c =
    let value = c.args.value.now in
    let was = c.args.self.now in
    let chunks = length was.growing.cells.items in
    let old = was.met.items in
    let mid = c.try_open.new.self.met.items in
    let new = c.try_all.new.self.met.items in
    let owned = c.in-Refused.owned in
    let before : TriesInsert value old (Ok (Refused owned)) mid =
    rw c.in-Refused.is at (c.in_ok-key.ensures.tries) in
    let none : OnRefused (Ok (Refused owned)) (λ here. here ≡ false → OwnsNowhere chunks old) =
    rw c.in-Refused.is at (c.in_ok-key.ensures.none) in
    subst (λ (all : Bool). Comes chunks value old (Ok (Refused all)) new) c.in-Refused-false.field-0-test
    (refused (λ (a : Result Tried Refusal). Comes chunks value old a new) (tried_after owned c.try_all.result) _
    c.in-Refused-false.field-0 c.in_ok-key-2.ensures c.in-Refused-false.is
    (comes_after owned was.growing c.try_open.new.self.growing value old mid new c.try_all.result
    c.try_open.ensures.stays.growing before none c.try_all.ensures.tries c.try_all.ensures.err
    c.try_all.ensures.refused))

-- the walk over all stored it
pub returns-in-Stored-2-clause-inserts : goal.returns-in-Stored-2-clause-inserts
returns-in-Stored-2-clause-inserts c =
    let value = c.args.value.now in
    let was = c.args.self.now in
    let chunks = length was.growing.cells.items in
    let old = was.met.items in
    let mid = c.try_open.new.self.met.items in
    let new = c.try_all.new.self.met.items in
    let owned = c.in-Refused.owned in
    let before : TriesInsert value old (Ok (Refused owned)) mid =
    rw c.in-Refused.is at (c.in_ok-key.ensures.tries) in
    let none : OnRefused (Ok (Refused owned)) (λ here. here ≡ false → OwnsNowhere chunks old) =
    rw c.in-Refused.is at (c.in_ok-key.ensures.none) in
    subst (λ (tried : Tried). Comes chunks value old (Ok tried) new) c.in-Stored-2.is
    (returned (λ (a : Result Tried Refusal). Comes chunks value old a new) (tried_after owned c.try_all.result) _
    c.in_ok-key-2.ensures
    (comes_after owned was.growing c.try_open.new.self.growing value old mid new c.try_all.result
    c.try_open.ensures.stays.growing before none c.try_all.ensures.tries c.try_all.ensures.err
    c.try_all.ensures.refused))
