use Rattle.std.proofs.Common.{Err, subst}
use Rattle.std.specs.Prelude.{List, ℕ, Result}
use Rattle.std.proofs.lemmas.Result.{err_from_is_err_and}
use Rattle.sh_value.specs.declared.refusal.Refusal.{Refusal}
use Rattle.sh_typed.specs.Typed.{record_in}
use Rattle.sh_typed.proofs.Looked.{kind_of_look, look_refused, look_refused_there}
use Rattle.sh_typed.proofs.look.look_record.Goals as goal

pub returns-in_err-value-clause-leaves : goal.returns-in_err-value-clause-leaves
returns-in_err-value-clause-leaves g c =
    let p = err_from_is_err_and c.from_residual.result c.from_residual.ensures.1 in
    let o = g.S.Lookup.setting c.args.store.now in
    let book = g.S.Lookup.book c.args.store.now in
    let after = g.S.Lookup.book c.look.new.self in
    let kind = kind_of_look o _ c.args.key book after _ c.in_err-value.ensures.leaves
    (g.met.S.Lookup.lends c.args.store.now)
    (λ lends is. lends.looks_kind c.args.key c.look.new.self
    (subst (λ (r : Refusal). g.S.Lookup.looks c.args.store.now c.args.key (Err r) c.look.new.self) is
    c.in_err-value.ensures.exact)) in
    rw (p.1, p.2) (look_refused_there (record_in g.R.Record.KIND g.R.Record.record_of) o c.args.key book after _ kind
    c.in_err-value.ensures.leaves)

pub returns-in_err-value-clause-exact : goal.returns-in_err-value-clause-exact
returns-in_err-value-clause-exact g c =
    let p = err_from_is_err_and c.from_residual.result c.from_residual.ensures.1 in
    let o = g.S.Lookup.setting c.args.store.now in
    let book = g.S.Lookup.book c.args.store.now in
    let after = g.S.Lookup.book c.look.new.self in
    let does : Result (List ℕ) Refusal → Type 0 = λ answer. g.S.Lookup.looks c.args.store.now c.args.key answer
    c.look.new.self in
    let kind = kind_of_look o _ c.args.key book after _ c.in_err-value.ensures.leaves
    (g.met.S.Lookup.lends c.args.store.now)
    (λ lends is. lends.looks_kind c.args.key c.look.new.self (subst (λ (r : Refusal). does (Err r)) is
    c.in_err-value.ensures.exact)) in
    rw (p.1, p.2) (look_refused (record_in g.R.Record.KIND g.R.Record.record_of) does _ kind
    c.in_err-value.ensures.exact)
