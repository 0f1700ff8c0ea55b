use Rattle.std.proofs.Common.{Err, inr, subst, sym}
use Rattle.sh_value.specs.declared.refusal.Refusal.{Refusal}
use Rattle.sh_typed.specs.Typed.{record_in}
use Rattle.sh_typed.proofs.Given.{for_memory_there, refused_there}
use Rattle.sh_typed.proofs.fetch.fetch_record.Goals as goal

pub returns-in-Err-clause-leaves : goal.returns-in-Err-clause-leaves
returns-in-Err-clause-leaves g c =
    refused_there (record_in g.R.Record.KIND g.R.Record.record_of) (g.S.Lookup.setting c.args.store.now)
    (g.S.Lookup.setting c.fetch.new.store) c.args.key c.in_ok-hold.hold c.in_ok-hold.value
    (g.S.Lookup.book c.args.store.now) (g.S.Lookup.book c.fetch.new.store) (g.S.Lookup.book c.release.new.self)
    c.in-Err.refusal c.in_ok-hold.ensures.same c.in_ok-hold.ensures.leaves (sym c.in-None.ensures)
    c.in-Err.ensures.leaves

pub returns-in-Err-clause-exact : goal.returns-in-Err-clause-exact
returns-in-Err-clause-exact g c =
    let fetched = c.in_ok-hold.ensures.exact in
    let for_memory =
    for_memory_there (g.S.Lookup.setting c.args.store.now) (g.S.Lookup.setting c.fetch.new.store) _ c.args.key
    c.in_ok-hold.hold c.in_ok-hold.value (g.S.Lookup.book c.args.store.now) (g.S.Lookup.book c.fetch.new.store)
    (g.S.Lookup.book c.release.new.self) c.in-Err.refusal c.in_ok-hold.ensures.same c.in_ok-hold.ensures.leaves
    c.in-Err.ensures.leaves (g.met.S.Lookup.lends c.args.store.now)
    (λ lends. lends.releases_got c.args.key c.in_ok-hold.hold c.in_ok-hold.value fetched.0 c.fetch.new.store
    c.release.new.self c.in-Err.refusal fetched.1 fetched.2 c.in-Err.ensures.exact) in
    let P : Refusal → Type 0 = λ r. g.S.Lookup.releases c.fetch.new.store c.in_ok-hold.hold.key (Err r)
    c.release.new.self in
    rw for_memory (inr (record {
      hold = c.in_ok-hold.hold;
      value = c.in_ok-hold.value;
      held = c.fetch.new.store;
      fetched = fetched;
      none = sym c.in-None.ensures;
      released = subst P for_memory c.in-Err.ensures.exact;
    }))
