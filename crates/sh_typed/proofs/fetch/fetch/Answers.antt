use Rattle.sh_typed.proofs.Fetched.{fetched_there, got_is_read}
use Rattle.sh_typed.proofs.fetch.fetch.Goals as goal

pub unreachable-requires : goal.unreachable-requires
unreachable-requires g c =
    got_is_read (g.S.Lookup.setting c.args.store.now) (g.S.Lookup.setting c.get.new.self) _ c.args.key
    c.in_ok-hold.hold (g.S.Lookup.book c.args.store.now) (g.S.Lookup.book c.get.new.self)
    (g.S.Lookup.book c.read.new.self) c.in-Err.field-0 c.in_ok-hold.ensures.same c.in_ok-hold.ensures.leaves
    c.in-Err.ensures.leaves (g.met.S.Lookup.lends c.args.store.now)
    (λ lends. lends.reads_got c.args.key c.in_ok-hold.hold c.get.new.self c.read.new.self c.in-Err.field-0
    c.in_ok-hold.ensures.exact c.in-Err.ensures.exact)

pub returns-clause-leaves : goal.returns-clause-leaves
returns-clause-leaves g c =
    fetched_there (g.S.Lookup.setting c.args.store.now) (g.S.Lookup.setting c.get.new.self) c.args.key
    c.in_ok-hold.hold (g.S.Lookup.book c.args.store.now) (g.S.Lookup.book c.get.new.self)
    (g.S.Lookup.book c.read.new.self) c.in-Ok.value c.in_ok-hold.ensures.same c.in_ok-hold.ensures.leaves
    c.in-Ok.ensures.leaves
