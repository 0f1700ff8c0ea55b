use Rattle.sh_typed.specs.Typed.{record_in}
use Rattle.sh_typed.proofs.Given.{given_back_there}
use Rattle.sh_typed.proofs.typed.Typed.get.Goals as goal

pub returns-clause-given : goal.returns-clause-given
returns-clause-given g c =
    given_back_there (record_in g.R.Record.KIND g.R.Record.record_of) (g.S.Lookup.setting c.args.self.now)
    (g.S.Lookup.setting c.fetch_record.new.store) c.args.key (g.S.Lookup.book c.args.self.now)
    (g.S.Lookup.book c.fetch_record.new.store) c.fetch_record.result
    (rw c.self.view_is at c.fetch_record.ensures.leaves) c.fetch_record.ensures.stands
    (rw c.self.view_is at c.fetch_record.ensures.same)
