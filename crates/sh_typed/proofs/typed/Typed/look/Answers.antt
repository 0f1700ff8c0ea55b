use Rattle.sh_typed.specs.Typed.{record_in}
use Rattle.sh_typed.proofs.Given.{seen_back_there}
use Rattle.sh_typed.proofs.typed.Typed.look.Goals as goal

pub returns-clause-given : goal.returns-clause-given
returns-clause-given g c =
    seen_back_there (record_in g.R.Record.KIND g.R.Record.record_of) (g.S.Lookup.setting c.args.self.now)
    (g.S.Lookup.setting c.look_record.new.store) c.args.key (g.S.Lookup.book c.args.self.now)
    (g.S.Lookup.book c.look_record.new.store) c.look_record.result
    (rw c.self.view_is at c.look_record.ensures.leaves) c.look_record.ensures.stands
    (rw c.self.view_is at c.look_record.ensures.same)
