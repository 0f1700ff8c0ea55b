use Rattle.std.proofs.Common.{ap}
use Rattle.sh_queue.specs.Chain.{ChainNumbers}
use Rattle.sh_queue.proofs.Filings.{filing_shows_none}
use Rattle.sh_queue.proofs.filing.Filing.new.Goals as goal

pub returns-in-Ok-clause-ok : goal.returns-in-Ok-clause-ok
returns-in-Ok-clause-ok c = filing_shows_none c.in-Ok.chain.numbers c.args.opened c.args.unopened c.in-Ok.full.items
    (ap (λ (v : ChainNumbers). v.numbers) c.in-Ok.ensures.chain) c.in-Ok.ensures.notes
