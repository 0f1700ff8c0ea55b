use Rattle.sh_pass.proofs.LiveWords.{live_by_one_test}
use Rattle.sh_pass.proofs.looking.is_live.Goals as goal

pub returns : goal.returns
returns c = rw (c.from.ensures, c.from-2.ensures) (live_by_one_test c.args.generation c.args.found)
