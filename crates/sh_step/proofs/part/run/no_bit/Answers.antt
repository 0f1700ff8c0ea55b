use Rattle.std.proofs.Common.{sym}
use Rattle.sh_step.proofs.RunLaws.{empty_picked}
use Rattle.sh_step.proofs.part.run.no_bit.Goals as goal

pub returns : goal.returns
returns c = sym (empty_picked c.args.page c.args.first 64 c.args.bits c.ranges.bits.fits)
