use Rattle.sh_laws.proofs.CutOff.{cut_off_is_bounded}
use Rattle.sh_laws.proofs.Garbage.{garbage_is_bounded}
use Rattle.sh_laws.proofs.laws.garbage_is_bounded.Goals as goal

pub returns-clause-few : goal.returns-clause-few
returns-clause-few c = garbage_is_bounded

pub returns-clause-cut_off : goal.returns-clause-cut_off
returns-clause-cut_off c = cut_off_is_bounded
