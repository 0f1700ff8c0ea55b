use Rattle.sh_core.proofs.Words.Operating.{fits_room}
use Rattle.sh_core.proofs.laws.counts_leave_room.Goals as goal

pub returns : goal.returns
returns c = fits_room
