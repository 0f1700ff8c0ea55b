use Rattle.sh_gather.proofs.Walking.{notes_keep}
use Rattle.sh_gather.proofs.laws.notes_keep_histories.Goals as goal

pub returns : goal.returns
returns c = notes_keep
