use Rattle.history_local.proofs.Groups as lemmas
use Rattle.history_local.proofs.laws.legality_is_local.Goals as goal

pub returns : goal.returns
returns c = lemmas.legality_is_local
