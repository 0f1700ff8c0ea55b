use Rattle.history_local.proofs.Groups as lemmas
use Rattle.history_local.proofs.laws.one_history_of_all.Goals as goal

pub returns : goal.returns
returns c = lemmas.one_history_of_all
