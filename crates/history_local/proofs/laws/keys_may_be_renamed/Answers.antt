use Rattle.history_local.proofs.Renaming as lemmas
use Rattle.history_local.proofs.laws.keys_may_be_renamed.Goals as goal

pub returns : goal.returns
returns c = lemmas.keys_may_be_renamed
