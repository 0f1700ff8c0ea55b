use Rattle.history_local.proofs.Groups as lemmas
use Rattle.history_local.proofs.laws.groups_are_legal.Goals as goal

pub returns : goal.returns
returns c = lemmas.groups_are_legal
