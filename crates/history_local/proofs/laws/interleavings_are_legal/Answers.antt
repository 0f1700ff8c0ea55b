use Rattle.history_local.proofs.Interleavings as lemmas
use Rattle.history_local.proofs.laws.interleavings_are_legal.Goals as goal

pub returns : goal.returns
returns c = lemmas.interleavings_are_legal
