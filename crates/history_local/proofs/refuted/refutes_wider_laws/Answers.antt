use Rattle.history_local.proofs.Counterexamples as lemmas
use Rattle.history_local.proofs.refuted.refutes_wider_laws.Goals as goal

pub returns-clause-interleaving : goal.returns-clause-interleaving
returns-clause-interleaving c = lemmas.an_interleaving_is_not_legal

pub returns-clause-renaming : goal.returns-clause-renaming
returns-clause-renaming c = lemmas.joined_keys_are_not_legal
