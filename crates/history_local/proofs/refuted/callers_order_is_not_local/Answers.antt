use Rattle.history_local.proofs.Counterexamples as lemmas
use Rattle.history_local.proofs.refuted.callers_order_is_not_local.Goals as goal

pub returns : goal.returns
returns c = lemmas.callers_order_is_not_local
