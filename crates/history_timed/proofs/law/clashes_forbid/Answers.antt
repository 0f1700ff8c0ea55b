use Rattle.history_timed.proofs.RefusalLemmas.{none_legal}
use Rattle.history_timed.proofs.law.clashes_forbid.Goals as goal

pub returns : goal.returns
returns c = λ passes guard_max calls call why by is clash order.
    none_legal passes guard_max calls call why by is clash order
