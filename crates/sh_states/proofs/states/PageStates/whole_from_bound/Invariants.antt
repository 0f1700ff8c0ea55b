use Rattle.sh_states.specs.States.{NoneWholeBelow}
use Rattle.sh_states.proofs.states.PageStates.whole_from_bound.Given as goal

abbrev pub invariant-loop-page : goal.invariant-loop-page
invariant-loop-page l = NoneWholeBelow l.page l.fn.self
