use Rattle.sh_core.proofs.AtomicMap.{opens_empty, events_are_operations, states_tell}
use Rattle.sh_core.proofs.laws.words_are_an_atomic_map.Goals as goal

pub returns-clause-opens : goal.returns-clause-opens
returns-clause-opens c = opens_empty

pub returns-clause-events : goal.returns-clause-events
returns-clause-events c = events_are_operations

pub returns-clause-tells : goal.returns-clause-tells
returns-clause-tells c = states_tell
