use Rattle.sh_laws.proofs.Objects.{opens_as_empty, object_is_atomic, held_values_stay}
use Rattle.sh_laws.proofs.laws.whole_object_is_atomic.Goals as goal

pub returns-clause-opens : goal.returns-clause-opens
returns-clause-opens c = opens_as_empty

pub returns-clause-events : goal.returns-clause-events
returns-clause-events c = object_is_atomic

pub returns-clause-held : goal.returns-clause-held
returns-clause-held c = held_values_stay
