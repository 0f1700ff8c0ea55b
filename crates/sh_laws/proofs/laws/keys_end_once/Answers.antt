use Rattle.sh_laws.proofs.Ends.{ends_once, left_has_ended, ends_are_last}
use Rattle.sh_laws.proofs.laws.keys_end_once.Goals as goal

pub returns-clause-once : goal.returns-clause-once
returns-clause-once c = ends_once

pub returns-clause-quiet : goal.returns-clause-quiet
returns-clause-quiet c = left_has_ended

pub returns-clause-words : goal.returns-clause-words
returns-clause-words c = ends_are_last
