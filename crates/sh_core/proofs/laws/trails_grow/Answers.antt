use Rattle.sh_core.proofs.Entries.{steps_make_entries}
use Rattle.sh_core.proofs.Replays.{steps_make_parts}
use Rattle.sh_core.proofs.Words.Steps.{trail_grows, others_trails_stay, skips_leave_trails}
use Rattle.sh_core.proofs.laws.trails_grow.Goals as goal

pub returns-clause-own : goal.returns-clause-own
returns-clause-own c = trail_grows

pub returns-clause-others : goal.returns-clause-others
returns-clause-others c = others_trails_stay

pub returns-clause-skipped : goal.returns-clause-skipped
returns-clause-skipped c = skips_leave_trails

pub returns-clause-parts : goal.returns-clause-parts
returns-clause-parts c = steps_make_parts

pub returns-clause-entries : goal.returns-clause-entries
returns-clause-entries c = steps_make_entries
