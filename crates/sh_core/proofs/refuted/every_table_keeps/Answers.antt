use Rattle.sh_core.proofs.Examples.EveryTable.{each_has_its_part, entries_are_ours}
use Rattle.sh_core.proofs.refuted.every_table_keeps.Goals as goal

pub returns-clause-entries : goal.returns-clause-entries
returns-clause-entries c = entries_are_ours

pub returns-clause-passes : goal.returns-clause-passes
returns-clause-passes c = each_has_its_part
