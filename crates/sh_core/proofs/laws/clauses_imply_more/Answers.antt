use Rattle.sh_core.proofs.Clauses.Follows.{filled, reads, left_empty}
use Rattle.sh_core.proofs.Clauses.LinkFacts.{each_linked}
use Rattle.sh_core.proofs.laws.clauses_imply_more.Goals as goal

pub returns-clause-filled : goal.returns-clause-filled
returns-clause-filled c = filled

pub returns-clause-reads : goal.returns-clause-reads
returns-clause-reads c = reads

pub returns-clause-left : goal.returns-clause-left
returns-clause-left c = left_empty

pub returns-clause-links : goal.returns-clause-links
returns-clause-links c = each_linked
