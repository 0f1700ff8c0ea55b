use Rattle.sh_table.proofs.OrderLaws as orders
use Rattle.sh_table.proofs.laws.heard_comes_first.Goals as goal

pub returns-clause-first : goal.returns-clause-first
returns-clause-first c = orders.heard_first

pub returns-clause-gone : goal.returns-clause-gone
returns-clause-gone c = orders.gone_is_removed

pub returns-clause-got : goal.returns-clause-got
returns-clause-got c = orders.got_is_inserted

pub returns-clause-seen : goal.returns-clause-seen
returns-clause-seen c = orders.seen_is_inserted

pub returns-clause-removed : goal.returns-clause-removed
returns-clause-removed c = orders.removed_is_gone

pub returns-clause-taken : goal.returns-clause-taken
returns-clause-taken c = orders.nothing_later
