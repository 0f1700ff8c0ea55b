use Rattle.std.proofs.Common.{rules}
use Rattle.tool_rounds.proofs.round.work.Goals as goal

-- each type that a thread gets is Send or Sync by a bound of the function
pub for_each_chunk_mut-requires-clause-accepts : goal.for_each_chunk_mut-requires-clause-accepts
for_each_chunk_mut-requires-clause-accepts g c κs within start p chunk =
    (search rules, search rules, search rules, search rules, search rules, search rules, search rules)
