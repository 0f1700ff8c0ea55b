use Rattle.std.proofs.Common.{rules, Some}
use Rattle.sh_grown.proofs.caller.Caller.remove_one.Goals as goal

pub returns-then-predicate-clause-does : goal.returns-then-predicate-clause-does
returns-then-predicate-clause-does g c = (
  Some c.remove.result,
  c.is_ok.ensures.value,
  (search rules, (c.remove.ensures.does, c.remove.ensures.stays)),
)
