use Rattle.std.proofs.Common.{Ok, refl}
use Rattle.tool_calls.proofs.answers.take.Goals as goal

pub returns-in-Ok : goal.returns-in-Ok
returns-in-Ok c = (c.take_into.new.value, Ok c.in-Ok.field-0, c.in-Ok.ensures, refl)
