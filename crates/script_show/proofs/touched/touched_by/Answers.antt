use Rattle.std.proofs.Common.{◌∙◌, sym, ap}
use Rattle.std.specs.Prelude.{is_none}
use Rattle.sh_step.proofs.MoveLaws.{row_of_made}
use Rattle.script_show.proofs.touched.touched_by.Goals as goal

pub returns-in-Some : goal.returns-in-Some
returns-in-Some g c = c.by_move.ensures ∙ sym (ap is_none (row_of_made _ _ _ _ c.in-Some.ensures))

pub returns-in-None : goal.returns-in-None
returns-in-None g c = sym (ap is_none (row_of_made _ _ _ _ c.in-None.ensures))
