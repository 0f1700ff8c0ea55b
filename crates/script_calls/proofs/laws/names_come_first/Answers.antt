use Rattle.script_calls.proofs.GoneLaws.{named_is_removed, posted_is_removed}
use Rattle.script_calls.proofs.laws.names_come_first.Goals as goal

pub returns : goal.returns
returns c = record { named = named_is_removed; posted = posted_is_removed }
