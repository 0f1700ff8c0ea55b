use Rattle.std.proofs.Common.{[], None}
use Rattle.sh_key.specs.Layouts.{tiny}
use Rattle.script_calls.specs.Parts.{no_terms}
use Rattle.script_calls.specs.Running.{seen_of_member}
use Rattle.test_scripts.proofs.replay.workers.told_of.Given as goal

abbrev pub ghosts-told_once_closed : goal.ghosts-told_once_closed
ghosts-told_once_closed g a = record {
  heap = (seen_of_member tiny a.side).heap;
  terms = no_terms;
  tag = None;
  lines = [];
}
