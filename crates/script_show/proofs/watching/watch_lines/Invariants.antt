use Rattle.script_output.specs.Keys.{HasTagRoom}
use Rattle.script_show.proofs.watching.watch_lines.Given as goal

abbrev pub invariant-loop-number : goal.invariant-loop-number
invariant-loop-number g l = HasTagRoom g.L.KeyLayout.layout l.session.tag
