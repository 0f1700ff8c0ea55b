use Rattle.std.proofs.Common.{map}
use Rattle.script_calls.specs.Finished.{heap_seen, terms_seen}
use Rattle.script_calls.proofs.alone.alone_lines.Given as goal

abbrev pub ghost-lines_in_turn : goal.ghost-lines_in_turn
ghost-lines_in_turn g a = (heap_seen (map g.S.Side.seen a.sides.items), terms_seen (map g.S.Side.seen a.sides.items))
