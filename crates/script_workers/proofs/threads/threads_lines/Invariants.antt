use Rattle.std.proofs.Common.{map}
use Rattle.script_calls.specs.Finished.{heap_seen, terms_seen}
use Rattle.script_workers.proofs.threads.threads_lines.Given as goal

abbrev pub ghosts-played : goal.ghosts-played
ghosts-played g a = record {
  heap = heap_seen (map g.S.Side.seen a.sides.items);
  terms = terms_seen (map g.S.Side.seen a.sides.items);
  tag = a.tag;
  lines = a.lines.now;
}
