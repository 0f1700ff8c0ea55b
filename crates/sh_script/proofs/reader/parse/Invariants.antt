use Rattle.std.proofs.Common.{◌≡◌, ◌+◌, ◌≤◌, length}
use Rattle.sh_script.specs.Script.{begin, pieces_of, read_from}
use Rattle.sh_script.proofs.reader.parse.Given as goal

abbrev pub invariant-loop-line : goal.invariant-loop-line
invariant-loop-line g l = record {
  told : read_from g.B.ScriptBody.adds l.read l.number (pieces_of l.rest)
      ≡ read_from g.B.ScriptBody.adds (begin l.fn.start) 1 (pieces_of l.fn.text);
  few : l.number + length l.rest ≤ length l.fn.text + 1;
}

abbrev pub decreases-loop-line : goal.decreases-loop-line
decreases-loop-line g l = length l.rest
