use Rattle.std.proofs.Common.{◌≤◌, ◌-◌, vec_len}
use Rattle.std.specs.Io.KnownBytes.{Consumes}
use Rattle.script_output.proofs.ends.read_text.Given as goal

abbrev pub invariant-loop-text : goal.invariant-loop-text
invariant-loop-text g l = record {
  taken : Consumes (g.R.Read.remaining l.fn.reader) (g.R.Read.remaining l.reader) l.text.items;
  within : vec_len l.text ≤ 1048577;
}

abbrev pub decreases-loop-text : goal.decreases-loop-text
decreases-loop-text g l = 1048577 - vec_len l.text
