use Rattle.std.proofs.Common.{◌≡◌, ◌≤◌, length, take, vec_len}
use Rattle.std.specs.Vec.{vec_capacity}
use Rattle.script_models.specs.PlainRun.{opening_run, run_of}
use Rattle.script_models.specs.Output.{Writes}
use Rattle.script_models.proofs.plain_output.plain_lines.Given as goal

abbrev pub invariant-loop-line : goal.invariant-loop-line
invariant-loop-line g l = record {
  written : Writes g.L.KeyLayout.layout (opening_run l.fn.shape.shards l.fn.shape.passes l.fn.tag)
      (take l.line-index l.lines)
      (run_of l.run.shards l.run.tag l.run.store l.run.owners l.run.keys.items) l.output.items;
  passes : l.run.store.passes ≡ l.fn.shape.passes;
  tag : l.run.tag ≡ l.fn.tag;
  names : vec_len l.run.keys ≤ l.line-index;
  capacity : length l.lines ≤ vec_capacity l.run.keys;
}
