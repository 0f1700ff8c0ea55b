use Rattle.std.proofs.Common.{◌∙◌, arith}
use Rattle.script_models.specs.PlainRun.{opening_run, run_of}
use Rattle.script_models.proofs.RunLemmas.{writes_more, from_ok}
use Rattle.script_models.proofs.plain_output.plain_lines.Goals as goal

pub loop-line-preserved : goal.loop-line-preserved
loop-line-preserved g c =
    let before = c.loop-line.run in
    let after = c.step.new.self in
    record {
      written = writes_more g.L.KeyLayout.layout (opening_run c.args.shape.shards c.args.shape.passes c.args.tag)
          (run_of before.shards before.tag before.store before.owners before.keys.items)
          (run_of after.shards after.tag after.store after.owners after.keys.items)
          c.args.lines.now c.loop-line.line-index c.line-item.result c.in_ok-answer.answer c.loop-line.output.items
          c.push_reply.new.out.items
          c.loop-line-test.true c.line-item.is c.loop-line.invariant.written c.in_ok-answer.ensures.steps
          (from_ok c.push_reply.result c.if-is_err.ensures.value c.push_reply.ensures.text);
      passes = c.step.ensures.passes ∙ c.loop-line.invariant.passes;
      tag = c.step.ensures.tag ∙ c.loop-line.invariant.tag;
      names = omega (arith, c.step.ensures.names, c.loop-line.invariant.names);
      capacity = omega (arith, c.step.ensures.capacity, c.loop-line.invariant.capacity);
    }
