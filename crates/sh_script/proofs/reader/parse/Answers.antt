use Rattle.std.proofs.Common.{◌∙◌, arith}
use Rattle.std.proofs.lemmas.Result.{err_from_is_err_and}
use Rattle.sh_script.specs.Script.{script_of}
use Rattle.sh_script.proofs.Reading.{ends, goes_on, within}
use Rattle.sh_script.proofs.reader.parse.Goals as goal

pub returns-in_err-read_line : goal.returns-in_err-read_line
returns-in_err-read_line g c =
    let adds = g.B.ScriptBody.adds in
    let p = err_from_is_err_and c.from_residual.result c.from_residual.ensures.1 in
    rw (p.1, p.2) (ends adds c.in_err-read_line.field-0.0 _ c.loop-line.number c.in-Some.line.now c.loop-line.rest.now
    c.in-Some.more.now (script_of adds c.args.start c.args.text.now)
    c.in-Some.ensures.some c.in_err-read_line.ensures (c.loop-line.invariant.told
    ∙ within adds c.args.start _ c.if-text-gt-SCRIPT_BYTES_MAX.false))

pub loop-line-preserved : goal.loop-line-preserved
loop-line-preserved g c = record {
  told = goes_on g.B.ScriptBody.adds _ _ c.loop-line.number c.in-Some.line.now c.loop-line.rest.now c.in-Some.more.now _
      c.in-Some.ensures.some c.in_ok-read_line.ensures c.loop-line.invariant.told;
  few = omega (arith, c.in-Some.ensures.shorter);
}
