use Rattle.std.proofs.Common.{rules}
use Rattle.sh_grown.proofs.Shapes.{shape_fits}
use Rattle.sh_grown.proofs.chunk_shapes.chunk_shape.Goals as goal

pub returns-clause-fits : goal.returns-clause-fits
returns-clause-fits c = shape_fits _ c.args.number c.args.passes (search rules)
