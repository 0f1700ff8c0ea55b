use Rattle.sh_grown.proofs.Halves.{few_in_all, half_as_large}
use Rattle.sh_grown.proofs.laws.chunks_grow_by_half.Goals as goal

pub returns-clause-half : goal.returns-clause-half
returns-clause-half c = half_as_large

pub returns-clause-all : goal.returns-clause-all
returns-clause-all c = few_in_all
