use Rattle.sh_key.specs.Layouts.{tagged}
use Rattle.sh_key.proofs.Packing.{keys_are_consecutive}
use Rattle.sh_key.proofs.laws.tagged_keys_fit.Goals as goal

pub returns : goal.returns
returns c = λ k some. ((keys_are_consecutive tagged k).0 some).1
