use Rattle.sh_grown.proofs.OneMap as lemmas
use Rattle.sh_grown.proofs.laws.bundles_have_one_map.Goals as goal

pub returns : goal.returns
returns c = lemmas.bundles_have_one_map
