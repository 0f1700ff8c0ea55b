use Rattle.sh_core.proofs.Words.Ready.{is_place}
use Rattle.sh_core.proofs.laws.plans_have_the_places_of_shapes.Goals as goal

pub returns : goal.returns
returns c = is_place
