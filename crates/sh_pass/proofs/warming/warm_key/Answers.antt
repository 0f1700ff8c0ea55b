use Rattle.sh_pass.proofs.NamedPlaces.{in_heap}
use Rattle.sh_pass.proofs.warming.warm_key.Goals as goal

pub warm-requires : goal.warm-requires
warm-requires g c = in_heap g.L.KeyLayout.layout _ c.in-Some.name _ c.place_of_key.ensures c.in-Some.is c.shape.ensures
