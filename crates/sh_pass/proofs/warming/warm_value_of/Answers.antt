use Rattle.sh_pass.proofs.NamedPlaces.{in_heap}
use Rattle.sh_pass.proofs.warming.warm_value_of.Goals as goal

pub warm-requires : goal.warm-requires
warm-requires g c = in_heap g.L.KeyLayout.layout _ c.in-Some.name _ c.place_of_key.ensures c.in-Some.is c.shape.ensures

pub warm-requires-in-Some : goal.warm-requires-in-Some
warm-requires-in-Some g c =
    let it = in_heap g.L.KeyLayout.layout _ c.in-Some.name _ c.place_of_key.ensures c.in-Some.is c.shape.ensures in it.0

pub warm-requires-in-Some-2 : goal.warm-requires-in-Some-2
warm-requires-in-Some-2 g c =
    in_heap g.L.KeyLayout.layout _ c.in-Some.name _ c.place_of_key.ensures c.in-Some.is c.shape.ensures

pub warm-requires-in-Some-3 : goal.warm-requires-in-Some-3
warm-requires-in-Some-3 g c =
    in_heap g.L.KeyLayout.layout _ c.in-Some.name _ c.place_of_key.ensures c.in-Some.is c.shape.ensures
