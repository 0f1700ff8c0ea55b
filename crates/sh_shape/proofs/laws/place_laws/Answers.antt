use Rattle.sh_shape.proofs.PlaceLaws.{pages_differ, pages_have_shards, places_differ, places_are_words}
use Rattle.sh_shape.proofs.PlaceLaws.{words_have_places}
use Rattle.sh_shape.proofs.laws.place_laws.Goals as goal

pub returns-clause-pages_differ : goal.returns-clause-pages_differ
returns-clause-pages_differ c = pages_differ

pub returns-clause-pages_have_shards : goal.returns-clause-pages_have_shards
returns-clause-pages_have_shards c = pages_have_shards

pub returns-clause-differ : goal.returns-clause-differ
returns-clause-differ c = places_differ

pub returns-clause-words : goal.returns-clause-words
returns-clause-words c = places_are_words

pub returns-clause-covered : goal.returns-clause-covered
returns-clause-covered c = words_have_places
