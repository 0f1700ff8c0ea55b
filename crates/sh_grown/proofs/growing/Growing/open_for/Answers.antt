use Rattle.sh_grown.proofs.growing.Growing.open_for.Goals as goal

pub new_chunk-requires : goal.new_chunk-requires
new_chunk-requires c = c.in_ok-shape.ensures.roomy.fits

pub of_first-requires-clause-fits : goal.of_first-requires-clause-fits
of_first-requires-clause-fits c = c.in_ok-shape.ensures.roomy.fits
