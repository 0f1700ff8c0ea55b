use Rattle.sh_key.proofs.Packing.{unpacked-packed, unpacked_is, packed_fits, keys_are_consecutive}
use Rattle.sh_key.proofs.laws.packing_laws.Goals as goal

pub returns-clause-returns : goal.returns-clause-returns
returns-clause-returns g c = unpacked-packed g.L.KeyLayout.layout

pub returns-clause-only : goal.returns-clause-only
returns-clause-only g c = unpacked_is g.L.KeyLayout.layout

pub returns-clause-fits : goal.returns-clause-fits
returns-clause-fits g c = packed_fits g.L.KeyLayout.layout g.L.KeyLayout.numbers.lawful

pub returns-clause-consecutive : goal.returns-clause-consecutive
returns-clause-consecutive g c = keys_are_consecutive g.L.KeyLayout.layout
