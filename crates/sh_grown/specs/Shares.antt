-- What a share of a growing heap is, to a contract: the growing heap.
use base.Stored.{Coded}
use Rattle.sh_grown.specs.contracts.growing.Growing.{the_row}

-- its code is that of the growing heap
abbrev pub growing_coded : Coded the_row.Denot
growing_coded = the_row.coded
