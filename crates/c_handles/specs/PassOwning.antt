-- What the slot of a pass's handle owns: the box of its value, or nothing.
use base.Fml.{Fml}
use base.Stored.{Coded}
use denote.RawPtr.{Ptr}
use Rattle.std.specs.Coded.{coded_option}
use Rattle.std.specs.declared.option.Option.{Option}
use Rattle.std.specs.Global.{Global}
use Rattle.std_heap.specs.contracts.GlobalAllocator.TheImpl.{ghosts}
use Rattle.c_handles.specs.contracts.held_pass.HeldPass.{the_row}
use Rattle.sh_nullable.specs.Owning.{nullable_owns}

abbrev pub pass_owns : Global → Ptr → Option the_row.Denot → Fml
pass_owns alloc = nullable_owns (ghosts.dealloc_token alloc) the_row

abbrev pub pass_coded : Coded (Option the_row.Denot)
pass_coded = coded_option the_row.coded
