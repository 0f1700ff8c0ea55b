-- What a slot and a handle of a pass end as, once the pass in them is no longer borrowed.
use Rattle.std.specs.Borrow.{Fml, Lends, MutBor}
use Rattle.std.specs.Prelude.{refl, true}
use Rattle.std.specs.declared.option.Option.TheVariants.{Some}
use Rattle.c_handles.specs.declared.held_pass.HeldPass.{HeldPass}
use Rattle.c_handles.specs.contracts.held_pass.HeldPass as member
use Rattle.c_handles.specs.declared.pass_handle.PassSlot.{PassSlot}
use Rattle.c_handles.specs.contracts.pass_handle.PassSlot as slot
use Rattle.c_handles.specs.declared.pass_handle.PassHandle.{PassHandle}
use Rattle.c_handles.specs.contracts.pass_handle.PassHandle as handle

-- the slot with this pass
abbrev pub with_pass : PassSlot → HeldPass → PassSlot
with_pass s m = record s { value = Some m }

-- s ends with the last value behind r
abbrev pub LendsPass : MutBor PassSlot → MutBor HeldPass → Fml
LendsPass s r = Lends slot.the_row member.the_row s r (with_pass s.now)

-- a full handle, with this pass in its slot
abbrev pub holding : PassHandle → HeldPass → PassHandle
holding h m = record { slot = with_pass h.slot m; full = true; told = refl }

-- h ends with the last value behind r
abbrev pub LendsHeld : MutBor PassHandle → MutBor HeldPass → Fml
LendsHeld h r = Lends handle.the_row member.the_row h r (holding h.now)
