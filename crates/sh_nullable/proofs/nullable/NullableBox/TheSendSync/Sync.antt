-- It may be shared if its allocator may: a `&` to it holds a pointer and an allocator, and nothing of its value.
use denote.RattleType.{RattleType}
use denote.Builtin.{RawPtr}
use denote.Struct.Owning.{shape, to}
use denote.Param.Send.{IsSync, struct_sync, sendable}
use Rattle.core.specs.declared.alloc.Allocator.{Ghosts}
use Rattle.sh_nullable.specs.contracts.nullable.NullableBox.{the_row, the_type}

pointer_is_sync : IsSync RawPtr
pointer_is_sync = search sendable

pub sync : (T A : RattleType) (g : Ghosts A.Denot) → IsSync A → IsSync (the_row T A g)
sync T A g sa = let O = the_type T A g in
    record { shared = λ d b o κ. ((struct_sync (shape O) (pointer_is_sync, (sa, tt))).shared (to O d) b o κ, tt) }
