-- It can be sent to another thread if its value and its allocator can: no part of what it owns is bound to a thread.
use mir.Raw.{raw}
use base.Shift.{Keyless}
use denote.RattleType.{RattleType}
use denote.Memory.{lone}
use denote.RawPtr.{Ptr}
use denote.Builtin.{RawPtr}
use denote.Struct.Struct.{exits_of}
use denote.Struct.Owning.{shape, fields, to}
use denote.Param.Send.{IsSend, Frees, owning_send, struct_send, sendable}
use Rattle.core.specs.declared.alloc.Allocator.{Ghosts}
use Rattle.core.specs.declared.option.Option.{Option}
use Rattle.core.specs.declared.option.Option.TheVariants.{None, Some}
use Rattle.std_alloc.proofs.SendSync.{quiet, lies}
use Rattle.sh_nullable.specs.Owning.{nullable_owns}
use Rattle.sh_nullable.specs.contracts.nullable.NullableBox.{the_row, the_type}

pointer_is_send : IsSend RawPtr
pointer_is_send = search sendable

module _ (T A : RattleType) (g : Ghosts A.Denot) (s : IsSend T) (f : Frees g g.dealloc_token) where
  owned : (a : A.Denot) (p : Ptr) (o : Option T.Denot) → Keyless (nullable_owns (g.dealloc_token a) T p o)
  owned a p None = tt
  owned a p (Some x) = (lies T s p x, f.frees a (raw (lone T.mir)) p)

pub send : (T A : RattleType) (g : Ghosts A.Denot) → IsSend T → IsSend A → Frees g g.dealloc_token
    → IsSend (the_row T A g)
send T A g s sa f = let O = the_type T A g in
    owning_send O (pointer_is_send, (sa, tt)) (λ d. owned T A g s f d.alloc d.at d.value)
    (λ k. quiet (to O) (exits_of k (fields O)) ((struct_send (shape O) (pointer_is_send, (sa, tt))).leaving k))
