-- What a pointer that may be null owns.
use Rattle.std.specs.Prelude.{Bool, true, false}
use Rattle.std.specs.declared.option.Option.{Option}
use Rattle.std.specs.declared.option.Option.TheVariants.{None, Some}
use mir.Syntax.{Ty}
use base.Fml.{Fml, ftrue}
use denote.RattleType.{RattleType}
use denote.RawPtr.{Ptr}
use Rattle.std.specs.Box.Ownership.{box_owns}

-- nothing, or the value at p with the right to free its block
abbrev pub nullable_owns : (Ty → Ptr → Fml) → (R : RattleType) → Ptr → Option R.Denot → Fml
nullable_owns holds R p None = ftrue
nullable_owns holds R p (Some x) = box_owns holds R p x

-- whether there is a value
abbrev pub has_value : {T : Type 0} → Option T → Bool
has_value None = false
has_value (Some x) = true
