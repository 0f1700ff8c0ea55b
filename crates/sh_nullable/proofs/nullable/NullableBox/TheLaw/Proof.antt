-- A borrow of it gives a `&` to it, since that holds nothing beside a `&` to its fields.
use denote.RattleType.{RattleType}
use denote.Param.Laws.{Laws, row_shared}
use denote.Param.Shared.{copy_shared}
use denote.SharingLaws.{nothing_shr_laws}
use denote.Struct.Field.{RawPtr-field}
use denote.Struct.Laws.{RawPtr-copy}
use denote.Struct.Lending.{of_Lends, Lends-nothing}
use Rattle.core.specs.declared.alloc.Allocator.{Ghosts}
use Rattle.sh_nullable.specs.contracts.nullable.NullableBox as C
use Rattle.sh_nullable.proofs.nullable.NullableBox.TheLaw.Statement.{statement}

pub shares : (T A : RattleType) (g : Ghosts A.Denot) (L : Laws T) (K : Laws A) → statement T A g L K
shares T A g L K =
    of_Lends (C.struct T A g) (C.the_codes T.Denot A.Denot T.coded A.coded) (C.the_heap T A g) (C.the_lent T A g)
    (λ d p. nothing_shr_laws)
    (copy_shared RawPtr-field RawPtr-copy, (row_shared A K, tt))
    (λ M 𝓤 𝓛 d p. Lends-nothing 𝓛 (C.the_heap T A g d) (C.the_row T A g).lives)
