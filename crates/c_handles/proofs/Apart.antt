-- A pointer that may be null, taken apart into its words and what it owns.
use Rattle.std.proofs.Common.{◌≡◌, List, [], ◌∷◌, ◌++◌, subst}
use seplogic.Ra.Ura.{Ura}
use mir.Val.{Val, vstruct, of_list}
use types.Logic.{Logic}
use types.Kit.{Item, Goal, Seq, ‵, ◌$◌, move, drop, fsplit, fpick, feq_l}
use denote.RattleType.{RattleType}
use denote.RawPtr.{ptr_val}
use denote.Param.{layout}
use denote.Param.Laws.{Laws}
use Rattle.core.specs.declared.alloc.Allocator.{Ghosts}
use Rattle.core.proofs.alloc.Calls.{handle_tells}
use Rattle.core.proofs.cell.Inside.{Good}
use Rattle.sh_nullable.specs.Owning.{nullable_owns}
use Rattle.sh_nullable.proofs.Values as V

module _ (R Z : RattleType) (L : Laws Z) (g : Ghosts Z.Denot) where
  module _ {M : Type 1} {𝓤 : Ura M} {𝓛 : Logic 𝓤} {K : Type 0} {Γ : List (Item 𝓤)} {G : Goal 𝓤 𝓛.H} where
    pub nullable_apart : K → (d : (V.NullableBox R Z L g).Denot) (vs : List Val)
        → ((h : Val) → vs ≡ V.both (ptr_val d.at) h ∷ [] → Good (layout Z) h
        → Seq K 𝓛 (‵ (nullable_owns (g.dealloc_token d.alloc) R d.at d.value) ∷ ‵ (Z.own_val d.alloc (h ∷ [])) ∷ Γ) G)
        → Seq K 𝓛 (‵ ((V.NullableBox R Z L g).own_val d vs) ∷ Γ) G
    nullable_apart t d vs k =
        fsplit t $ fpick t (λ vss. fsplit t $ feq_l t (λ ev. fsplit t $ feq_l t (λ ep. fsplit t $
        handle_tells (V.al R Z L g) t d.alloc vss.1.0 (λ h ea fits. move t (1 ∷ []) $ drop t $ move t (1 ∷ []) $ k h
        (subst (λ (ws : List Val). vs ≡ vstruct (of_list (ptr_val d.at ∷ (ws ++ []))) ∷ []) ea
        (subst (λ (ps : List Val). vs ≡ vstruct (of_list (ps ++ (vss.1.0 ++ []))) ∷ []) ep ev)) fits))))
