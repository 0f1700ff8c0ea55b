-- A `NullableBox` in memory: a pair of words, its pointer and its allocator.
use Rattle.std.proofs.Common.{◌≡◌, ℕ, List, [], ◌∷◌, ◌++◌, refl, subst}
use mathlib.Core.Bool.{Bool, true, false, ◌&&◌}
use lib.Dec.{T}
use seplogic.Ra.Ura.{Ura}
use mir.Syntax.{impl, tnil, dnil}
use mir.Raw.{raw as bare}
use mir.Val.{Val, vptr, vstruct, vcons, vnil, of_list, has_ty, WT}
use base.Logic.{never, fst∗}
use types.Logic.{Logic, sem}
use types.Kit.{Item, Goal, Seq, Step, step, ‵, ◌$◌, move, drop, fsplit, fjoin, fpick, fpack, rewrite}
use types.Kit.{feq_i, feq_l}
use denote.RattleType.{RattleType, Valss}
use denote.Builtin.{RawPtr}
use denote.Memory.{lone}
use denote.RawPtr.{Ptr, block_ptr, null_ptr, ptr_val, in_a_block}
use denote.Steps.{nothing}
use denote.Param.{layout}
use denote.Param.Laws.{Laws}
use denote.Struct.Struct.{within}
use denote.Struct.Owning.{shape}
use Rattle.core.specs.declared.alloc.Allocator.{Ghosts}
use Rattle.core.proofs.alloc.Calls.{Al, handle_tells}
use Rattle.core.proofs.cell.Inside.{Good}
use Rattle.core.proofs.atomic.Steps.{Ptr-Good}
use Rattle.core.specs.declared.option.Option.{Option}
use Rattle.core.specs.declared.option.Option.TheVariants.{None, Some}
use Rattle.std_alloc.specs.Box.Ownership.{box_owns}
use Rattle.sh_nullable.specs.Owning.{nullable_owns, has_value}
use Rattle.sh_nullable.specs.contracts.nullable.NullableBox as nullable

abbrev pub both : Val → Val → Val
both v w = vstruct (vcons v (vcons w vnil))

pub both_tt : (x y : Bool) → T x → T y → T (x && (y && true))
both_tt true true s t = tt
both_tt true false s t = absurd t
both_tt false y s t = absurd s

-- the value of a full option
pub the_value : {X : Type 0} (o : Option X) → has_value o ≡ true → (x : X) × (o ≡ Some x)
the_value None e = absurd (subst (λ (b : Bool). T (elim b [ true ↦ false | false ↦ true ])) e tt)
the_value (Some x) e = (x, refl)

module _ (R Z : RattleType) (L : Laws Z) (g : Ghosts Z.Denot) where
  abbrev pub NullableBox : RattleType
  NullableBox = nullable.the_row R Z g

  abbrev pub al : Al
  al = record { row = Z; laws = L; g = g; d = impl [] tnil dnil; drops = impl [] tnil dnil }

  -- a pair of a pointer and an allocator is well typed
  pub nullable_good : (p : Ptr) (h : Val) → Good (layout Z) h
      → T (has_ty (mir.Syntax.ty_ptr) (ptr_val p) && (has_ty (layout Z) h && true)) × WT (both (ptr_val p) h)
  nullable_good p h fits = (
    both_tt (has_ty mir.Syntax.ty_ptr (ptr_val p)) (has_ty (layout Z) h)
        (Ptr-Good p).0 fits.0,
    ((Ptr-Good p).1, (fits.1, tt)),
  )

  module _ {M : Type 1} {𝓤 : Ura M} {𝓛 : Logic 𝓤} {K : Type 0} {Γ : List (Item 𝓤)} {G : Goal 𝓤 𝓛.H} where
    -- a full pointer, taken apart: its raw pointer, with the right to the value and its block, and its allocator
    pub nullable_out : K → (d : NullableBox.Denot) (x : R.Denot) → d.value ≡ Some x → (vs : List Val)
        → ((b o : ℕ) (h : Val) → d.at ≡ block_ptr b o → vs ≡ both (vptr b o) h ∷ [] → Good (layout Z) h
        → Seq K 𝓛 (‵ (box_owns (g.dealloc_token d.alloc) R (block_ptr b o) x) ∷ ‵ (Z.own_val d.alloc (h ∷ [])) ∷ Γ) G)
        → Seq K 𝓛 (‵ (NullableBox.own_val d vs) ∷ Γ) G
    nullable_out t d x ex vs k =
        fsplit t $ fpick t (λ vss. fsplit t $ feq_l t (λ ev. fsplit t $ feq_l t (λ ep. fsplit t $
        handle_tells al t d.alloc vss.1.0 (λ h ea fits. move t (1 ∷ []) $ drop t $ move t (1 ∷ []) $
        rewrite t 0 (λ (o : Option R.Denot). ‵ (nullable_owns (g.dealloc_token d.alloc) R d.at o)) ex refl $
        in_a_block t d.at (λ p. box_owns (g.dealloc_token d.alloc) R p x) (fst∗ 𝓤 (never 𝓤)
        (sem 𝓛 (g.dealloc_token d.alloc (bare (lone R.mir)) null_ptr))) (λ b o e. k b o h e
        (subst (λ (p : Ptr). vs ≡ vstruct (of_list (ptr_val p ∷ h ∷ [])) ∷ []) e
        (subst (λ (ws : List Val). vs ≡ vstruct (of_list (ptr_val d.at ∷ (ws ++ []))) ∷ []) ea
        (subst (λ (ps : List Val). vs ≡ vstruct (of_list (ps ++ (vss.1.0 ++ []))) ∷ []) ep ev))) fits)))))

    -- a pointer put together from a raw pointer with what it owns, and an allocator
    pub nullable_in : K → (p : Ptr) (h : Val) (a : Z.Denot) (o : Option R.Denot)
        → Step K 𝓛 (‵ (NullableBox.own_val (record { at = p; alloc = a; value = o }) (both (ptr_val p) h ∷ []))
        ∷ Γ) G (‵ (nullable_owns (g.dealloc_token a) R p o) ∷ ‵ (Z.own_val a (h ∷ [])) ∷ Γ) G
    nullable_in t p h a o = step (λ s. let v : Val = both (ptr_val p) h in
        nothing t $ move t (2 ∷ 0 ∷ []) $ fjoin t $ feq_i t (List Val) (ptr_val p ∷ []) (ptr_val p ∷ []) refl $
        fjoin t $ feq_i t (List Val) (v ∷ []) (v ∷ []) refl $ fjoin t $
        fpack t (Valss (RawPtr ∷ Z ∷ [])) (within (shape (nullable.the_type R Z g)) (p, (a, tt)) (v ∷ []))
        (ptr_val p ∷ [], (h ∷ [], tt)) $ fjoin t $ s)
