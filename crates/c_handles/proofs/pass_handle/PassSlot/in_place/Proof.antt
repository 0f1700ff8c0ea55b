-- `in_place` lends the pass that the slot owns, and the slot ends with what the pass is then.
use mathlib.Core.Path.{◌≡◌, refl, sym, subst}
use mathlib.Core.Bool.{true}
use Prim.Native.Nat.{ℕ}
use mathlib.Core.List.{List, [], ◌∷◌, ◌++◌}
use seplogic.Ra.Ura.{Ura}
use base.Fraction.{full_share}
use mir.Raw.{raw as bare}
use mir.Syntax.{named}
use mir.Val.{Val, vptr}
use base.Logic.{SProp, ent, sep, id⊢}
use base.Fml.{Lft, GName, Share, Fml, ftrue, fsep, flft, fobs, fbor}
use prog.Memory.{Memory}
use prog.Routine.{Routine}
use prog.Wp.{Env, WpFn, Tables}
use types.Logic.{Logic, sem}
use contract.Monad.{Fun}
use contract.Running.{tables, tables_of}
use sound.WpLaws.{WpFn-mono}
use types.Kit.{Item, ⋆, ‵, raw, ◌⊛◌, some, later, await, pick, at_ret, ◌$◌, ◌∵◌, !, qed, by, move, keep, use1, split}
use types.Kit.{join, group, rewrite, fsplit, fsplit3, fjoin, fpack, feq_l, suffices, frame, done}
use types.Part.{whole, sub, look_in}
use types.Run.{stop, fld, load, of_opd, addr, first, blocks, exec, returns, enter}
use types.ByLocal.{alloc_all, pass_all, free_all, look_at, get, through, sets, sets_last, env}
use types.SemTy.{Body as Borrowed}
use denote.Exit.{no}
use denote.Follow.{follows, Part, lends_Part}
use denote.RattleType.{RattleType, owns}
use denote.Memory.{cell_at, part_at, part_of, mem, lone}
use denote.RawPtr.{Ptr, block_ptr, ptr_val}
use denote.Ref.{MutBor, MutRef}
use denote.Signature.{plain, mut_ref_to}
use denote.Steps.{nothing, opens}
use denote.Triple.Entry.{on_entry}
use denote.Triple.Spec.{triple_of}
use denote.Triple.Table.{entered}
use denote.Triple.Walked.{says, needs, Stays, stay_dropped, walk_of, ends_at, Goes-spent_ref, walk_Meets}
use Rattle.std_alloc.proofs.VecSteps.Shapes.{after}
use Rattle.std_heap.specs.contracts.Global as Heap
use Rattle.std_heap.specs.contracts.GlobalAllocator.TheImpl.{ghosts}
use Rattle.std_heap.proofs.Global.TheLaws as heap
use Rattle.core.specs.declared.option.Option.TheVariants.{Some}
use Rattle.sh_nullable.specs.Owning.{has_value}
use Rattle.sh_nullable.proofs.Values as V
use Rattle.c_handles.proofs.AsSlot.{PassRow}
use Rattle.c_handles.specs.PassOwning.{pass_owns}
use Rattle.c_handles.specs.PassLending.{with_pass}
use Rattle.c_handles.specs.contracts.pass_handle.PassSlot as PassSlot
use Rattle.c_handles.specs.contracts.pass_handle.PassSlot.in_place as F
use Rattle.c_handles.specs.contracts.pass_handle.PassSlot.in_place.Key.{name as #self}
use Rattle.c_handles.proofs.pass_handle.PassSlot.in_place.Statement as stated
use Rattle.c_handles.proofs.pass_handle.PassSlot.in_place.Code as code

abbrev R : RattleType
R = PassRow

abbrev Z : RattleType
Z = Heap.the_row

abbrev S : RattleType
S = PassSlot.the_row

abbrev stayed : Stays (F.ended).signature.params (F.ended).kept
stayed = (stay_dropped (mut_ref_to (0 ∷ []) tt (plain (λ _. S))) no, tt)

module _ {M : Type 1} {𝓤 : Ura M} (𝓛 : Logic 𝓤) (at_mem : Memory → SProp 𝓤) (run : Routine → Fun 𝓤)
    (𝓣 : Tables 𝓤 𝓛.H) (κ : Lft) (q : Share) (rb ro : ℕ) (γ : GName) (d : S.Denot) (ps : List Val) where
  open 𝓛 use {H, A}

  abbrev self : MutBor S.Denot
  self = record { ref_ptr = (rb, ro); ghost_name = γ; now = d }

  abbrev bound : (walk_of 𝓛 F.ended stayed (F.clauses 𝓛 at_mem run)).Ghost
  bound = (((κ, tt), (q, tt), tt, (self, tt), (ps, tt)), tt)

  abbrev Post : Val → SProp 𝓤
  Post = (walk_of 𝓛 F.ended stayed (F.clauses 𝓛 at_mem run)).post bound

  module _ (h : Val) (b o : ℕ) where
    -- all of the slot except the pass
    abbrev Rest : Fml
    Rest = fsep (fsep (ghosts.dealloc_token d.alloc (bare (lone R.mir)) (block_ptr b o)) (Z.own_val d.alloc (h ∷ [])))
        (cell_at full_share S.mir (V.both (vptr b o) h ∷ []) rb ro)

    back : d.at ≡ block_ptr b o → (w : R.Denot) → ent 𝓤 (sep 𝓤 (sem 𝓛 ((mem R).own_at w b o)) (sem 𝓛 Rest))
        (sem 𝓛 ((mem S).own_at (with_pass d w) rb ro))
    unfolding part_of
    back at_b w =
        qed 𝓛 (‵ (part_at R full_share w b o) ∷ ‵ Rest ∷ []) ∵ move ! (1 ∷ []) $ fsplit ! $ fsplit ! $
        move ! (3 ∷ 0 ∷ []) $ fjoin ! $
        rewrite ! 0 (λ (p : Ptr). ‵ (pass_owns d.alloc p (Some w))) (sym at_b) refl $
        V.nullable_in R Z heap.the_row_laws ghosts ! d.at h d.alloc (Some w) $
        use1 𝓛 (‵ (S.own_val (with_pass d w) (V.both (ptr_val d.at) h ∷ []))) (id⊢ 𝓤 _) $
        rewrite ! 0 (λ (p : Ptr). ‵ (S.own_val (with_pass d w) (V.both (ptr_val p) h ∷ []))) at_b refl $
        move ! (1 ∷ 0 ∷ []) $ fjoin ! $
        fpack ! (List Val) (λ us. fsep (cell_at full_share S.mir us rb ro) (S.own_val (with_pass d w) us))
        (V.both (vptr b o) h ∷ []) $ done !

  exits : (b o : ℕ) (x : R.Denot) → d.value ≡ Some x → (δ : GName)
      → ent 𝓤 (sep 𝓤 (sem 𝓛 ((MutRef (named 0) κ R).own_val (record { ref_ptr = (b, o); ghost_name = δ; now = x })
      (vptr b o ∷ []))) (sep 𝓤 (A.lft κ q) (sem 𝓛 (follows S R γ δ (with_pass d))))) (Post (vptr b o))
  exits b o x e δ =
      qed 𝓛 (‵ ((MutRef (named 0) κ R).own_val (record { ref_ptr = (b, o); ghost_name = δ; now = x }) (vptr b o ∷ []))
      ∷ ‵ (flft κ q) ∷ ‵ (follows S R γ δ (with_pass d)) ∷ []) ∵
      suffices ! _ (ends_at 𝓛 F.ended stayed (F.clauses 𝓛 at_mem run) bound (vptr b o)
      (record { ref_ptr = (b, o); ghost_name = δ; now = x }) (tt, tt) (tt, tt)) $
      nothing ! $ nothing ! $ fjoin ! $ join ! $ nothing ! $ move ! (2 ∷ 0 ∷ []) $ join ! $ join ! $ frame ! $
      says ! e $ done !

  abbrev Had : List (Item 𝓤)
  Had = ‵ (fobs γ (S.coded.code d)) ∷ ‵ (fbor κ (Borrowed (mem S) rb ro γ)) ∷ ‵ (flft κ q) ∷ []

  walk : has_value d.value ≡ true → ent 𝓤 (⋆ 𝓛 Had) (WpFn 𝓤 H 𝓣.C 𝓣.Λ code.function (vptr rb ro ∷ []) Post)
  walk full =
      let found = V.the_value d.value full in let x = found.0 in let c = S.coded.code d in
      qed 𝓛 Had ∵ enter ! 𝓣.C 𝓣.Λ code.function (vptr rb ro ∷ []) _ $
      alloc_all ! (λ l. pass_all ! refl ((tt, tt), tt) $
      let En : Env 𝓤 H = env (code.function).locals l in
      opens ! tt S {h = d} rb ro (λ vs. move ! (1 ∷ []) $
      V.nullable_out R Z heap.the_row_laws ghosts !
      (record { at = d.at; alloc = d.alloc; value = d.value }) x found.1 vs
      (λ b o h at_b ws fits. fsplit ! $ move ! (1 ∷ 2 ∷ []) $ fjoin ! $ move ! (1 ∷ []) $
      rewrite ! 2 (λ (us : List Val). ‵ (cell_at full_share S.mir us rb ro)) ws refl $
      -- [the pass; its block with the allocator; the words; the open borrow; obs; auth]
      first ! $ blocks ! $
      sets ! (of_opd ! (load ! (through ! refl (fld ! refl (stop !))) (look_in ! 2 (sub ! 0 refl (whole !))))) refl
      (tt, tt) $
      sets ! (of_opd ! (get ! refl)) refl (tt, tt) $
      sets_last ! (addr ! (through ! refl (stop !))) refl (tt, tt) $
      exec ! 𝓣.C 𝓣.Λ En (after 1 (code.function).body) (at_ret En Post) $
      sets ! (of_opd ! (get ! refl)) refl (tt, tt) $
      move ! (1 ∷ 2 ∷ []) $ fjoin ! $ move ! (2 ∷ 3 ∷ 4 ∷ 1 ∷ 0 ∷ []) $ group ! 5 $
      use1 𝓛 (later (some (λ (δ : GName). raw (Part 𝓛 S R (with_pass d) (named 0) κ q rb ro b o γ
      (sem 𝓛 (Rest h b o)) (back h b o at_b) x δ))))
      (lends_Part 𝓛 S R (with_pass d) (named 0) κ q rb ro b o γ (sem 𝓛 (Rest h b o)) (back h b o at_b) c c x) $
      await ! tt $ pick ! (λ δ. returns ! (look_at ! 0 refl) $ free_all ! refl $ keep ! (0 ∷ []) $
      by ! (exits b o x found.1 δ)))))

  entry : has_value d.value ≡ true → ent 𝓤 (on_entry 𝓛 (F.ended).signature (κ, tt) (q, tt) (self, tt) (ps, tt))
      (WpFn 𝓤 H 𝓣.C 𝓣.Λ code.function (ps ++ []) Post)
  entry full =
      qed 𝓛 ((‵ (flft κ q) ⊛ ‵ ftrue) ∷ ‵ (owns (MutRef (named 0) κ S ∷ []) (self, tt) (ps, tt)) ∷ []) ∵
      split ! $ move ! (2 ∷ []) $ fsplit ! $ fsplit3 ! $ feq_l ! (λ e. keep ! (0 ∷ 1 ∷ 3 ∷ []) $
      by ! (subst (λ (ws : List Val). ent 𝓤 (⋆ 𝓛 Had) (WpFn 𝓤 H 𝓣.C 𝓣.Λ code.function (ws ++ []) Post)) (sym e)
      (walk full)))

pub in_place_spec : {M : Type 1} → stated.statement M
unfolding tables_of
in_place_spec 𝓤 𝓛 𝓜 𝓡 wired =
    let 𝓣 : Tables 𝓤 𝓛.H = tables_of 𝓤 𝓛.H 𝓜 (tables 𝓤 𝓛.H 𝓜 𝓡 𝓡.env) in
    entered 𝓤 𝓛.H (triple_of 𝓛 F.signature (F.spec 𝓛 𝓜.mem 𝓡.returns)) 𝓣.C 𝓣.Λ #self code.function
    (code.unfolded 𝓤 𝓛.H 𝓜 𝓡 wired)
    (walk_Meets 𝓛 F.ended stayed (Goes-spent_ref 𝓛 1 (0 ∷ []) tt (plain (λ _. S)), tt) (F.clauses 𝓛 𝓜.mem 𝓡.returns)
    (WpFn 𝓤 𝓛.H 𝓣.C 𝓣.Λ code.function) (WpFn-mono 𝓤 𝓛.H 𝓛.laws 𝓣 code.function)
    (λ z. let a = z.0.3.0 in needs 𝓤 (has_value a.now.value ≡ true) _ (entry 𝓛 𝓜.mem 𝓡.returns 𝓣 z.0.0.0 z.0.1.0
    a.ref_ptr.0 a.ref_ptr.1 a.ghost_name a.now z.0.4.0)))
