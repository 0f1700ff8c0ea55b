-- A batch of loads: what is left of it, and what its code means.
use Rattle.std.proofs.Common.{◌≡◌, ℕ, ◌+◌, List, drop, get_or, set, false, refl, sym, ◌∙◌, ap, subst, arith}
use Rattle.std.proofs.lemmas.List.{get_or-drop, drop-drop, drop-set-lt}
use Rattle.std.specs.declared.option.Option.{Option}
use Rattle.std.specs.declared.option.Option.TheVariants.{Some}
use Rattle.c_handles.specs.declared.held_pass.HeldPass.{HeldPass}
use Rattle.sh_nullable.specs.Owning.{has_value}
use Rattle.c_exports.specs.declared.batches.Loaded.{Loaded}
use Rattle.c_exports.specs.Batches.{LoadsEach, LoadsTold}
use Rattle.c_exports.specs.Told.{empty_code}
use Rattle.c_exports.proofs.Asking.{no_value}

no_more : (i : ℕ) → i + 0 ≡ i
no_more i = omega arith

-- lists with the same rest have the same first item there, and the same rest behind it
pub first_of_rest : {A : Type 0} (xs ys : List A) (i : ℕ) (d : A) → drop i xs ≡ drop i ys
    → get_or xs i d ≡ get_or ys i d
first_of_rest xs ys i d same =
    ap (λ n. get_or xs n d) (sym (no_more i))
    ∙ (sym (get_or-drop i xs 0 d)
    ∙ (ap (λ l. get_or l 0 d) same ∙ (get_or-drop i ys 0 d ∙ ap (λ n. get_or ys n d) (no_more i))))

pub rest_behind : {A : Type 0} (xs ys : List A) (i : ℕ) (x : A) → drop i xs ≡ drop i ys
    → drop (i + 1) (set xs i x) ≡ drop (i + 1) ys
rest_behind xs ys i x same =
    drop-set-lt (i + 1) xs i x (omega arith) ∙ (sym (drop-drop 1 i xs) ∙ (ap (drop 1) same ∙ drop-drop 1 i ys))

-- a batch for an empty handle does nothing, and one for a full handle is done
pub unloaded : (loads : List Loaded) (a : Option HeldPass) → has_value a ≡ false
    → LoadsTold empty_code loads loads a a
unloaded loads a e = subst (λ o. LoadsTold empty_code loads loads o o) (sym (no_value a e)) (refl, refl, refl)

pub all_loaded : (old new : List Loaded) (a b : Option HeldPass) (v w : HeldPass) → a ≡ Some v → b ≡ Some w
    → LoadsEach old v new w → LoadsTold 0 old new a b
all_loaded old new a b v w is after each =
    subst (λ o. LoadsTold 0 old new o b) (sym is) (w, after, refl, each)
