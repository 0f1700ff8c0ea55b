-- One more worker that has ended.
use Rattle.std.proofs.Common.{◌≡◌, ℕ, zero, suc, ◌+◌, List, [], ◌∷◌, ◌++◌, length, slice_get, Option, Some, sym, refl}
use Rattle.std.proofs.Common.{ap, ◌∙◌, subst, ⊎_elim, arith, length-append}
use Rattle.std.proofs.lemmas.Option.{none-some}
use Rattle.sh_script.specs.declared.calls.CallLine.{CallLine}
use Rattle.script_calls.specs.Parts.{RunTerms, SeenPass, new_part, passes_below}
use Rattle.script_calls.proofs.ListLemmas.{get_snoc, up_length}
use Rattle.script_calls.proofs.Newcomers.{get_middle}
use Rattle.script_workers.specs.declared.worker.Made.{Made}
use Rattle.script_workers.specs.Works.{IsWork}
use Rattle.script_workers.specs.Gathers.{HaveEnded}
use Rattle.sh_table.specs.Seats.{Heap}

pub none_ended : (heap : Option Heap) (terms : RunTerms) (tag : Option ℕ) (lines : List CallLine)
    → HaveEnded heap terms tag lines 0 [] []
none_ended heap terms tag lines = record {
  sides_all = refl;
  rests_all = refl;
  each = λ p side made e f. absurd (none-some side e);
}

pub one_more_ended : (heap : Option Heap) (terms : RunTerms) (tag : Option ℕ) (lines : List CallLine) (n : ℕ)
    (sides : List SeenPass) (rests : List (List Made)) (side : SeenPass) (made : List Made)
    → HaveEnded heap terms tag lines n sides rests → IsWork heap terms tag lines n (new_part heap n) side made
    → HaveEnded heap terms tag lines (n + 1) (sides ++ side ∷ []) (rests ++ made ∷ [])
one_more_ended heap terms tag lines n sides rests side made h work = record {
  sides_all = omega (arith, h.sides_all, length-append sides (side ∷ []));
  rests_all = omega (arith, h.rests_all, length-append rests (made ∷ []));
  each = λ p s m e f. ⊎_elim
      (λ (old : slice_get sides p ≡ Some s). ⊎_elim
      (λ (known : slice_get rests p ≡ Some m). h.each p s m old known)
      (λ (last : (p ≡ length rests) × (made ≡ m)). absurd (short sides p s old
      (last.0 ∙ (h.rests_all ∙ sym h.sides_all))))
      (get_snoc rests made m p f))
      (λ (new : (p ≡ length sides) × (side ≡ s)). ⊎_elim
      (λ (known : slice_get rests p ≡ Some m). absurd (short rests p m known
      (new.0 ∙ (h.sides_all ∙ sym h.rests_all))))
      (λ (last : (p ≡ length rests) × (made ≡ m)).
      let W : ℕ × SeenPass × List Made → Type 0 = λ z. IsWork heap terms tag lines z.0 (new_part heap z.0) z.1 z.2 in
      let at : n ≡ p = sym (new.0 ∙ h.sides_all) in
      subst W (λ i. (at i, new.1 i, last.1 i)) work)
      (get_snoc rests made m p f))
      (get_snoc sides side s p e);
}
  where
    short : {A : Type 0} (xs : List A) (k : ℕ) (x : A) → slice_get xs k ≡ Some x → k ≡ length xs → ⊥
    short [] k x e is = none-some x e
    short (y ∷ ys) zero x e is = absurd (omega (arith, is))
    short (y ∷ ys) (suc k) x e is = short ys k x e (omega (arith, is))

up_at : (n k p : ℕ) → slice_get (passes_below n) k ≡ Some p → p ≡ k
up_at zero k p e = absurd (none-some p e)
up_at (suc n) k p e = ⊎_elim
    (λ x. up_at n k p x)
    (λ (x : (k ≡ length (passes_below n)) × (n ≡ p)). sym x.1 ∙ (sym (up_length n) ∙ sym x.0))
    (get_snoc (passes_below n) n p k e)

-- the worker that comes after those is the next pass's
pub next_worker : (n : ℕ) (all ys rest its : List ℕ) (w : ℕ) → all ≡ passes_below n → all ≡ ys ++ its → its ≡ w ∷ rest
    → w ≡ length ys
next_worker n all ys rest its w e f k =
    let at : slice_get all (length ys) ≡ Some w = ap (λ (z : List ℕ). slice_get z (length ys)) (f
    ∙ ap (λ (z : List ℕ). ys ++ z) k) ∙ get_middle ys w rest in
    up_at n (length ys) w (subst (λ (z : List ℕ). slice_get z (length ys) ≡ Some w) e at)
