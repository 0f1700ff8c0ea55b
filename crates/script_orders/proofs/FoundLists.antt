-- What was found is still there after an outcome was added.
use Rattle.std.proofs.Common.{◌≡◌, ℕ, List, [], ◌∷◌, ◌++◌, length, slice_get, Some, refl, sym, ap, ◌∙◌, inl, inr, map}
use Rattle.std.proofs.Common.{set}
use Rattle.std.specs.Prelude.{vec_items}
use Rattle.std.proofs.lemmas.Bool.{cases_eq}
use Rattle.script_orders.specs.declared.found.Found.{Found}
use Rattle.script_orders.specs.Reached.{Has}
use Rattle.script_orders.specs.Walks.{KeepsFound}
use Rattle.script_orders.proofs.ListSteps.{get_set_same, get_set_other, get_push}
use Rattle.sh_history.proofs.ByPlace.{get_last}

-- an outcome that is the same takes the place of one
pub keeps_set : (xs : List Found) (place : ℕ) (f g : Found) → slice_get xs place ≡ Some f
    → map vec_items g.replies.items ≡ map vec_items f.replies.items → g.pages.items ≡ f.pages.items
    → KeepsFound xs (set xs place g)
keeps_set xs place f g at replies pages rs ps (k, h, there, one, two) = elim (cases_eq k place) [
  | inl e ↦
      let at' : slice_get xs k ≡ Some f = ap (slice_get xs) e ∙ at in
      let same : h ≡ f = let z : Some h ≡ Some f = sym there ∙ at' in cc in (
        k,
        g,
        ap (λ (n : ℕ). slice_get (set xs n g) k) (sym e) ∙ get_set_same xs k f g at',
        replies ∙ ap (λ (x : Found). map vec_items x.replies.items) (sym same) ∙ one,
        pages ∙ ap (λ (x : Found). x.pages.items) (sym same) ∙ two,
      )
  | inr ne ↦ (k, h, get_set_other xs place k g ne ∙ there, one, two)
]

pub has_set : (xs : List Found) (place : ℕ) (f g : Found) → slice_get xs place ≡ Some f → {rs : List (List ℕ)}
    {ps : List ℕ} → map vec_items g.replies.items ≡ rs → g.pages.items ≡ ps → Has (set xs place g) rs ps
has_set xs place f g at replies pages = (place, g, get_set_same xs place f g at, replies, pages)

pub keeps_push : (xs : List Found) (f : Found) → KeepsFound xs (xs ++ f ∷ [])
keeps_push xs f rs ps (k, h, there, one, two) = (k, h, get_push xs k h f there, one, two)

pub has_push : (xs : List Found) (f : Found) → Has (xs ++ f ∷ []) (map vec_items f.replies.items) f.pages.items
has_push xs f = (length xs, f, get_last xs f, refl, refl)
