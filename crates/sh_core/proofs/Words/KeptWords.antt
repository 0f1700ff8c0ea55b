-- No two words share a place, so a write to one word of the list is a write to its place.
use Rattle.std.proofs.Common.{◌≡◌, ◌≢◌, ℕ, ◌<◌, List, length, set, ap, ◌∙◌, arith, ⊎_elim}
use Rattle.std.proofs.lemmas.Bool.{cases_eq}
use Rattle.std.proofs.lemmas.List.{get_or-set_same, get_or-set_other, length-set}
use Rattle.sh_shape.specs.declared.places.Place.{Place}
use Rattle.sh_shape.specs.Shape.{Numbers}
use Rattle.sh_shape.specs.Places.{IsPlace, number}
use Rattle.sh_shape.proofs.PlaceLaws.{places_differ, places_are_words}
use Rattle.sh_core.specs.Words.{Words, write}
use Rattle.sh_core.specs.Kept.{HoldsWords}
use Rattle.sh_core.proofs.Sums.Writes.{read_same, read_other}

-- a write at a place's number is the write to the place
pub hold_write : (shape : Numbers) (ws : List ℕ) (w : Words) (p : Place) (v : ℕ) → HoldsWords shape ws w
    → IsPlace shape p → HoldsWords shape (set ws (number shape p) v) (write w p v)
hold_write shape ws w p v old within = record {
  count = length-set ws (number shape p) v ∙ old.count;
  at = λ p' within'.
      let few = places_are_words shape p within in
      let count = old.count in
      let small : number shape p < length ws = omega arith in
      ⊎_elim
      (λ (e : number shape p' ≡ number shape p). let i = places_differ shape p' p within' within e
      in rw (i, read_same w p v) (get_or-set_same ws (number shape p) v 0 small))
      (λ (e : number shape p' ≢ number shape p). rw (
        read_other w p p' v (λ i. e (ap (number shape) i)),
        get_or-set_other ws (number shape p) (number shape p') v 0 e,
      ) (old.at p' within'))
      (cases_eq (number shape p') (number shape p));
}
