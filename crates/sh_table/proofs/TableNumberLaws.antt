-- No two places have the same number in the table, and each is one of its words.
use Rattle.std.proofs.Common.{◌≡◌, ◌≢◌, ℕ, ◌+◌, ◌*◌, ◌/◌, ◌%◌, ◌^◌, ◌<◌, ◌≤◌, List, length, set, ap, ◌∙◌, arith, ⊎_elim}
use Rattle.std.proofs.lemmas.Bool.{cases_eq}
use Rattle.std.proofs.lemmas.List.{get_or-set_same, get_or-set_other, length-set}
use Rattle.sh_shape.specs.declared.places.Place.{Place}
use Rattle.sh_shape.specs.declared.places.Place.TheVariants.{Class, Head, PageLink, State, Link, Length, Payload, Owner}
use Rattle.sh_shape.specs.declared.places.Place.TheVariants.{Bell}
use Rattle.sh_shape.specs.Shape.{Numbers}
use Rattle.sh_shape.specs.Places.{IsPlace, words_of}
use Rattle.sh_core.specs.Words.{Words, write}
use Rattle.sh_core.proofs.Sums.Writes.{read_same, read_other}
use Rattle.sh_table.specs.TableNumbers.{table_number, HoldsInTable}

pub numbers_are_words : (shape : Numbers) (a : Place) → IsPlace shape a → table_number shape a < words_of shape
numbers_are_words shape (Class page) is = omega arith
numbers_are_words shape (Head page) is = omega arith
numbers_are_words shape (PageLink page) is = omega arith
numbers_are_words shape (State page slot) is = let a = is.0 in let b = is.1 in omega arith
numbers_are_words shape (Link page slot) is = let a = is.0 in let b = is.1 in omega arith
numbers_are_words shape (Length page slot) is = let a = is.0 in let b = is.1 in omega arith
numbers_are_words shape (Payload page i) is = let a = is.0 in let b = is.1 in omega arith
numbers_are_words shape (Owner shard) is = omega arith
numbers_are_words shape (Bell shard) is = omega arith

pub numbers_differ : (shape : Numbers) (a b : Place) → IsPlace shape a → IsPlace shape b
    → table_number shape a ≡ table_number shape b → a ≡ b
numbers_differ shape (Class p) (Class q) ha hb e = ap Class (omega arith)
numbers_differ shape (Head p) (Head q) ha hb e = ap Head (omega arith)
numbers_differ shape (PageLink p) (PageLink q) ha hb e = ap PageLink (omega arith)
numbers_differ shape (State p s) (State q t) ha hb e = let page : p ≡ q = omega arith in
    let at : s ≡ t = omega arith in cc
numbers_differ shape (Link p s) (Link q t) ha hb e = let page : p ≡ q = omega arith in
    let at : s ≡ t = omega arith in cc
numbers_differ shape (Length p s) (Length q t) ha hb e = let page : p ≡ q = omega arith in
    let at : s ≡ t = omega arith in cc
numbers_differ shape (Payload p s) (Payload q t) ha hb e = let page : p ≡ q = omega arith in
    let at : s ≡ t = omega arith in cc
numbers_differ shape (Owner p) (Owner q) ha hb e = ap Owner (omega arith)
numbers_differ shape (Bell p) (Bell q) ha hb e = ap Bell (omega arith)
numbers_differ shape _ _ ha hb e = absurd (omega arith)

-- a write at a place's number is the write to the place
pub hold_write : (shape : Numbers) (ws : List ℕ) (w : Words) (p : Place) (v : ℕ) → HoldsInTable shape ws w
    → IsPlace shape p → HoldsInTable shape (set ws (table_number shape p) v) (write w p v)
hold_write shape ws w p v old within = record {
  count = length-set ws (table_number shape p) v ∙ old.count;
  at = λ p' within'.
      let few = numbers_are_words shape p within in
      let count = old.count in
      let small : table_number shape p < length ws = omega arith in
      ⊎_elim
      (λ (e : table_number shape p' ≡ table_number shape p). let i = numbers_differ shape p' p within' within e
      in rw (i, read_same w p v) (get_or-set_same ws (table_number shape p) v 0 small))
      (λ (e : table_number shape p' ≢ table_number shape p). rw (
        read_other w p p' v (λ i. e (ap (table_number shape) i)),
        get_or-set_other ws (table_number shape p) (table_number shape p') v 0 e,
      ) (old.at p' within'))
      (cases_eq (table_number shape p') (table_number shape p));
}
