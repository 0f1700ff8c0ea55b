-- The same words have the same changes.
use Rattle.std.proofs.Common.{◌≡◌, ◌≢◌, ℕ, ◌+◌, ◌<◌, Bool, cond, List, [], ◌∷◌, refl, sym, ap, ◌∙◌, subst}
use Rattle.std.proofs.Common.{inl, inr, eq-eqb, ne_eqb, arith}
use Rattle.std.specs.List.{All}
use Rattle.std.proofs.lemmas.Bool.{cases_eq, cases_lt}
use Rattle.std.proofs.lemmas.List.Elements.{All-head, All-tail}
use Rattle.sh_key.specs.Layout.{Layout}
use Rattle.sh_shape.specs.declared.places.Place.{Place}
use Rattle.sh_shape.specs.Places.{IsPlace, number}
use Rattle.sh_shape.specs.Shape.{Numbers}
use Rattle.sh_core.specs.Words.{Words, read}
use Rattle.script_orders.specs.declared.changes.Change.{Change}
use Rattle.script_orders.specs.declared.found.Program.{Program}
use Rattle.script_orders.specs.declared.state.State.{State}
use Rattle.script_orders.specs.Changes.{word_in, IsChange, Ascend, HasChanges}
use Rattle.script_orders.specs.Reached.{world_before, IsReached}
use Rattle.script_orders.specs.States.{AreAlike, HaveSame}

skips : (cs : List Change) (from n was : ℕ) → n < from → Ascend from cs → word_in cs n was ≡ was
skips [] from n was less h = refl
skips (c ∷ cs) from n was less h =
    let low = h.0 in
    ap (λ (b : Bool). cond b c.word (word_in cs n was)) (ne_eqb c.number n (λ (e : c.number ≡ n). omega arith))
    ∙ skips cs (c.number + 1) n was (omega arith) h.1

module _ (shape : Numbers) (before : Words) where
  abbrev Same : List Change → List Change → Type 0
  Same cs ds = (p : Place) → IsPlace shape p
      → word_in cs (number shape p) (read before p) ≡ word_in ds (number shape p) (read before p)

  head_at : (d : Change) (ds : List Change) (n was : ℕ) → d.number ≡ n → word_in (d ∷ ds) n was ≡ d.word
  head_at d ds n was e = ap (λ (b : Bool). cond b d.word (word_in ds n was)) (eq-eqb d.number n e)

  head_other : (d : Change) (ds : List Change) (n was : ℕ) → d.number ≢ n → word_in (d ∷ ds) n was ≡ word_in ds n was
  head_other d ds n was ne = ap (λ (b : Bool). cond b d.word (word_in ds n was)) (ne_eqb d.number n ne)

  -- a change cannot be left out
  left_out : (cs : List Change) (d : Change) (ds : List Change) (is : IsChange shape before d) → Same cs (d ∷ ds)
      → word_in cs (number shape is.place) (read before is.place) ≡ read before is.place → ⊥
  left_out cs d ds is same none =
      is.other (sym (head_at d ds (number shape is.place) (read before is.place) (sym is.at))
      ∙ sym (same is.place is.within) ∙ none)

  tails : (c d : Change) (cs ds : List Change) → c.number ≡ d.number → Ascend (c.number + 1) cs
      → Ascend (d.number + 1) ds → Same (c ∷ cs) (d ∷ ds) → Same cs ds
  tails c d cs ds e h k same p within = elim (cases_eq c.number (number shape p)) [
    | inl here ↦
        skips cs (c.number + 1) (number shape p) (read before p) (omega (arith, here)) h
        ∙ sym (skips ds (d.number + 1) (number shape p) (read before p) (omega (arith, here, e)) k)
    | inr ne ↦
        sym (head_other c cs (number shape p) (read before p) ne)
        ∙ same p within
        ∙ head_other d ds (number shape p) (read before p) (λ (z : d.number ≡ number shape p). ne (e ∙ z))
  ]

  heads : (c d : Change) (cs ds : List Change) → c.number ≡ d.number → IsChange shape before c
      → Same (c ∷ cs) (d ∷ ds) → c ≡ d
  heads c d cs ds e is same =
      let word : c.word ≡ d.word =
      sym (head_at c cs (number shape is.place) (read before is.place) (sym is.at))
      ∙ same is.place is.within
      ∙ head_at d ds (number shape is.place) (read before is.place) (sym e ∙ sym is.at) in
      λ i. record { number = e i; word = word i }

  all_same : (from : ℕ) (cs ds : List Change) → Ascend from cs → Ascend from ds → All (IsChange shape before) cs
      → All (IsChange shape before) ds → Same cs ds → cs ≡ ds
  all_same from [] [] h k a b same = refl
  all_same from [] (d ∷ ds) h k a b same =
      absurd (left_out [] d ds (All-head (IsChange shape before) d ds b) same refl)
  all_same from (c ∷ cs) [] h k a b same =
      absurd (left_out [] c cs (All-head (IsChange shape before) c cs a) (λ p within. sym (same p within)) refl)
  all_same from (c ∷ cs) (d ∷ ds) h k a b same = elim (cases_eq c.number d.number) [
    | inl e ↦
        let tail : cs ≡ ds = all_same (c.number + 1) cs ds h.1
        (subst (λ (n : ℕ). Ascend (n + 1) ds) (sym e) k.1)
        (All-tail (IsChange shape before) c cs a) (All-tail (IsChange shape before) d ds b)
        (tails c d cs ds e h.1 k.1 same) in
        let head : c ≡ d = heads c d cs ds e (All-head (IsChange shape before) c cs a) same in
        λ i. head i ∷ tail i
    | inr ne ↦ elim (cases_lt c.number d.number) [
      | inl less ↦
          let is = All-head (IsChange shape before) c cs a in
          let at = is.at in
          absurd (left_out (d ∷ ds) c cs is (λ p within. sym (same p within))
          (skips (d ∷ ds) d.number (number shape is.place) (read before is.place) (omega arith) (omega arith, k.1)))
      | inr le ↦
          let is = All-head (IsChange shape before) d ds b in
          let at = is.at in
          absurd (left_out (c ∷ cs) d ds is same
          (skips (c ∷ cs) c.number (number shape is.place) (read before is.place) (omega arith) (omega arith, h.1)))
    ]
  ]

  same_changes : (cs ds : List Change) (v w : Words) → HasChanges shape cs before v → HasChanges shape ds before w
      → ((p : Place) → IsPlace shape p → read v p ≡ read w p) → cs ≡ ds
  same_changes cs ds v w a b same = all_same 0 cs ds a.ascend b.ascend a.each b.each
      (λ p within. a.at p within ∙ same p within ∙ sym (b.at p within))

pub alike_by_words : (s t : State) (layout : Layout) (p : Program) → IsReached layout p s → IsReached layout p t
    → HaveSame layout p s t → AreAlike s t
alike_by_words s t layout p reached also same = record {
  lanes = same.lanes;
  changes = same_changes p.shape (world_before layout p).words s.changes.items t.changes.items _ _ reached.changed
      also.changed same.words;
}
