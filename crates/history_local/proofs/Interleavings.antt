-- Interleavings of histories that share no key.
use Rattle.std.proofs.Common.{◌≡◌, ℕ, Bool, true, false, List, [], ◌∷◌, refl, sym, ◌∙◌, ap, subst, cond, inl, inr, ◌⊎◌}
use Rattle.std.specs.Prelude.{◌==◌, ◌↔◌}
use Rattle.sh_history.specs.declared.entry.Entry.{Entry}
use Rattle.sh_history.specs.History.{Legal}
use Rattle.history_local.specs.Groups.{key_of, entries_on, entries_on_key, IsInterleaving}
use Rattle.history_local.specs.Laws.{InterleavingsAreLegal}
use Rattle.history_local.proofs.Groups.{legality_is_local}

-- the chosen entries of an interleaving are an interleaving of the chosen entries
module _ (c : ℕ → Bool) where
  left_step : (e : Entry) (others right rest : List Entry) (b : Bool)
      → IsInterleaving (entries_on c others) (entries_on c right) (entries_on c rest)
      → IsInterleaving (cond b (e ∷ entries_on c others) (entries_on c others)) (entries_on c right)
      (cond b (e ∷ entries_on c rest) (entries_on c rest))
  left_step e others right rest true h = inl (entries_on c others, refl, h)
  left_step e others right rest false h = h

  right_step : (e : Entry) (left others rest : List Entry) (b : Bool)
      → IsInterleaving (entries_on c left) (entries_on c others) (entries_on c rest)
      → IsInterleaving (entries_on c left) (cond b (e ∷ entries_on c others) (entries_on c others))
      (cond b (e ∷ entries_on c rest) (entries_on c rest))
  right_step e left others rest true h = inr (entries_on c others, refl, h)
  right_step e left others rest false h = h

  chosen_of_both : (left right both : List Entry) → IsInterleaving left right both
      → IsInterleaving (entries_on c left) (entries_on c right) (entries_on c both)
  chosen_of_both left right [] h = (ap (λ l. entries_on c l) h.0, ap (λ l. entries_on c l) h.1)
  chosen_of_both left right (e ∷ rest) (inl h) =
      rw h.1 (left_step e h.0 right rest (c (key_of e)) (chosen_of_both h.0 right rest h.2))
  chosen_of_both left right (e ∷ rest) (inr h) =
      rw h.1 (right_step e left h.0 rest (c (key_of e)) (chosen_of_both left h.0 rest h.2))

-- an interleaving with nothing is the other list
none_left : (right both : List Entry) → IsInterleaving [] right both → both ≡ right
none_left right [] h = sym h.1
none_left right (e ∷ rest) (inl h) = absurd (let no = h.1 in cc)
none_left right (e ∷ rest) (inr h) = ap (λ l. e ∷ l) (none_left h.0 rest h.2) ∙ sym h.1

none_right : (left both : List Entry) → IsInterleaving left [] both → both ≡ left
none_right left [] h = sym h.0
none_right left (e ∷ rest) (inl h) = ap (λ l. e ∷ l) (none_right h.0 rest h.2) ∙ sym h.1
none_right left (e ∷ rest) (inr h) = absurd (let no = h.1 in cc)

module _ (passes guard_max : ℕ) where
  -- of one key there are entries in one list at most
  one_key : (left right both : List Entry) → (left ≡ []) ⊎ (right ≡ []) → IsInterleaving left right both
      → Legal passes guard_max both ↔ (Legal passes guard_max left × Legal passes guard_max right)
  one_key left right both (inl none) h =
      let same : both ≡ right = none_left right both (subst (λ l. IsInterleaving l right both) none h) in
      rw (none, same) (λ legal. (tt, legal), λ legal. legal.1)
  one_key left right both (inr none) h =
      let same : both ≡ left = none_right left both (subst (λ l. IsInterleaving left l both) none h) in
      rw (none, same) (λ legal. (legal, tt), λ legal. legal.0)

pub interleavings_are_legal : InterleavingsAreLegal
interleavings_are_legal passes guard_max left right both apart h =
    let key_by_key = λ (key : ℕ). one_key passes guard_max (entries_on_key key left) (entries_on_key key right)
    (entries_on_key key both) (apart key) (chosen_of_both (λ k. k == key) left right both h) in
    let local = legality_is_local passes guard_max in (
      λ legal. (
        (local left).1 (λ key. ((key_by_key key).0 ((local both).0 legal key)).0),
        (local right).1 (λ key. ((key_by_key key).0 ((local both).0 legal key)).1),
      ),
      λ legal. (local both).1 (λ key. (key_by_key key).1 ((local left).0 legal.0 key, (local right).0 legal.1 key)),
    )
