-- The newest note of each number says what all notes say.
use Rattle.std.proofs.Common.{◌≡◌, ℕ, ◌==◌, Bool, true, false, cond, List, [], ◌∷◌, Some, None, refl, sym, ap, ◌∙◌}
use Rattle.std.proofs.Common.{arith, eq-eqb}
use Rattle.std.proofs.lemmas.Bool.{cond-true}
use Rattle.std.proofs.lemmas.Bool.Decides.{nat_tests}
use Rattle.sh_step.specs.Collections.{noted, off}
use Rattle.sh_step.specs.Notes.{NoteTheSame}

pub noted_now : (q n : ℕ) (xs : List (ℕ × ℕ)) → noted q ((q, n) ∷ xs) ≡ Some n
unfolding noted
noted_now q n xs = cond-true (q == q) (Some n) (noted q xs) (eq-eqb q q refl)

-- a number's notes are gone, and those of another stay
noted_off_same : (k : ℕ) (xs : List (ℕ × ℕ)) → noted k (off (λ x. x.0 == k) xs) ≡ None
unfolding noted off
noted_off_same k [] = refl
noted_off_same k (x ∷ xs) = go (x.0 == k) refl (noted_off_same k xs) where
  go : (b : Bool) → (x.0 == k) ≡ b → noted k (off (λ x. x.0 == k) xs) ≡ None
      → noted k (cond b (off (λ x. x.0 == k) xs) (x ∷ off (λ x. x.0 == k) xs)) ≡ None
  go true is rest = rest
  go false is rest = ap (λ b. cond b (Some x.1) (noted k (off (λ x. x.0 == k) xs))) is ∙ rest

noted_off_other : (q k : ℕ) (xs : List (ℕ × ℕ)) → (k == q) ≡ false
    → noted q (off (λ x. x.0 == k) xs) ≡ noted q xs
unfolding noted off
noted_off_other q k [] other = refl
noted_off_other q k (x ∷ xs) other = go (x.0 == k) refl (noted_off_other q k xs other) where
  go : (b : Bool) → (x.0 == k) ≡ b → noted q (off (λ x. x.0 == k) xs) ≡ noted q xs
      → noted q (cond b (off (λ x. x.0 == k) xs) (x ∷ off (λ x. x.0 == k) xs)) ≡ cond (x.0 == q) (Some x.1) (noted q xs)
  go true is rest = let no : (x.0 == q) ≡ false = grind (arith, nat_tests) in
      rest ∙ sym (ap (λ b. cond b (Some x.1) (noted q xs)) no)
  go false is rest = ap (λ o. cond (x.0 == q) (Some x.1) o) rest

-- one more note
one_more_note : (k n : ℕ) (newest notes : List (ℕ × ℕ)) → NoteTheSame newest notes
    → NoteTheSame ((k, n) ∷ off (λ x. x.0 == k) newest) ((k, n) ∷ notes)
unfolding noted NoteTheSame
one_more_note k n newest notes same q = go (k == q) refl where
  go : (b : Bool) → (k == q) ≡ b → cond b (Some n) (noted q (off (λ x. x.0 == k) newest))
      ≡ cond b (Some n) (noted q notes)
  go true is = refl
  go false is = noted_off_other q k newest is ∙ same q

-- no note of a number
no_more_notes : (k : ℕ) (newest notes : List (ℕ × ℕ)) → NoteTheSame newest notes
    → NoteTheSame (off (λ x. x.0 == k) newest) (off (λ x. x.0 == k) notes)
unfolding NoteTheSame
no_more_notes k newest notes same q = go (k == q) refl where
  go : (b : Bool) → (k == q) ≡ b → noted q (off (λ x. x.0 == k) newest) ≡ noted q (off (λ x. x.0 == k) notes)
  go true is = let e : k ≡ q = grind (arith, nat_tests) in
      ap (λ j. noted j (off (λ x. x.0 == k) newest)) (sym e) ∙ (noted_off_same k newest
      ∙ sym (ap (λ j. noted j (off (λ x. x.0 == k) notes)) (sym e) ∙ noted_off_same k notes))
  go false is = noted_off_other q k newest is ∙ (same q ∙ sym (noted_off_other q k notes is))

-- a note joined both, and the newest took the place of an older one
pub note_joins : (k n : ℕ) (newest notes newest2 notes2 : List (ℕ × ℕ))
    → newest2 ≡ (k, n) ∷ off (λ x. x.0 == k) newest → notes2 ≡ (k, n) ∷ notes → NoteTheSame newest notes
    → NoteTheSame newest2 notes2
unfolding NoteTheSame
note_joins k n newest notes newest2 notes2 a b same q =
    ap (noted q) a ∙ (one_more_note k n newest notes same q ∙ sym (ap (noted q) b))

-- the notes of a number left both
pub notes_leave : (k : ℕ) (newest notes newest2 notes2 : List (ℕ × ℕ)) → newest2 ≡ off (λ x. x.0 == k) newest
    → notes2 ≡ off (λ x. x.0 == k) notes → NoteTheSame newest notes → NoteTheSame newest2 notes2
unfolding NoteTheSame
notes_leave k newest notes newest2 notes2 a b same q =
    ap (noted q) a ∙ (no_more_notes k newest notes same q ∙ sym (ap (noted q) b))

-- what is noted of a number
pub noted_newest : (q : ℕ) (newest notes : List (ℕ × ℕ)) → NoteTheSame newest notes → noted q newest ≡ noted q notes
unfolding NoteTheSame
noted_newest q newest notes same = same q

-- nothing is noted, in both
pub none_noted : (newest notes : List (ℕ × ℕ)) → newest ≡ [] → notes ≡ [] → NoteTheSame newest notes
unfolding NoteTheSame
none_noted newest notes none all q = ap (noted q) (none ∙ sym all)
