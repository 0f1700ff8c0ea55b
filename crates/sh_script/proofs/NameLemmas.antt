-- What a name is.
use Rattle.std.proofs.Common.{◌≡◌, ℕ, ◌≤◌, nat_le, true, List, [], ◌∷◌, length, refl, ap, ◌∙◌, leb-true, le-leb}
use Rattle.std.specs.Bool.{Decides}
use Rattle.std.specs.List.{All, list_all}
use Rattle.std.proofs.lemmas.Bool.Decides.{Decides-and, Decides-or, Decides-eqb, Decides-like, Decides-by_and}
use Rattle.sh_script.specs.Words.{Word, is_digit, is_small_letter, is_name_byte, is_name}
use Rattle.sh_script.specs.Meaning.{IsSmallLetter, IsDigit, IsNameByte, IsName}

pub le_test : (a b : ℕ) → Decides (nat_le a b) (a ≤ b)
le_test a b = (leb-true a b, le-leb a b)

letter : (b : ℕ) → Decides (is_small_letter b) (IsSmallLetter b)
letter b = Decides-like _ (λ p. record { from_a = p.0; to_z = p.1 }) (λ r. (r.from_a, r.to_z))
    (Decides-and _ _ (le_test 97 b) (le_test b 122))

digit : (b : ℕ) → Decides (is_digit b) (IsDigit b)
digit b = Decides-like _ (λ p. record { from_0 = p.0; to_9 = p.1 }) (λ r. (r.from_0, r.to_9))
    (Decides-and _ _ (le_test 48 b) (le_test b 57))

name_byte : (b : ℕ) → Decides (is_name_byte b) (IsNameByte b)
name_byte b = Decides-or _ _ (letter b) (Decides-or _ _ (digit b) (Decides-eqb b 95))

name_bytes : (bs : List ℕ) → Decides (list_all is_name_byte bs) (All IsNameByte bs)
name_bytes bs = Decides-by_and is_name_byte IsNameByte (list_all is_name_byte) name_byte refl (λ _ _. refl) bs

name_parts : (b : ℕ) (bs : List ℕ) → Decides (is_name (b ∷ bs))
    (IsSmallLetter b × ((length bs ≤ 31) × All IsNameByte bs))
name_parts b bs = Decides-and _ _ (letter b) (Decides-and _ _ (le_test (length bs) 31) (name_bytes bs))

pub name_is : (w : Word) → is_name w ≡ true → IsName w
name_is [] e = cc
name_is (b ∷ bs) e = let p = (name_parts b bs).0 e in record
    { first = b; others = bs; is = refl; letter = p.0; few = p.1.0; others_are = p.1.1 }

pub name_gives : (w : Word) → IsName w → is_name w ≡ true
name_gives w h = ap is_name h.is ∙ (name_parts h.first h.others).1 (h.letter, (h.few, h.others_are))
