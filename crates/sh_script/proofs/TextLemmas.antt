-- A text is cut at its newlines into the lines that it is spelled from.
use Rattle.std.proofs.Common.{◌≡◌, ◌≢◌, ℕ, Bool, true, false, List, [], ◌∷◌, ◌++◌, refl, ap, ap₂, ◌∙◌, eqb-true, eq-eqb}
use Rattle.std.proofs.Common.{ne_eqb}
use Rattle.std.specs.List.{All, slice_split, onto_first}
use Rattle.std.proofs.lemmas.List.Elements.{All-nil, All-cons, All-head, All-tail}
use Rattle.std.proofs.lemmas.List.Splits.{slice_split-cons_yes, slice_split-cons_no}
use Rattle.sh_script.specs.Words.{is_newline}
use Rattle.sh_script.specs.Script.{pieces_of}
use Rattle.sh_script.specs.Grammar.{IsLine, spelling}
use Rattle.sh_script.proofs.Steps.{not_both}

no_newline : (b : ℕ) (bs : List ℕ) → IsLine (b ∷ bs) → is_newline b ≡ false
no_newline b bs h = let ne : b ≢ 10 = All-head (λ x. x ≢ 10) b bs h in ne_eqb b 10 ne

others_too : (b : ℕ) (bs : List ℕ) → IsLine (b ∷ bs) → IsLine bs
others_too b bs h = All-tail (λ x. x ≢ 10) b bs h

line_cons : (b : ℕ) (bs : List ℕ) → is_newline b ≡ false → IsLine bs → IsLine (b ∷ bs)
line_cons b bs e h = All-cons (λ x. x ≢ 10) b bs (λ same. not_both _ (eq-eqb b 10 same) e) h

pub empty_line : IsLine []
empty_line = All-nil (λ x. x ≢ 10)

piece_of_line : (l ys : List ℕ) → IsLine l → slice_split is_newline (l ++ 10 ∷ ys) ≡ l ∷ slice_split is_newline ys
piece_of_line [] ys h = slice_split-cons_yes is_newline 10 ys refl
piece_of_line (b ∷ bs) ys h = slice_split-cons_no is_newline b (bs ++ 10 ∷ ys) (no_newline b bs h)
    ∙ ap (onto_first b) (piece_of_line bs ys (others_too b bs h))

piece_of_rest : (l : List ℕ) → IsLine l → slice_split is_newline l ≡ l ∷ []
piece_of_rest [] h = refl
piece_of_rest (b ∷ bs) h = slice_split-cons_no is_newline b bs (no_newline b bs h)
    ∙ ap (onto_first b) (piece_of_rest bs (others_too b bs h))

pub pieces_spelled : (ls : List (List ℕ)) (rest : List ℕ) → All IsLine ls → IsLine rest → pieces_of (spelling ls rest)
    ≡ ls ++ rest ∷ []
pieces_spelled [] rest h r = piece_of_rest rest r
pieces_spelled (l ∷ ls) rest h r = piece_of_line l (spelling ls rest) (All-head IsLine l ls h)
    ∙ ap (λ xs. l ∷ xs) (pieces_spelled ls rest (All-tail IsLine l ls h) r)

-- a text cut at its newlines
pub record IsCut (text : List ℕ) : Type 0 where
  pub lines : List (List ℕ)
  pub rest : List ℕ
  pub spelled : text ≡ spelling lines rest
  pub lines_are : All IsLine lines
  pub rest_is : IsLine rest

cut_on : (b : ℕ) (bs rest : List ℕ) (lines : List (List ℕ)) → bs ≡ spelling lines rest → All IsLine lines → IsLine rest
    → is_newline b ≡ false → IsCut (b ∷ bs)
cut_on b bs rest [] e h r n = record {
  lines = [];
  rest = b ∷ rest;
  spelled = ap (λ xs. b ∷ xs) e;
  lines_are = h;
  rest_is = line_cons b rest n r;
}
cut_on b bs rest (l ∷ ls) e h r n = record {
  lines = (b ∷ l) ∷ ls;
  rest = rest;
  spelled = ap (λ xs. b ∷ xs) e;
  lines_are = All-cons IsLine (b ∷ l) ls (line_cons b l n (All-head IsLine l ls h)) (All-tail IsLine l ls h);
  rest_is = r;
}

newline_is : (b : ℕ) → is_newline b ≡ true → b ≡ 10
newline_is b e = eqb-true b 10 e

cut_by : (b : ℕ) (bs : List ℕ) (t : Bool) → is_newline b ≡ t → IsCut bs → IsCut (b ∷ bs)
cut_by b bs true e w = record {
  lines = [] ∷ w.lines;
  rest = w.rest;
  spelled = ap₂ (λ (x : ℕ) (xs : List ℕ). x ∷ xs) (newline_is b e) w.spelled;
  lines_are = All-cons IsLine [] w.lines empty_line w.lines_are;
  rest_is = w.rest_is;
}
cut_by b bs false e w = cut_on b bs w.rest w.lines w.spelled w.lines_are w.rest_is e

pub cut : (text : List ℕ) → IsCut text
cut [] = record { lines = []; rest = []; spelled = refl; lines_are = All-nil IsLine; rest_is = empty_line }
cut (b ∷ bs) = cut_by b bs (is_newline b) refl (cut bs)
