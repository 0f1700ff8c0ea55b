-- The lines of a script with calls, one after the other.
use Rattle.std.proofs.Common.{◌≡◌, ◌∙◌, ℕ, ◌+◌, ◌-◌, ◌<◌, ◌≤◌, Bool, true, false, List, [], ◌∷◌, ◌++◌, cond, refl, ap}
use Rattle.std.proofs.Common.{take, drop, Option, Some, None}
use Rattle.std.specs.Prelude.{nat_le, if◌then◌else◌}
use Rattle.std.specs.List.{count_by, position}
use Rattle.sh_script.specs.Words.{is_newline, words_in}
use Rattle.sh_script.specs.Script.{pieces_of}
use Rattle.sh_script.proofs.Pieces.{pieces_none, pieces_some}
use Rattle.sh_script.proofs.Reading.{IsCons}
use Rattle.script_orders.specs.Calls.{steps_text, expanded, origin_from, says, is_third, first_is_third}

-- a text has a piece
cons_by : (text : List ℕ) (o : Option ℕ) → position is_newline text ≡ o → IsCons (pieces_of text)
cons_by text None e = record { first = text; others = []; is = pieces_none text e }
cons_by text (Some i) e =
    record { first = take i text; others = pieces_of (drop (i + 1) text); is = (pieces_some text i e).1 }

before_others : (line : List ℕ) (lines : List (List ℕ)) → IsCons lines
    → expanded (line ∷ lines) ≡ steps_text line ++ expanded lines
before_others line lines h = rw h.is refl

pub one_line : (line text more : List ℕ) → pieces_of text ≡ line ∷ pieces_of more
    → expanded (pieces_of text) ≡ steps_text line ++ expanded (pieces_of more)
one_line line text more cut =
    ap expanded cut ∙ before_others line (pieces_of more) (cons_by more (position is_newline more) refl)

-- ---- where a line comes from

origin_step : (n left : ℕ) (line : List ℕ) (lines : List (List ℕ)) → IsCons lines → (b : Bool)
    → nat_le left (count_by is_newline (steps_text line)) ≡ b
    → origin_from n left (line ∷ lines)
    ≡ cond b n (origin_from (n + 1) (left - count_by is_newline (steps_text line)) lines)
origin_step n left line lines h b is = rw (h.is, is) refl

pub origin_here : (n left : ℕ) (line text more : List ℕ) → pieces_of text ≡ line ∷ pieces_of more
    → nat_le left (count_by is_newline (steps_text line)) ≡ true → origin_from n left (pieces_of text) ≡ n
origin_here n left line text more cut here =
    ap (origin_from n left) cut
    ∙ origin_step n left line (pieces_of more) (cons_by more (position is_newline more) refl) true here

pub origin_on : (n left : ℕ) (line text more : List ℕ) → pieces_of text ≡ line ∷ pieces_of more
    → nat_le left (count_by is_newline (steps_text line)) ≡ false
    → origin_from n left (pieces_of text)
    ≡ origin_from (n + 1) (left - count_by is_newline (steps_text line)) (pieces_of more)
origin_on n left line text more cut not =
    ap (origin_from n left) cut
    ∙ origin_step n left line (pieces_of more) (cons_by more (position is_newline more) refl) false not

-- ---- whether a script has calls

third_step : (line : List ℕ) (lines : List (List ℕ)) → IsCons lines → (b : Bool) → says (words_in line) ≡ b
    → first_is_third (line ∷ lines) ≡ cond b (is_third (words_in line)) (first_is_third lines)
third_step line lines h b is = rw (h.is, is) refl

pub third_here : (line text more : List ℕ) → pieces_of text ≡ line ∷ pieces_of more
    → says (words_in line) ≡ true → first_is_third (pieces_of text) ≡ is_third (words_in line)
third_here line text more cut here =
    ap first_is_third cut ∙ third_step line (pieces_of more) (cons_by more (position is_newline more) refl) true here

pub third_on : (line text more : List ℕ) → pieces_of text ≡ line ∷ pieces_of more
    → says (words_in line) ≡ false → first_is_third (pieces_of text) ≡ first_is_third (pieces_of more)
third_on line text more cut not =
    ap first_is_third cut ∙ third_step line (pieces_of more) (cons_by more (position is_newline more) refl) false not
