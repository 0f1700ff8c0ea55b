-- The first line of a text, and the rest.
use Rattle.std.proofs.Common.{◌≡◌, ℕ, ◌+◌, ◌<◌, ◌≤◌, Bool, true, false, List, [], ◌∷◌, take, drop, length, cond, Some}
use Rattle.std.proofs.Common.{None, refl, subst, arith, ltb-true, ltb-false}
use Rattle.std.specs.List.{position, position_or_len}
use Rattle.std.proofs.lemmas.List.Splits.{slice_split_first, slice_split_none}
use Rattle.std.proofs.lemmas.List.Sums.{fails_before_first}
use Rattle.std.proofs.lemmas.Option.{cond_some}
use Rattle.sh_script.specs.Words.{is_newline}
use Rattle.sh_script.specs.Script.{pieces_of}

cond_none : {A : Type 0} (b : Bool) (x : A) → cond b (Some x) None ≡ None → b ≡ false
cond_none true x e = cc
cond_none false x e = refl

pub pieces_none : (text : List ℕ) → position is_newline text ≡ None → pieces_of text ≡ text ∷ []
pieces_none text e =
    let none : length text ≤ position_or_len is_newline text = ltb-false _ _ (cond_none _ _ e) in
    slice_split_none is_newline text
    (λ k d inside. fails_before_first is_newline text k d (omega (arith, none, inside)))

pub pieces_some : (text : List ℕ) (i : ℕ) → position is_newline text ≡ Some i → (i < length text)
    × (pieces_of text ≡ take i text ∷ pieces_of (drop (i + 1) text))
pieces_some text i e =
    let h = cond_some _ _ _ e in
    let lt : position_or_len is_newline text < length text = ltb-true _ _ h.0 in
    let P : ℕ → Type 0 = λ k. (k < length text) × (pieces_of text ≡ take k text ∷ pieces_of (drop (k + 1) text)) in
    subst P h.1 (lt, slice_split_first is_newline text 0 lt)
