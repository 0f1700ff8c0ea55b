-- Reading line by line, as a loop does.
use Rattle.std.proofs.Common.{◌≡◌, ℕ, ◌+◌, ◌≤◌, Bool, true, false, List, [], ◌∷◌, length, cond, Result, Ok, refl, sym}
use Rattle.std.proofs.Common.{ap, subst, ◌∙◌, le-ltb}
use Rattle.std.specs.List.{onto_first}
use Rattle.sh_script.specs.Words.{is_newline}
use Rattle.sh_script.specs.Trouble.{◌>>=◌, placed, FailsWith}
use Rattle.sh_script.specs.Script.{Adds, begin, after_line, pieces_of, read_from, script_of}
use Rattle.sh_script.specs.declared.fault.Fault.{Fault}
use Rattle.sh_script.specs.declared.fault.Fault.TheVariants as fault
use Rattle.sh_script.specs.declared.header.Header.{Header}
use Rattle.sh_script.specs.declared.reader.Read.{Read}

-- a list that has a first element
pub record IsCons (xs : List (List ℕ)) : Type 0 where
  pub first : List ℕ
  pub others : List (List ℕ)
  pub is : xs ≡ first ∷ others

onto_cons : (b : ℕ) (xs : List (List ℕ)) → IsCons (onto_first b xs)
onto_cons b [] = record { first = b ∷ []; others = []; is = refl }
onto_cons b (x ∷ xs) = record { first = b ∷ x; others = xs; is = refl }

either_cons : (t : Bool) (b : ℕ) (xs : List (List ℕ)) → IsCons (cond t ([] ∷ xs) (onto_first b xs))
either_cons true b xs = record { first = []; others = xs; is = refl }
either_cons false b xs = onto_cons b xs

-- a text has a piece
pieces_cons : (text : List ℕ) → IsCons (pieces_of text)
pieces_cons [] = record { first = []; others = []; is = refl }
pieces_cons (b ∷ bs) = either_cons (is_newline b) b (pieces_of bs)

pub one_more : {S : Type 0} (adds : Adds S) (r : Read S) (n : ℕ) (line : List ℕ) (xs : List (List ℕ)) → IsCons xs
    → read_from adds r n (line ∷ xs) ≡ (placed n (after_line adds r line) >>= λ t. read_from adds t (n + 1) xs)
one_more adds r n line xs h = rw h.is refl

pub goes_on : {S : Type 0} (adds : Adds S) (r t : Read S) (n : ℕ) (line rest more : List ℕ)
    (total : Result (Header × S) Fault) → pieces_of rest ≡ line ∷ pieces_of more
    → placed n (after_line adds r line) ≡ Ok t → read_from adds r n (pieces_of rest) ≡ total
    → read_from adds t (n + 1) (pieces_of more) ≡ total
goes_on {S = S} adds r t n line rest more total cut reads so_far =
    sym (one_more adds r n line (pieces_of more) (pieces_cons more)
    ∙ ap (λ (p : Result (Read S) Fault). p >>= λ u. read_from adds u (n + 1) (pieces_of more)) reads)
    ∙ ap (read_from adds r n) (sym cut) ∙ so_far

fails_through : {A B : Type 0} (e : Fault) (p : Result A Fault) (f : A → Result B Fault) → FailsWith e p
    → FailsWith e (p >>= f)
fails_through fault.Memory p f h = tt
fails_through fault.Waiting p f h = rw h refl
fails_through fault.BadShape p f h = rw h refl
fails_through (fault.Script n c) p f h = rw h refl
fails_through fault.Io p f h = rw h refl

pub ends : {S : Type 0} (adds : Adds S) (e : Fault) (r : Read S) (n : ℕ) (line rest more : List ℕ)
    (total : Result (Header × S) Fault) → pieces_of rest ≡ line ∷ pieces_of more
    → FailsWith e (placed n (after_line adds r line)) → read_from adds r n (pieces_of rest) ≡ total → FailsWith e total
ends {S = S} adds e r n line rest more total cut reads so_far =
    let P : Result (Header × S) Fault → Type 0 = λ x. FailsWith e x in
    subst P (sym (one_more adds r n line (pieces_of more) (pieces_cons more)) ∙ ap (read_from adds r n) (sym cut)
    ∙ so_far)
    (fails_through e (placed n (after_line adds r line)) (λ t. read_from adds t (n + 1) (pieces_of more)) reads)

pub within : {S : Type 0} (adds : Adds S) (start : S) (text : List ℕ) → length text ≤ 1048576
    → read_from adds (begin start) 1 (pieces_of text) ≡ script_of adds start text
within adds start text h = rw (le-ltb _ _ h) refl
