-- Reading gives what the grammar says, and (begin start) otherwise.
use Rattle.std.proofs.Common.{◌≡◌, ℕ, ◌+◌, ◌<◌, ◌≤◌, ◌⊎◌, inl, inr, Bool, true, false, List, [], ◌∷◌, ◌++◌, length}
use Rattle.std.proofs.Common.{Result, Ok, Err, refl, sym, ap, ap₂, subst, ◌∙◌, nat_lt, arith, lt-ltb, ltb-true}
use Rattle.std.proofs.Common.{ltb-false}
use Rattle.sh_script.specs.Trouble.{at_line}
use Rattle.sh_script.specs.Script.{Adds, begin, after_line, ended, headed, pieces_of, read_from, script_of}
use Rattle.sh_script.specs.Grammar.{Means, IsText, Leads, IsScript, IsFault}
use Rattle.sh_script.proofs.Reading.{IsCons, one_more, within}
use Rattle.sh_script.proofs.LineLemmas.{line_means, line_is_read}
use Rattle.sh_script.proofs.TextLemmas.{IsCut, cut, pieces_spelled}
use Rattle.sh_script.specs.declared.fault.Cause.TheVariants as cause
use Rattle.sh_script.specs.declared.trouble.Trouble.{Trouble}
use Rattle.sh_script.specs.declared.fault.Fault.{Fault}
use Rattle.sh_script.specs.declared.fault.Fault.TheVariants as fault
use Rattle.sh_script.specs.declared.header.Header.{Header}
use Rattle.sh_script.specs.declared.header.Opening.{Opening}
use Rattle.sh_script.specs.declared.header.Opening.TheVariants as opening
use Rattle.sh_script.specs.declared.reader.Read.{Read}
use Rattle.sh_script.proofs.Steps.{fine_is, Agrees}

-- ---- reading line by line

cons_app : (ls : List (List ℕ)) (rest : List ℕ) → IsCons (ls ++ rest ∷ [])
cons_app [] rest = record { first = rest; others = []; is = refl }
cons_app (l ∷ ls) rest = record { first = l; others = ls ++ rest ∷ []; is = refl }

step_ok : {S : Type 0} (adds : Adds S) (r m : Read S) (n : ℕ) (l : List ℕ) (ls : List (List ℕ)) (rest : List ℕ)
    → after_line adds r l ≡ Ok m → read_from adds r n (l ∷ (ls ++ rest ∷ []))
    ≡ read_from adds m (n + 1) (ls ++ rest ∷ [])
step_ok adds r m n l ls rest e = one_more adds r n l (ls ++ rest ∷ []) (cons_app ls rest) ∙ rw e refl

step_err : {S : Type 0} (adds : Adds S) (r : Read S) (t : Trouble) (n : ℕ) (l : List ℕ) (ls : List (List ℕ))
    (rest : List ℕ) → after_line adds r l ≡ Err t → read_from adds r n (l ∷ (ls ++ rest ∷ [])) ≡ Err (at_line n t)
step_err adds r t n l ls rest e = one_more adds r n l (ls ++ rest ∷ []) (cons_app ls rest) ∙ rw e refl

walks : {S : Type 0} (adds : Adds S) (means : Means S) (agree : Agrees adds means) (ls : List (List ℕ)) (r t : Read S)
    (n : ℕ) (rest : List ℕ) → Leads means r ls t → read_from adds r n (ls ++ rest ∷ []) ≡ ended t (n + length ls) rest
walks adds means agree [] r t n rest h = let k : n ≡ n + 0 = omega arith in ap (λ x. ended x n rest) h
    ∙ ap (λ x. ended t x rest) k
walks adds means agree (l ∷ ls) r t n rest h =
    let k : (n + 1) + length ls ≡ n + length (l ∷ ls) = omega arith in
    step_ok adds r h.0 n l ls rest (line_is_read adds means agree r l h.0 h.1)
    ∙ walks adds means agree ls h.0 t (n + 1) rest h.2 ∙ ap (λ x. ended t x rest) k

breaks : {S : Type 0} (adds : Adds S) (means : Means S) (agree : Agrees adds means) (before : List (List ℕ))
    (r m : Read S) (n : ℕ) (bad : List ℕ) (after : List (List ℕ)) (rest : List ℕ) (trouble : Trouble)
    → Leads means r before m → after_line adds m bad ≡ Err trouble
    → read_from adds r n ((before ++ bad ∷ after) ++ rest ∷ []) ≡ Err (at_line (n + length before) trouble)
breaks adds means agree [] r m n bad after rest trouble h e =
    let k : n ≡ n + 0 = omega arith in
    let here : after_line adds r bad ≡ Err trouble = ap (λ x. after_line adds x bad) h ∙ e in
    step_err adds r trouble n bad after rest here ∙ ap (λ x. Err (at_line x trouble)) k
breaks adds means agree (l ∷ ls) r m n bad after rest trouble h e =
    let k : (n + 1) + length ls ≡ n + length (l ∷ ls) = omega arith in
    step_ok adds r h.0 n l (ls ++ bad ∷ after) rest (line_is_read adds means agree r l h.0 h.1)
    ∙ breaks adds means agree ls h.0 m (n + 1) bad after rest trouble h.2 e ∙ ap (λ x. Err (at_line x trouble)) k

record Through {S : Type 0} (adds : Adds S) (means : Means S) (r : Read S) (n : ℕ) (ls : List (List ℕ))
    (rest : List ℕ) : Type 0 where
  now : Read S
  leads : Leads means r ls now
  is : read_from adds r n (ls ++ rest ∷ []) ≡ ended now (n + length ls) rest

record Broken {S : Type 0} (adds : Adds S) (means : Means S) (r : Read S) (n : ℕ) (ls : List (List ℕ)) (rest : List ℕ) :
    Type 0 where
  before : List (List ℕ)
  bad : List ℕ
  after : List (List ℕ)
  now : Read S
  trouble : Trouble
  split : ls ≡ before ++ bad ∷ after
  leads : Leads means r before now
  bad_is : after_line adds now bad ≡ Err trouble
  is : read_from adds r n (ls ++ rest ∷ []) ≡ Err (at_line (n + length before) trouble)

by_step : {S : Type 0} (adds : Adds S) (means : Means S) (agree : Agrees adds means) (l : List ℕ) (ls : List (List ℕ))
    (r : Read S) (n : ℕ) (rest : List ℕ) (o : Result (Read S) Trouble) → after_line adds r l ≡ o
    → ((m : Read S) → Through adds means m (n + 1) ls rest ⊎ Broken adds means m (n + 1) ls rest)
    → Through adds means r n (l ∷ ls) rest ⊎ Broken adds means r n (l ∷ ls) rest
by_step adds means agree l ls r n rest (Ok m) e next = elim (next m) [
  | inl w ↦ let k : (n + 1) + length ls ≡ n + length (l ∷ ls) = omega arith in
      inl (record {
        now = w.now;
        leads = (m, line_means adds means agree r l m e, w.leads);
        is = step_ok adds r m n l ls
            rest e ∙ w.is ∙ ap (λ x. ended w.now x rest) k;
      })
  | inr w ↦ let k : (n + 1) + length w.before ≡ n + length (l ∷ w.before) = omega arith in
      inr (record {
        before = l ∷ w.before;
        bad = w.bad;
        after = w.after;
        now = w.now;
        trouble = w.trouble;
        split = ap (λ xs. l ∷ xs) w.split;
        leads = (m, line_means adds means agree r l m e, w.leads);
        bad_is = w.bad_is;
        is = step_ok adds r m n l ls rest e ∙ w.is ∙ ap (λ x. Err (at_line x w.trouble)) k;
      })
]
by_step adds means agree l ls r n rest (Err t) e next =
    let k : n ≡ n + 0 = omega arith in
    inr (record {
      before = [];
      bad = l;
      after = ls;
      now = r;
      trouble = t;
      split = refl;
      leads = refl;
      bad_is = e;
      is =
          step_err adds r t n l ls rest e ∙ ap (λ x. Err (at_line x t)) k;
    })

outcome : {S : Type 0} (adds : Adds S) (means : Means S) (agree : Agrees adds means) (ls : List (List ℕ)) (r : Read S)
    (n : ℕ) (rest : List ℕ) → Through adds means r n ls rest ⊎ Broken adds means r n ls rest
outcome adds means agree [] r n rest = let k : n ≡ n + 0 = omega arith
    in inl (record { now = r; leads = refl; is = ap (λ x. ended r x rest) k })
outcome adds means agree (l ∷ ls) r n rest = by_step adds means agree l ls r n rest (after_line adds r l) refl
    (λ m. outcome adds means agree ls m (n + 1) rest)

-- ---- the whole script

too_long : {S : Type 0} (adds : Adds S) (start : S) (text : List ℕ) → 1048576 < length text → script_of adds start text
    ≡ Err (fault.Script 0 cause.Size)
too_long adds start text h = rw (lt-ltb _ _ h) refl

as_read : {S : Type 0} (adds : Adds S) (start : S) (text : List ℕ) (lines : List (List ℕ)) (rest : List ℕ)
    → IsText text lines rest → script_of adds start text ≡ read_from adds (begin start) 1 (lines ++ rest ∷ [])
as_read adds start text lines rest h = sym (within adds start text h.short)
    ∙ ap (read_from adds (begin start) 1) (ap pieces_of h.spelled ∙ pieces_spelled lines rest h.lines_are h.rest_is)

pub script_only : {S : Type 0} (adds : Adds S) (means : Means S) (agree : Agrees adds means) (start : S) (text : List ℕ)
    (header : Header) (body : S) → IsScript means start text header body → script_of adds start text ≡ Ok (header, body)
script_only {S = S} adds means agree start text header body w =
    as_read adds start text w.lines [] w.is_text ∙ walks adds means agree w.lines (begin start) w.now 1 [] w.leads
    ∙ ap₂ (λ (o : Opening) (b : S). headed (1 + length w.lines) o b) w.header_is w.body_is

pub fault_only : {S : Type 0} (adds : Adds S) (means : Means S) (agree : Agrees adds means) (start : S) (text : List ℕ)
    (f : Fault) → IsFault means adds start text f → script_of adds start text ≡ Err f
fault_only adds means agree start text f (inl w) = too_long adds start text w.long
    ∙ ap (λ (x : Fault). Err x) (sym w.is)
fault_only adds means agree start text f (inr (inl w)) =
    as_read adds start text (w.before ++ w.bad ∷ w.after) w.rest w.is_text
    ∙ breaks adds means agree w.before (begin start) w.now 1 w.bad w.after w.rest w.trouble w.leads w.bad_is
    ∙ ap (λ (x : Fault). Err x) (sym w.is)
fault_only adds means agree start text f (inr (inr w)) = as_read adds start text w.lines w.rest w.is_text
    ∙ walks adds means agree w.lines (begin start) w.now 1 w.rest w.leads ∙ w.is

ok_no_err : {A E : Type 0} (x : A) (e : E) (r : Result A E) → r ≡ Ok x → r ≡ Err e → ⊥
ok_no_err x e r p q = cc

headed_ok : {S : Type 0} (n : ℕ) (o : Opening) (b : S) (h : Header) (c : S) → headed n o b ≡ Ok (h, c)
    → (o ≡ opening.Headed h) × (b ≡ c)
headed_ok n opening.Unread b h c e = cc
headed_ok n opening.Versioned b h c e = cc
headed_ok n (opening.Headed x) b h c e = let same = fine_is (x, b) (h, c) e
    in (ap (λ p. opening.Headed p.0) same, ap (λ p. p.1) same)

ended_ok : {S : Type 0} (r : Read S) (n : ℕ) (rest : List ℕ) (h : Header) (c : S) → ended r n rest ≡ Ok (h, c)
    → (rest ≡ []) × (r.opening ≡ opening.Headed h) × (r.body ≡ c)
ended_ok r n [] h c e = let p = headed_ok n r.opening r.body h c e in (refl, p.0, p.1)
ended_ok r n (b ∷ bs) h c e = cc

-- what a text of at most the limit gives
record IsEither {S : Type 0} (adds : Adds S) (means : Means S) (start : S) (text : List ℕ) (w : IsCut text) : Type 0
  where
    is_text : IsText text w.lines w.rest
    ways : Through adds means (begin start) 1 w.lines w.rest ⊎ Broken adds means (begin start) 1 w.lines w.rest

either : {S : Type 0} (adds : Adds S) (means : Means S) (agree : Agrees adds means) (start : S) (text : List ℕ)
    (w : IsCut text) → length text ≤ 1048576 → IsEither adds means start text w
either adds means agree start text w h = record {
  is_text = record { spelled = w.spelled; lines_are = w.lines_are; rest_is = w.rest_is; short = h };
  ways = outcome adds means agree w.lines (begin start) 1 w.rest;
}

found_script : {S : Type 0} (adds : Adds S) (means : Means S) (agree : Agrees adds means) (start : S) (text : List ℕ)
    (header : Header) (body : S) (w : IsCut text) → IsEither adds means start text w → script_of adds start text
    ≡ Ok (header, body) → IsScript means start text header body
found_script adds means agree start text header body w x e = elim x.ways [
  | inl t ↦
      let all = ended_ok t.now (1 + length w.lines) w.rest header body
      (sym (as_read adds start text w.lines w.rest x.is_text ∙ t.is) ∙ e) in
      record {
        lines = w.lines;
        now = t.now;
        is_text = subst (IsText text w.lines) all.0 x.is_text;
        leads = t.leads;
        header_is = all.1;
        body_is = all.2;
      }
  | inr b ↦ absurd (ok_no_err (header, body) (at_line (1 + length b.before) b.trouble) (script_of adds start text) e
      (as_read adds start text w.lines w.rest x.is_text ∙ b.is))
]

pub script_found : {S : Type 0} (adds : Adds S) (means : Means S) (agree : Agrees adds means) (start : S)
    (text : List ℕ) (header : Header) (body : S) → script_of adds start text ≡ Ok (header, body)
    → IsScript means start text header body
script_found adds means agree start text header body e = by (nat_lt 1048576 (length text)) refl
  where
    by : (t : Bool) → nat_lt 1048576 (length text) ≡ t → IsScript means start text header body
    by true long = absurd (ok_no_err (header, body) (fault.Script 0 cause.Size) (script_of adds start text) e
        (too_long adds start text (ltb-true _ _ long)))
    by false short = found_script adds means agree start text header body (cut text)
        (either adds means agree start text (cut text) (ltb-false _ _ short)) e

found_fault : {S : Type 0} (adds : Adds S) (means : Means S) (agree : Agrees adds means) (start : S) (text : List ℕ)
    (f : Fault) (w : IsCut text) → IsEither adds means start text w → script_of adds start text ≡ Err f
    → IsFault means adds start text f
found_fault adds means agree start text f w x e = elim x.ways [
  | inl t ↦ inr (inr (record {
    lines = w.lines;
    rest = w.rest;
    now = t.now;
    is_text = x.is_text;
    leads = t.leads;
    is =
        sym (as_read adds start text w.lines w.rest x.is_text ∙ t.is) ∙ e;
  }))
  | inr b ↦
      let same : Err f ≡ Err (at_line (1 + length b.before) b.trouble) = sym e
      ∙ as_read adds start text w.lines w.rest x.is_text ∙ b.is in
      inr (inl (record {
        before = b.before;
        bad = b.bad;
        after = b.after;
        rest = w.rest;
        now = b.now;
        trouble = b.trouble;
        is_text = subst (λ ls. IsText text ls w.rest) b.split x.is_text;
        leads = b.leads;
        bad_is = b.bad_is;
        is = cc;
      }))
]

pub fault_found : {S : Type 0} (adds : Adds S) (means : Means S) (agree : Agrees adds means) (start : S) (text : List ℕ)
    (f : Fault) → script_of adds start text ≡ Err f → IsFault means adds start text f
fault_found adds means agree start text f e = by (nat_lt 1048576 (length text)) refl
  where
    by : (t : Bool) → nat_lt 1048576 (length text) ≡ t → IsFault means adds start text f
    by true long = let same : Err f ≡ Err (fault.Script 0 cause.Size) = sym e
        ∙ too_long adds start text (ltb-true _ _ long) in inl (record { long = ltb-true _ _ long; is = cc })
    by false short = found_fault adds means agree start text f (cut text)
        (either adds means agree start text (cut text) (ltb-false _ _ short)) e
