-- One more line, whose answer is put among the replies.
use Rattle.std.proofs.Common.{◌≡◌, ◌≢◌, ℕ, zero, suc, ◌+◌, ◌≤◌, eq-eqb, ne_eqb, Bool, cond, List, [], ◌∷◌, ◌++◌}
use Rattle.std.proofs.Common.{length, take, drop, set, slice_get, Option, Some, sym, refl, ap, ◌∙◌, subst, arith}
use Rattle.std.proofs.Common.{length-set, length-append, add-one, map, true, false, ⊎_elim}
use Rattle.std.specs.Prelude.{filter}
use Rattle.std.proofs.lemmas.List.Elements.{filter-append}
use Rattle.std.proofs.lemmas.Option.{none-some, same_Some, slice_get_within}
use mathlib.Core.Logic.{dite}
use native.Mathlib.Decide.{ℕ_discrete}
use Rattle.sh_script.specs.declared.calls.Call.{Call}
use Rattle.sh_script.specs.declared.calls.Call.TheVariants as call
use Rattle.sh_script.specs.declared.calls.Reference.TheVariants as reference
use Rattle.sh_script.specs.declared.calls.CallLine.{CallLine}
use Rattle.sh_script.specs.BoundNames.{binds, names_in}
use Rattle.script_output.specs.declared.answer.Answer.{Answer}
use Rattle.script_calls.specs.Parts.{RunTerms, PassPart, SeenPass, new_pass}
use Rattle.script_calls.specs.Calls.{CallAnswers, number_told}
use Rattle.script_output.specs.Replies.{reply_line, replies_text}
use Rattle.script_calls.specs.Runs.{CallsRun, LineAnswered, LinesAnswered, opening_calls, next_run, with_part}
use Rattle.script_calls.specs.Runs.{with_number}
use Rattle.script_calls.specs.Runs.{number_bound, number_meant}
use Rattle.script_calls.specs.Alone.{seen_with_part}
use Rattle.script_calls.specs.InOrder.{entries_added}
use Rattle.script_calls.specs.Meeting.{orders_of}
use Rattle.script_calls.specs.Named.{HeardOfEntries, NamesWereHeard}
use Rattle.script_calls.proofs.NameLemmas.{added_left, answers_all, counts_after, heard_more, heard_kept, orders_at}
use Rattle.script_calls.proofs.NameLemmas.{take_left}
use Rattle.script_calls.proofs.ListLemmas.{get_some, get_snoc, map_more, take_at, take_past}
use Rattle.script_calls.proofs.LineLemmas.{OneMore, one_more, part_here, part_there}
use Rattle.script_calls.proofs.Newcomers.{get_middle}
use Rattle.script_workers.specs.declared.board.Bound.{Bound}
use Rattle.script_workers.specs.declared.worker.Made.{Made}
use Rattle.script_workers.specs.Works.{own_calls, bound_by, bound_number, HeardOfBound, CallMade, CallsMade, IsWork}
use Rattle.script_workers.specs.Gathers.{HaveEnded}
use Rattle.script_workers.specs.Merges.{AreNames, bound_at, bound_needed, number_in, MergedSoFar, AllAnswered}
use Rattle.sh_table.specs.Seats.{Heap}
use Rattle.sh_core.proofs.Sums.Totals.{get_set_here}
use Rattle.sh_table.proofs.Zips.{set_other}
use Rattle.sh_history.proofs.ByPlace.{get_front}

-- ---- lists

drop_at : {A : Type 0} (xs : List A) (i : ℕ) (x : A) → slice_get xs i ≡ Some x → drop i xs ≡ x ∷ drop (suc i) xs
drop_at [] i x e = absurd (none-some x e)
drop_at (y ∷ ys) zero x e = ap (λ z. z ∷ ys) (same_Some y x e)
drop_at (y ∷ ys) (suc i) x e = drop_at ys i x e

drop_past : {A : Type 0} (xs : List A) (n : ℕ) → length xs ≤ n → drop n xs ≡ []
drop_past [] zero h = refl
drop_past [] (suc n) h = refl
drop_past (x ∷ xs) zero h = absurd (omega arith)
drop_past (x ∷ xs) (suc n) h = drop_past xs n (omega arith)

-- ---- a pass's own calls among the lines that are left

own_here : (p : ℕ) (l : CallLine) (ls : List CallLine) → l.pass ≡ p → own_calls p (l ∷ ls) ≡ l.call ∷ own_calls p ls
own_here p l ls e = ap (λ (b : Bool). cond b (l.call ∷ own_calls p ls) (own_calls p ls)) (eq-eqb l.pass p e)

own_there : (p : ℕ) (l : CallLine) (ls : List CallLine) → l.pass ≢ p → own_calls p (l ∷ ls) ≡ own_calls p ls
own_there p l ls ne = ap (λ (b : Bool). cond b (l.call ∷ own_calls p ls) (own_calls p ls)) (ne_eqb l.pass p ne)

-- the first call that is left of the line's own pass, and what is left then
record FirstLeft (heap : Option Heap) (terms : RunTerms) (tag : Option ℕ) (rest : List CallLine) (l : CallLine)
    (v : PassPart) (side : SeenPass) (m : Made) (ms : List Made) : Type 0 where
  part : PassPart
  made : CallMade terms tag l.pass side.orders v l.call m part
  work : IsWork heap terms tag rest l.pass part side ms

first_left : (heap : Option Heap) (terms : RunTerms) (tag : Option ℕ) (rest : List CallLine) (l : CallLine)
    (v : PassPart) (side : SeenPass) (m : Made) (ms : List Made)
    → IsWork heap terms tag (l ∷ rest) l.pass v side (m ∷ ms) → FirstLeft heap terms tag rest l v side m ms
first_left heap terms tag rest l v side m ms h =
    let Q : List Call → Type 0 = λ cs. CallsMade terms tag l.pass side.orders v cs (m ∷ ms) side.part in
    let f = subst Q (own_here l.pass l rest refl) h.calls in
    record { part = f.0; made = f.1; work = record { is = h.is; calls = f.2 } }

passed : (heap : Option Heap) (terms : RunTerms) (tag : Option ℕ) (rest : List CallLine) (l : CallLine) (p : ℕ)
    (v : PassPart) (side : SeenPass) (ms : List Made) → l.pass ≢ p → IsWork heap terms tag (l ∷ rest) p v side ms
    → IsWork heap terms tag rest p v side ms
passed heap terms tag rest l p v side ms ne h =
    let Q : List Call → Type 0 = λ cs. CallsMade terms tag p side.orders v cs ms side.part in
    record { is = h.is; calls = subst Q (own_there p l rest ne) h.calls }

-- ---- names

number_at : (names : List Bound) (i : ℕ) → bound_number (slice_get names i) ≡ number_bound (map number_in names) (Some i)
number_at [] i = refl
number_at (x ∷ xs) zero = refl
number_at (x ∷ xs) (suc i) = number_at xs i

-- a call uses of its name the number alone
by_number : (terms : RunTerms) (tag : Option ℕ) (p : ℕ) (v w : PassPart) (names : List Bound) (c : Call) (a : Answer)
    → CallAnswers terms tag p v c (bound_number (bound_needed names c)) a w
    → CallAnswers terms tag p v c (number_meant (map number_in names) c) a w
by_number terms tag p v w names (call.Get (reference.Key k)) a h = h
by_number terms tag p v w names (call.Read (reference.Key k)) a h = h
by_number terms tag p v w names (call.Remove (reference.Key k)) a h = h
by_number terms tag p v w names (call.Release (reference.Key k)) a h = h
by_number terms tag p v w names (call.Get (reference.Name i)) a h = subst
    (λ (b : Option ℕ). CallAnswers terms tag p v (call.Get (reference.Name i)) b a w) (number_at names i) h
by_number terms tag p v w names (call.Read (reference.Name i)) a h = subst
    (λ (b : Option ℕ). CallAnswers terms tag p v (call.Read (reference.Name i)) b a w) (number_at names i) h
by_number terms tag p v w names (call.Remove (reference.Name i)) a h = subst
    (λ (b : Option ℕ). CallAnswers terms tag p v (call.Remove (reference.Name i)) b a w) (number_at names i) h
by_number terms tag p v w names (call.Release (reference.Name i)) a h = subst
    (λ (b : Option ℕ). CallAnswers terms tag p v (call.Release (reference.Name i)) b a w) (number_at names i) h
by_number terms tag p v w names (call.Adopt shard) a h = h
by_number terms tag p v w names call.Leave a h = h
by_number terms tag p v w names (call.Insert words) a h = h
by_number terms tag p v w names call.Post a h = h
by_number terms tag p v w names (call.Wait i) a h = h

module _ (ls : List CallLine) (bs : List Answer) (names : List Bound) (was : AreNames ls bs names) (l : CallLine)
    (a : Answer) (x : Bound) (after : List Bound) (long : length bs ≡ length ls)
    (is : after ≡ cond (binds l.call) (names ++ x ∷ []) names) (pass : x.pass ≡ l.pass)
    (entries : x.entries ≡ entries_added l.pass (ls ++ l ∷ []) (bs ++ a ∷ [])) where
  kept : (c : Bool) (k : ℕ) (y : Bound) → slice_get names k ≡ Some y
      → slice_get (cond c (names ++ x ∷ []) names) k ≡ Some y
  kept true k y e = get_front names (x ∷ []) k y e
  kept false k y e = e

  longer : (c : Bool) → length (cond c (names ++ x ∷ []) names) ≡ length names + length (cond c (l ∷ []) [])
  longer true = length-append names (x ∷ [])
  longer false = omega arith

  abbrev NameAt : ℕ → CallLine → Type 0
  NameAt j m = (bound : Bound) × (slice_get after (names_in (take j (ls ++ l ∷ []))) ≡ Some bound)
      × (bound.pass ≡ m.pass) × (bound.entries ≡ entries_added m.pass (take (suc j) (ls ++ l ∷ [])) (bs ++ a ∷ []))

  old_name : (j : ℕ) (m : CallLine) → slice_get ls j ≡ Some m → binds m.call ≡ true → NameAt j m
  old_name j m e b =
      let few = slice_get_within ls j m e in
      let r = was.each j m e b in
      let place : names_in (take j (ls ++ l ∷ [])) ≡ names_in (take j ls) = ap (λ (z : List CallLine). names_in z)
      (take_left ls (l ∷ []) j (omega (arith, few))) in (
        r.0,
        ap (slice_get after) place ∙ (ap (λ (z : List Bound). slice_get z (names_in (take j ls))) is
            ∙ kept (binds l.call) (names_in (take j ls)) r.0 r.1),
        r.2,
        r.3 ∙ sym (added_left m.pass (suc j) ls bs l a long (omega (arith, few))),
      )

  last_name : (j : ℕ) (m : CallLine) → (j ≡ length ls) × (l ≡ m) → binds m.call ≡ true → NameAt j m
  last_name j m e b =
      let end : j ≡ length ls = e.0 in
      let own : binds l.call ≡ true = subst (λ (z : CallLine). binds z.call ≡ true) (sym e.1) b in
      let now : after ≡ names ++ x ∷ [] = is ∙ ap (λ (c : Bool). cond c (names ++ x ∷ []) names) own in
      let place : names_in (take j (ls ++ l ∷ [])) ≡ length names = ap (λ (z : List CallLine). names_in z)
      (take_left ls (l ∷ []) j (omega (arith, end)) ∙ take_past ls j (omega (arith, end))) ∙ sym was.all in
      let whole : take (suc j) (ls ++ l ∷ []) ≡ ls ++ l ∷ [] = take_past (ls ++ l ∷ []) (suc j)
      (omega (arith, end, length-append ls (l ∷ []))) in (
        x,
        ap (slice_get after) place ∙ (ap (λ (z : List Bound). slice_get z (length names)) now
            ∙ get_middle names x []),
        pass ∙ ap (λ (z : CallLine). z.pass) e.1,
        entries ∙ (ap (λ (z : CallLine). entries_added z.pass (ls ++ l ∷ []) (bs ++ a ∷ [])) e.1
            ∙ ap (λ (z : List CallLine). entries_added m.pass z (bs ++ a ∷ [])) (sym whole)),
      )

  -- one more line, which may bind a name
  one_more_name : AreNames (ls ++ l ∷ []) (bs ++ a ∷ []) after
  one_more_name = record {
    all =
        let grown : names_in (ls ++ l ∷ []) ≡ names_in ls + length (cond (binds l.call) (l ∷ []) []) =
        ap (λ (z : List CallLine). length z) (filter-append (λ (z : CallLine). binds z.call) ls (l ∷ []))
        ∙ length-append (filter (λ (z : CallLine). binds z.call) ls) (cond (binds l.call) (l ∷ []) []) in
        let now : length after ≡ length (cond (binds l.call) (names ++ x ∷ []) names) = ap
        (λ (z : List Bound). length z) is in
        let more = longer (binds l.call) in
        let few = was.all in
        omega (arith, grown, now, more, few);
    each = λ j m at b. ⊎_elim (λ (e : slice_get ls j ≡ Some m). old_name j m e b)
        (λ (e : (j ≡ length ls) × (l ≡ m)). last_name j m e b) (get_snoc ls l m j at);
  }

-- ---- one more line

module _ (heap : Option Heap) (terms : RunTerms) (tag : Option ℕ) (lines : List CallLine) (i : ℕ)
    (names : List Bound) (sides : List SeenPass) (rests : List (List Made)) (output : List ℕ)
    (was : MergedSoFar heap terms tag lines i names sides rests output) (l : CallLine)
    (at : slice_get lines i ≡ Some l) (m : Made) (ms : List Made) (own : slice_get rests l.pass ≡ Some (m ∷ ms))
    (bound : m.bound ≡ bound_needed names l.call) where
  abbrev rest : List CallLine
  rest = drop (i + 1) lines

  dropped : drop i lines ≡ l ∷ rest
  dropped = drop_at lines i l at ∙ ap (λ (k : ℕ). l ∷ drop k lines) (sym (add-one i))

  took : take (i + 1) lines ≡ take i lines ++ l ∷ []
  took = ap (λ (k : ℕ). take k lines) (add-one i) ∙ take_at lines i l at

  owner : (side : SeenPass) × (slice_get sides l.pass ≡ Some side)
  owner = let few = slice_get_within rests l.pass (m ∷ ms) own in get_some sides l.pass (omega (
    arith,
    few,
    was.sides_all,
    was.rests_all,
  ))

  one : FirstLeft heap terms tag rest l (was.run.parts l.pass) owner.0 m ms
  one =
      let Q : List CallLine → Type 0 = λ ls. IsWork heap terms tag ls l.pass (was.run.parts l.pass) owner.0 (m ∷ ms) in
      first_left heap terms tag rest l (was.run.parts l.pass) owner.0 m ms
      (subst Q dropped (was.each l.pass owner.0 (m ∷ ms) owner.1 own))

  abbrev then : CallsRun
  then = next_run was.run l m.answer one.part

  steps : LineAnswered terms tag was.run l m.answer then
  steps =
      let D : Option Bound → Type 0 = λ b. CallAnswers terms tag l.pass one.made.begins l.call (bound_number b) m.answer
      one.part in
      let N : List (Option ℕ) → Type 0 = λ z. CallAnswers terms tag l.pass one.made.begins l.call
      (number_meant z l.call) m.answer one.part in
      record {
        begins = one.made.begins;
        heeds = one.made.heeds;
        part = one.part;
        does = subst N was.numbers_are (by_number terms tag l.pass one.made.begins one.part names l.call m.answer
            (subst D bound one.made.does));
        next_is = refl;
      }

  more : OneMore terms tag (opening_calls heap) (take i lines) was.answers l m.answer then
  more = one_more terms tag (opening_calls heap) was.run then (take i lines) was.answers l m.answer was.ran steps

  here : (p : ℕ) (side : SeenPass) (qs : List Made) → p ≡ l.pass → slice_get sides p ≡ Some side
      → slice_get (set rests l.pass ms) p ≡ Some qs
      → IsWork heap terms tag rest p (with_part was.run.parts l.pass one.part p) side qs
  here p side qs is e f =
      let same : ms ≡ qs = same_Some ms qs (sym (get_set_here rests l.pass (m ∷ ms) ms own)
      ∙ (ap (slice_get (set rests l.pass ms)) (sym is) ∙ f)) in
      let it : owner.0 ≡ side = same_Some owner.0 side (sym owner.1 ∙ (ap (slice_get sides) (sym is) ∙ e)) in
      let Q : ℕ × PassPart × SeenPass × List Made → Type 0 = λ z. IsWork heap terms tag rest z.0 z.1 z.2 z.3 in
      subst Q (λ j. (sym is j, sym (part_here was.run.parts l.pass p one.part is) j, it j, same j)) one.work

  there : (p : ℕ) (side : SeenPass) (qs : List Made) → p ≢ l.pass → slice_get sides p ≡ Some side
      → slice_get (set rests l.pass ms) p ≡ Some qs
      → IsWork heap terms tag rest p (with_part was.run.parts l.pass one.part p) side qs
  there p side qs ne e f =
      let at_p : slice_get rests p ≡ Some qs = sym (set_other rests l.pass p ms ne) ∙ f in
      let Q : List CallLine → Type 0 = λ ls. IsWork heap terms tag ls p (was.run.parts p) side qs in
      let left = passed heap terms tag rest l p (was.run.parts p) side qs (λ s. ne (sym s))
      (subst Q dropped (was.each p side qs e at_p)) in
      subst (λ (z : PassPart). IsWork heap terms tag rest p z side qs)
      (sym (part_there was.run.parts l.pass p one.part ne)) left

  -- its pass had heard of the entries that come with the name that the line needs
  heard : NamesWereHeard (take i lines ++ l ∷ []) (was.answers ++ m.answer ∷ []) (orders_of sides)
  heard =
      let counted = counts_after terms tag (opening_calls heap) was.run (take i lines) was.answers was.ran l.pass in
      let none : length ((opening_calls heap).parts l.pass).log ≡ 0 = refl in
      let before : ℕ = length (was.run.parts l.pass).log in
      let first : before ≡ entries_added l.pass (take i lines) was.answers = omega (arith, counted, none) in
      heard_more terms tag (opening_calls heap) was.run (take i lines) was.answers (orders_of sides) (orders_of sides) l
      m.answer was.ran was.heard (λ o c. c) (λ j b n.
      let x = was.names_are.each j b n.at n.binds_name in
      let is : m.bound ≡ Some x.0 = bound ∙ (ap (bound_at names) n.needed ∙ x.1) in
      let told : HeardOfEntries owner.0.orders x.0.pass x.0.entries l.pass before = subst
      (HeardOfBound owner.0.orders l.pass before) is one.made.heard in
      let H : ℕ × ℕ × ℕ → Type 0 = λ z. HeardOfEntries (orders_of sides) z.0 z.1 l.pass z.2 in
      subst H (λ q. (x.2 q, x.3 q, first q)) (heard_kept owner.0.orders (orders_of sides) x.0.pass x.0.entries l.pass
      before (orders_at sides l.pass owner.0 owner.1) told))

  -- how many entries its pass has then
  counted : m.entries ≡ entries_added l.pass (take i lines ++ l ∷ []) (was.answers ++ m.answer ∷ [])
  counted =
      let all = counts_after terms tag (opening_calls heap) then (take i lines ++ l ∷ []) (was.answers ++ m.answer ∷ [])
      more.ran l.pass in
      let none : length ((opening_calls heap).parts l.pass).log ≡ 0 = refl in
      let part : length (then.parts l.pass).log ≡ length one.part.log = ap (λ (u : PassPart). length u.log)
      (part_here was.run.parts l.pass l.pass one.part refl) in
      let made = one.made.counts in
      omega (arith, all, none, part, made)

  numbered : (c : Bool) → map number_in (cond c (names ++ bound_by l.pass m ∷ []) names)
      ≡ cond c (map number_in names ++ number_told m.answer ∷ []) (map number_in names)
  numbered true = map_more number_in names (bound_by l.pass m)
  numbered false = refl

  pub merged_more : (after : List Bound) (new : List (List Made)) (longer : List ℕ)
      → after ≡ cond (binds l.call) (names ++ bound_by l.pass m ∷ []) names → new ≡ set rests l.pass ms
      → longer ≡ output ++ reply_line l m.answer → MergedSoFar heap terms tag lines (i + 1) after sides new longer
  merged_more after new longer named popped printed =
      let R : List CallLine → Type 0 = λ ls. LinesAnswered terms tag (opening_calls heap) ls
      (was.answers ++ m.answer ∷ []) then in
      record {
        answers = was.answers ++ m.answer ∷ [];
        run = then;
        ran = subst R (sym took) more.ran;
        numbers_are = ap (map number_in) named ∙ (numbered (binds l.call)
            ∙ ap (λ (z : List (Option ℕ)). with_number z l.call m.answer) was.numbers_are);
        names_are = subst (λ (ls : List CallLine). AreNames ls (was.answers ++ m.answer ∷ []) after) (sym took)
            (one_more_name (take i lines) was.answers names was.names_are l m.answer (bound_by l.pass m) after
            (answers_all terms tag (opening_calls heap) was.run (take i lines) was.answers was.ran) named refl counted);
        text = printed ∙ (ap (λ t. t ++ reply_line l m.answer) was.text
            ∙ (sym more.text ∙ ap (λ ls. replies_text ls (was.answers ++ m.answer ∷ [])) (sym took)));
        sides_all = was.sides_all;
        rests_all = ap length popped ∙ (length-set rests l.pass ms ∙ was.rests_all);
        each = λ p side qs e f.
            let g : slice_get (set rests l.pass ms) p ≡ Some qs =
            ap (λ (z : List (List Made)). slice_get z p) (sym popped) ∙ f in
            dite (ℕ_discrete p l.pass) (λ is. here p side qs is e g) (λ ne. there p side qs ne e g);
        heard = subst (λ (ls : List CallLine). NamesWereHeard ls (was.answers ++ m.answer ∷ []) (orders_of sides))
            (sym took) heard;
      }

-- a call is left for each line
pub never_empty : (heap : Option Heap) (terms : RunTerms) (tag : Option ℕ) (lines : List CallLine) (i : ℕ)
    (names : List Bound) (sides : List SeenPass) (rests : List (List Made)) (output : List ℕ)
    → MergedSoFar heap terms tag lines i names sides rests output → (l : CallLine) → slice_get lines i ≡ Some l
    → slice_get rests l.pass ≡ Some [] → ⊥
never_empty heap terms tag lines i names sides rests output was l at own =
    let few = slice_get_within rests l.pass [] own in
    let owner = get_some sides l.pass (omega (arith, few, was.sides_all, was.rests_all)) in
    let h = was.each l.pass owner.0 [] owner.1 own in
    let dropped : drop i lines ≡ l ∷ drop (suc i) lines = drop_at lines i l at in
    let Q : List Call → Type 0 = λ cs. CallsMade terms tag l.pass owner.0.orders (was.run.parts l.pass) cs []
    owner.0.part in
    subst Q (ap (own_calls l.pass) dropped ∙ own_here l.pass l (drop (suc i) lines) refl) h.calls

-- ---- the beginning and the end

pub merging_begins : (heap : Option Heap) (terms : RunTerms) (tag : Option ℕ) (lines : List CallLine)
    (sides : List SeenPass) (rests : List (List Made))
    → HaveEnded heap terms tag lines terms.shape.passes sides rests
    → MergedSoFar heap terms tag lines 0 [] sides rests []
merging_begins heap terms tag lines sides rests h = record {
  answers = [];
  run = opening_calls heap;
  ran = refl;
  numbers_are = refl;
  names_are = record { all = refl; each = λ j l at. absurd (none-some l at) };
  text = refl;
  sides_all = h.sides_all;
  rests_all = h.rests_all;
  each = h.each;
  heard = λ j i b l less at. absurd (none-some l at);
}

none_left : (heap : Option Heap) (terms : RunTerms) (tag : Option ℕ) (p : ℕ) (parts : ℕ → PassPart) (side : SeenPass)
    (ms : List Made) → IsWork heap terms tag [] p (parts p) side ms
    → side ≡ record (seen_with_part heap terms parts p) { orders = side.orders }
none_left heap terms tag p parts side [] h =
    h.is ∙ ap (λ (z : PassPart). record (new_pass heap terms p) { part = z; orders = side.orders }) h.calls
none_left heap terms tag p parts side (m ∷ ms) h = absurd h.calls

pub merging_ends : (heap : Option Heap) (terms : RunTerms) (tag : Option ℕ) (lines : List CallLine) (i : ℕ)
    (names : List Bound) (sides : List SeenPass) (rests : List (List Made)) (output : List ℕ)
    → length lines ≤ i → MergedSoFar heap terms tag lines i names sides rests output
    → AllAnswered heap terms tag lines sides output
merging_ends heap terms tag lines i names sides rests output past h =
    let whole : take i lines ≡ take (length lines) lines =
    take_past lines i past ∙ sym (take_past lines (length lines) (omega arith)) in
    let R : List CallLine → Type 0 = λ ls. LinesAnswered terms tag (opening_calls heap) ls h.answers h.run in (
      h.run.numbers,
      record {
        answers = h.answers;
        run = h.run;
        ran = subst R whole h.ran;
        numbers_are = refl;
        text = h.text ∙ ap (λ ls. replies_text ls h.answers) whole;
        all = h.sides_all;
        each = λ p s e.
            let few = slice_get_within sides p s e in
            let made = get_some rests p (omega (arith, few, h.sides_all, h.rests_all)) in
            let Q : List CallLine → Type 0 = λ ls. IsWork heap terms tag ls p (h.run.parts p) s made.0 in
            none_left heap terms tag p h.run.parts s made.0
            (subst Q (drop_past lines i past) (h.each p s made.0 e made.1));
        heard = subst (λ (ls : List CallLine). NamesWereHeard ls h.answers (orders_of sides)) whole h.heard;
      },
    )
