-- All passes in one thread: one more line, and the end.
use Rattle.std.proofs.Common.{◌≡◌, ◌≢◌, ℕ, zero, suc, ◌+◌, ◌<◌, ◌≤◌, Bool, true, List, [], ◌∷◌, ◌++◌, length}
use Rattle.std.proofs.Common.{set, map, slice_get, Option, Some, None, sym, refl, ap, ◌∙◌, subst, arith, IfSome}
use Rattle.std.proofs.Common.{length-set, ◌⊎◌, inl, inr, ⊎_elim, add-one, take}
use Rattle.std.specs.Prelude.{IfNone}
use Rattle.std.specs.List.{All}
use Rattle.std.specs.Option.{option_map}
use Rattle.std.proofs.lemmas.Option.{none-some, same_Some, slice_get-map, slice_get_within}
use mathlib.Core.Logic.{dite}
use native.Mathlib.Decide.{ℕ_discrete}
use Rattle.sh_script.specs.declared.calls.CallLine.{CallLine}
use Rattle.script_output.specs.declared.answer.Answer.{Answer}
use Rattle.script_calls.specs.Parts.{RunTerms, PassPart, SeenPass, PassTold, SamePass, new_pass, new_passes, HasAllLogs}
use Rattle.script_calls.specs.Parts.{tale_told, told_pass, passes_below}
use Rattle.script_calls.specs.Calls.{CallAnswers}
use Rattle.script_output.specs.Replies.{reply_line, replies_text}
use Rattle.script_calls.specs.Runs.{CallsRun, LineAnswered, LinesAnswered, opening_calls, next_run, with_part}
use Rattle.script_calls.specs.Runs.{with_number}
use Rattle.script_calls.specs.Runs.{number_meant}
use Rattle.script_calls.specs.Receipts.{MayHeed}
use Rattle.script_calls.specs.Heeding.{AllHeedInTurn}
use Rattle.script_calls.specs.Leaving.{AreStuck, EndInTurn}
use Rattle.script_calls.specs.Stepping.{StepsInTurn}
use Rattle.script_calls.specs.Told.{AreReplies, part_told}
use Rattle.script_calls.specs.Meeting.{HasMet, HasEnded, tales_told, AllOfHeap, orders_of}
use Rattle.script_calls.proofs.EndLaws.{parts_ended}
use Rattle.script_calls.specs.Named.{NamesWereHeard}
use Rattle.script_calls.specs.Alone.{seen_with_part, AnsweredSoFar}
use Rattle.script_calls.specs.Finished.{AllAreStuck, CarrierRan, LinesRan, IsNamedBy, IsOrderedBy}
use Rattle.script_calls.proofs.ListLemmas.{get_some, take_at, take_past, up_length}
use Rattle.script_calls.proofs.ListLemmas.{up_get}
use Rattle.script_calls.proofs.HeardAll.{met_of_heard}
use Rattle.script_calls.proofs.NameLaws.{named_by}
use Rattle.script_calls.proofs.LineLemmas.{one_more, part_here, part_there}
use Rattle.script_calls.proofs.Newcomers.{newcomers_length, newcomers_get, length_map}
use Rattle.sh_table.specs.Seats.{Heap}
use Rattle.sh_pass.specs.Passes.{Caller}
use Rattle.sh_core.proofs.Sums.Totals.{get_set_here}
use Rattle.sh_table.proofs.Zips.{set_other}

-- ---- one more line

abbrev pub begins_alone : (heap : Option Heap) (terms : RunTerms) (tag : Option ℕ) (lines : List CallLine)
    (sides : List SeenPass) → sides ≡ new_passes heap terms terms.shape.passes
    → AnsweredSoFar heap terms tag lines 0 [] sides []
begins_alone heap terms tag lines sides e = record {
  answers = [];
  run = opening_calls heap;
  ran = refl;
  numbers_are = refl;
  text = refl;
  all = ap length e ∙ newcomers_length heap terms terms.shape.passes;
  each = λ p s at. let is : s ≡ new_pass heap terms p = newcomers_get heap terms terms.shape.passes p s
      (subst (λ (z : List SeenPass). slice_get z p ≡ Some s) e at)
      in is ∙ ap (λ (z : SeenPass). record (new_pass heap terms p) { orders = z.orders }) (sym is);
  heard = λ j i b l less at. absurd (none-some l at);
}

module _ (heap : Option Heap) (terms : RunTerms) (tag : Option ℕ) (lines : List CallLine) (i : ℕ)
    (numbers : List (Option ℕ)) (sides : List SeenPass) (output : List ℕ)
    (was : AnsweredSoFar heap terms tag lines i numbers sides output) (l : CallLine) (at : slice_get lines i ≡ Some l)
    (side mid now : SeenPass) (own : slice_get sides l.pass ≡ Some side)
    (only : mid ≡ record side { part = mid.part; orders = mid.orders }) (may : MayHeed side.part mid.part)
    (same : SamePass mid now) (a : Answer)
    (does : CallAnswers mid.terms tag mid.pass mid.part l.call (number_meant numbers l.call) a now.part) where
  is : mid ≡ record (seen_with_part heap terms was.run.parts l.pass) { part = mid.part; orders = mid.orders }
  is = only ∙ ap (λ (z : SeenPass). record z { part = mid.part; orders = mid.orders }) (was.each l.pass side own)

  pub took : take (i + 1) lines ≡ take i lines ++ l ∷ []
  took = ap (λ (k : ℕ). take k lines) (add-one i) ∙ take_at lines i l at

  abbrev then : CallsRun
  then = next_run was.run l a now.part

  pub steps : LineAnswered terms tag was.run l a then
  steps =
      let D : SeenPass × List (Option ℕ) → Type 0 = λ z. CallAnswers z.0.terms tag z.0.pass z.0.part l.call
      (number_meant z.1 l.call) a now.part in
      record {
        begins = mid.part;
        heeds = subst (λ (u : PassPart). MayHeed u mid.part)
            (ap (λ (z : SeenPass). z.part) (was.each l.pass side own)) may;
        part = now.part;
        does = subst D (λ j. (is j, was.numbers_are j)) does;
        next_is = refl;
      }

  now_is : now ≡ record (new_pass heap terms l.pass) { part = now.part; orders = now.orders }
  now_is = same ∙ (ap (λ (z : SeenPass). record z { part = now.part }) is
      ∙ ap (λ (z : SeenPass). record (new_pass heap terms l.pass) { part = now.part; orders = z.orders }) (sym same))

  pub here : (p : ℕ) (s : SeenPass) → p ≡ l.pass → slice_get (set sides l.pass now) p ≡ Some s → s
      ≡ record (seen_with_part heap terms (with_part was.run.parts l.pass now.part) p) { orders = s.orders }
  here p s e at_p =
      let eq : now ≡ s = same_Some now s (sym (get_set_here sides l.pass side now own)
      ∙ (ap (slice_get (set sides l.pass now)) (sym e) ∙ at_p)) in
      let Q : ℕ × PassPart × SeenPass → SeenPass = λ z. record (new_pass heap terms z.0)
      { part = z.1; orders = z.2.orders } in
      sym eq ∙ (now_is ∙ ap Q (λ j. (sym e j, sym (part_here was.run.parts l.pass p now.part e) j, eq j)))

  pub there : (p : ℕ) (s : SeenPass) → p ≢ l.pass → slice_get (set sides l.pass now) p ≡ Some s → s
      ≡ record (seen_with_part heap terms (with_part was.run.parts l.pass now.part) p) { orders = s.orders }
  there p s ne at_p =
      let Q : PassPart → SeenPass = λ z. record (new_pass heap terms p) { part = z; orders = s.orders } in
      was.each p s (sym (set_other sides l.pass p now ne) ∙ at_p)
      ∙ ap Q (sym (part_there was.run.parts l.pass p now.part ne))

  abbrev pub answered_more : (after : List (Option ℕ)) (new : List SeenPass) (longer : List ℕ) → after
      ≡ with_number numbers l.call a → new ≡ set sides l.pass now → longer ≡ output ++ reply_line l a
      → NamesWereHeard (take i lines ++ l ∷ []) (was.answers ++ a ∷ []) (orders_of (set sides l.pass now))
      → AnsweredSoFar heap terms tag lines (i + 1) after new longer
  answered_more after new longer named put printed heard =
      let more = one_more terms tag (opening_calls heap) was.run then (take i lines) was.answers l a was.ran steps in
      let R : List CallLine → Type 0 = λ ls. LinesAnswered terms tag (opening_calls heap) ls
      (was.answers ++ a ∷ []) then in
      record {
        answers = was.answers ++ a ∷ [];
        run = then;
        ran = subst R (sym took) more.ran;
        numbers_are = named ∙ ap (λ (z : List (Option ℕ)). with_number z l.call a) was.numbers_are;
        text = printed ∙ (ap (λ t. t ++ reply_line l a) was.text ∙
            (sym more.text ∙ ap (λ ls. replies_text ls (was.answers ++ a ∷ [])) (sym took)));
        all = ap length put ∙ (length-set sides l.pass now ∙ was.all);
        each = λ p s e. let f : slice_get (set sides l.pass now) p
            ≡ Some s = ap (λ (z : List SeenPass). slice_get z p) (sym put) ∙ e
            in dite (ℕ_discrete p l.pass) (λ h. here p s h f) (λ ne. there p s ne f);
        heard = subst (λ (z : List CallLine × List SeenPass). NamesWereHeard z.0 (was.answers ++ a ∷ [])
            (orders_of z.1)) (λ j. (sym took j, sym put j)) heard;
      }

-- ---- the end

ext : {A B : Type 0} (g : A → B) (xs : List A) (ys : List B) → length xs ≡ length ys →
    ((k : ℕ) (x : A) → slice_get xs k ≡ Some x → slice_get ys k ≡ Some (g x)) → map g xs ≡ ys
ext g [] [] e f = refl
ext g [] (y ∷ ys) e f = absurd (omega (arith, e))
ext g (x ∷ xs) [] e f = absurd (omega (arith, e))
ext g (x ∷ xs) (y ∷ ys) e f = (λ i. sym (same_Some y (g x) (f 0 x refl)) i ∷ ext g xs ys (omega (arith, e))
    (λ k z h. f (suc k) z h) i)

-- without what it heard
bare : SeenPass → SeenPass
bare s = record s { orders = [] }

bare_tales : (ss : List SeenPass) → tales_told (map bare ss) ≡ tales_told ss
unfolding bare
bare_tales [] = refl
bare_tales (s ∷ ss) = ap (λ (z : List PassTold). tale_told s ++ z) (bare_tales ss)

bare_heap : (heap : Option Heap) (terms : RunTerms) (ss : List SeenPass) → AllOfHeap heap terms (map bare ss)
    → AllOfHeap heap terms ss
unfolding bare
bare_heap heap terms [] h = tt
bare_heap heap terms (s ∷ ss) h = (h.0, h.1, bare_heap heap terms ss h.2)

sides_are : (heap : Option Heap) (terms : RunTerms) (parts : ℕ → PassPart) (sides : List SeenPass) → length sides
    ≡ terms.shape.passes → ((p : ℕ) (s : SeenPass) → slice_get sides p ≡ Some s
    → s ≡ record (seen_with_part heap terms parts p) { orders = s.orders })
    → map bare sides ≡ map (seen_with_part heap terms parts) (passes_below terms.shape.passes)
unfolding bare
sides_are heap terms parts sides long each =
    let n : ℕ = terms.shape.passes in
    ext bare sides (map (seen_with_part heap terms parts) (passes_below n))
    (long ∙ sym (length_map (seen_with_part heap terms parts) (passes_below n) ∙ up_length n)) (λ k s e.
    let few : k < n = let w = slice_get_within sides k s e in omega (arith, w, long) in
    slice_get-map (seen_with_part heap terms parts) (passes_below n) k
    ∙ (ap (option_map (seen_with_part heap terms parts)) (up_get n k few)
    ∙ ap (λ (z : SeenPass). Some z) (sym (ap bare (each k s e)))))

all_of : (heap : Option Heap) (terms : RunTerms) (parts : ℕ → PassPart) (ns : List ℕ)
    → AllOfHeap heap terms (map (seen_with_part heap terms parts) ns)
all_of heap terms parts [] = tt
all_of heap terms parts (n ∷ ns) = (refl, refl, all_of heap terms parts ns)

tales_are : (heap : Option Heap) (terms : RunTerms) (parts : ℕ → PassPart) (ns : List ℕ)
    → tales_told (map (seen_with_part heap terms parts) ns) ≡ map (part_told parts) ns
tales_are heap terms parts [] = refl
tales_are heap terms parts (n ∷ ns) = ap (λ (z : List PassTold). part_told parts n ∷ z) (tales_are heap terms parts ns)

pub all_are : (heap : Option Heap) (terms : RunTerms) (tag : Option ℕ) (lines : List CallLine) (i : ℕ)
    (numbers : List (Option ℕ)) (sides : List SeenPass) (output : List ℕ)
    → AnsweredSoFar heap terms tag lines i numbers sides output → AllOfHeap heap terms sides
all_are heap terms tag lines i numbers sides output h = bare_heap heap terms sides (subst (AllOfHeap heap terms)
    (sym (sides_are heap terms h.run.parts sides h.all h.each))
    (all_of heap terms h.run.parts (passes_below terms.shape.passes)))

abbrev pub ends_alone : (heap : Option Heap) (terms : RunTerms) (tag : Option ℕ) (lines : List CallLine) (i : ℕ)
    (numbers : List (Option ℕ)) (sides : List SeenPass) (output : List ℕ) → length lines ≤ i
    → AnsweredSoFar heap terms tag lines i numbers sides output → AreReplies heap terms tag lines output
ends_alone heap terms tag lines i numbers sides output past h =
    let whole : take i lines ≡ lines = take_past lines i past in
    let R : List CallLine → Type 0 = λ ls. LinesAnswered terms tag (opening_calls heap) ls h.answers h.run in
    record {
      answers = h.answers;
      after = h.run;
      ran = subst R whole h.ran;
      is = h.text ∙ ap (λ ls. replies_text ls h.answers) whole;
    }

-- they speak for the parts of all passes
pub tale_of_parts : (heap : Option Heap) (terms : RunTerms) (tag : Option ℕ) (lines : List CallLine) (i : ℕ)
    (numbers : List (Option ℕ)) (sides : List SeenPass) (output : List ℕ)
    (h : AnsweredSoFar heap terms tag lines i numbers sides output) → tales_told sides
    ≡ map (part_told h.run.parts) (passes_below terms.shape.passes)
tale_of_parts heap terms tag lines i numbers sides output h = sym (bare_tales sides)
    ∙ (ap tales_told (sides_are heap terms h.run.parts sides h.all h.each) ∙ tales_are heap terms h.run.parts
    (passes_below terms.shape.passes))

carrier_ran : (alone : Bool) (heap : Option Heap) (terms : RunTerms) (tag : Option ℕ) (lines : List CallLine) (i : ℕ)
    (numbers : List (Option ℕ)) (sides : List SeenPass) (output : List ℕ) (c : SeenPass) (last : Option Caller)
    (ts : List SeenPass) → length lines ≤ i → All (λ (l : CallLine). l.pass < terms.shape.passes) lines
    → (h : AnsweredSoFar heap terms tag lines i numbers sides output) → AllHeedInTurn last sides ts
    → (alone ≡ true → IsOrderedBy terms lines h.answers c × StepsInTurn c.orders heap terms tag lines h.answers h.run)
    → HasMet heap terms c (tales_told ts) (orders_of ts) → All (HasEnded c) ts
    → CarrierRan alone heap terms tag lines output c
carrier_ran alone heap terms tag lines i numbers sides output c last ts past fits h hear ordered met ended =
    let m = met_of_heard last heap terms c sides ts hear met in
    let tale = m.carries.2 ∙ tale_of_parts heap terms tag lines i numbers sides output h in
    let w = m.whole in
    let has : HasAllLogs w.history (tale_told c) = subst (HasAllLogs w.history) (sym m.carries.2) w.has in
    let named : IsNamedBy terms lines h.answers c = named_by heap terms tag lines i numbers sides output h past c m.heard
    in
    record {
      told = record {
        within = fits;
        replies = ends_alone heap terms tag lines i numbers sides output past h;
        tale_is = tale;
        whole = record { history = w.history; legal = w.legal; has = has; only = w.only };
        named = named w.history has w.only m.kept;
        in_order = λ e. (ordered e).0 w.history has w.only m.kept;
      };
      carries = (m.carries.0, m.carries.1, refl);
      none = m.none;
      named = named;
      ended = parts_ended heap terms tag lines i numbers sides output h last ts hear c ended;
      ordered = λ e. (ordered e).0;
      steps = λ e. (ordered e).1;
    }

-- what holds of the carrier, if there is one
some_met : (P Q R : SeenPass → Type 0) → ((s : SeenPass) → P s → Q s → R s) → (o : Option SeenPass) → IfSome o P
    → IfSome o Q → IfSome o R
some_met P Q R f None p q = tt
some_met P Q R f (Some s) p q = f s p q

-- the same if there is none
none_met : {P Q : Type 0} → (P → Q) → (o : Option SeenPass) → IfNone o P → IfNone o Q
none_met f None h = f h
none_met f (Some s) h = h

-- why no pass carries the tale
lines_stay : (heap : Option Heap) (terms : RunTerms) (tag : Option ℕ) (lines : List CallLine) (i : ℕ)
    (numbers : List (Option ℕ)) (sides : List SeenPass) (output : List ℕ) (last : Option Caller) (ts : List SeenPass)
    → AnsweredSoFar heap terms tag lines i numbers sides output → AllHeedInTurn last sides ts
    → AreStuck terms ts ⊎ (ts ≡ []) → AllAreStuck terms ⊎ (terms.shape.passes ≡ 0)
lines_stay heap terms tag lines i numbers sides output last ts h hear = ⊎_elim
    (λ (stuck : AreStuck terms ts). inl (record {
      passes = ts;
      all = hear.all ∙ h.all;
      numbers = numbers_are;
      stuck = stuck;
    }))
    (λ (e : ts ≡ []). inr (sym h.all ∙ (sym hear.all ∙ ap length e)))
  where
    numbers_are : (p : ℕ) (s : SeenPass) → slice_get ts p ≡ Some s → s.pass ≡ p
    numbers_are p s at =
        let inside = slice_get_within ts p s at in
        let same : length ts ≡ length sides = hear.all in
        let was = get_some sides p (omega (arith, inside, same)) in
        ap (λ (z : SeenPass). z.pass) (hear.each p was.0 s was.1 at).is
        ∙ ap (λ (z : SeenPass). z.pass) (h.each p was.0 was.1)

-- what the carrier has if all could meet, and otherwise why they could not
pub lines_ran : (alone : Bool) (heap : Option Heap) (terms : RunTerms) (tag : Option ℕ) (lines : List CallLine) (i : ℕ)
    (numbers : List (Option ℕ)) (sides : List SeenPass) (output : List ℕ) (carrier : Option SeenPass)
    (last : Option Caller) → length lines ≤ i → All (λ (l : CallLine). l.pass < terms.shape.passes) lines
    → (h : AnsweredSoFar heap terms tag lines i numbers sides output)
    → (e : EndInTurn heap terms last sides carrier)
    → ((c : SeenPass) → HasMet heap terms c (tales_told e.heard) (orders_of e.heard) → alone ≡ true
    → IsOrderedBy terms lines h.answers c × StepsInTurn c.orders heap terms tag lines h.answers h.run)
    → LinesRan alone heap terms tag lines output carrier
lines_ran alone heap terms tag lines i numbers sides output carrier last past fits h e ordered = record {
  met = some_met (λ c. HasMet heap terms c (tales_told e.heard) (orders_of e.heard)) (λ c. All (HasEnded c) e.heard)
      (CarrierRan alone heap terms tag lines output)
      (λ s m k. carrier_ran alone heap terms tag lines i numbers sides output s last e.heard past fits h e.hear
      (ordered s m) m k) carrier e.leave.met e.leave.ended;
  stays = none_met (lines_stay heap terms tag lines i numbers sides output last e.heard h e.hear) carrier e.leave.stays;
}

pub map_set : {A B : Type 0} (f : A → B) (xs : List A) (k : ℕ) (y : A) → map f (set xs k y) ≡ set (map f xs) k (f y)
map_set f [] k y = refl
map_set f (x ∷ xs) zero y = refl
map_set f (x ∷ xs) (suc k) y = ap (λ z. f x ∷ z) (map_set f xs k y)

pub heap_at : (heap : Option Heap) (terms : RunTerms) (tag : Option ℕ) (lines : List CallLine) (i : ℕ)
    (numbers : List (Option ℕ)) (sides : List SeenPass) (output : List ℕ)
    → AnsweredSoFar heap terms tag lines i numbers sides output → (p : ℕ) (s : SeenPass) → slice_get sides p ≡ Some s
    → s.heap ≡ heap
heap_at heap terms tag lines i numbers sides output h p s e = ap (λ (z : SeenPass). z.heap) (h.each p s e)

pub terms_at : (heap : Option Heap) (terms : RunTerms) (tag : Option ℕ) (lines : List CallLine) (i : ℕ)
    (numbers : List (Option ℕ)) (sides : List SeenPass) (output : List ℕ)
    → AnsweredSoFar heap terms tag lines i numbers sides output → (p : ℕ) (s : SeenPass) → slice_get sides p ≡ Some s
    → s.terms ≡ terms
terms_at heap terms tag lines i numbers sides output h p s e = ap (λ (z : SeenPass). z.terms) (h.each p s e)

pub passes_are : (parts : ℕ → PassPart) (ns : List ℕ) → map told_pass (map (part_told parts) ns) ≡ ns
passes_are parts [] = refl
passes_are parts (n ∷ ns) = ap (λ (z : List ℕ). n ∷ z) (passes_are parts ns)
