-- What a call of a pass found Gone was removed before, if its insert was told to the pass.
use Rattle.std.proofs.Common.{◌≡◌, ◌≢◌, ℕ, zero, suc, ◌+◌, ◌<◌, ◌≤◌, ◌==◌, Bool, true, false, cond}
use Rattle.std.proofs.Common.{List, [], ◌∷◌, ◌++◌, length, take, map, slice_get, Option, Some, None, sym}
use Rattle.std.proofs.Common.{refl, ap, ◌∙◌, subst, arith, append_assoc, append-nil, ⊎_elim}
use Rattle.std.specs.List.{AllZip, Contains}
use Rattle.std.proofs.lemmas.List.Elements.{Contains-append_left, Contains-append_right, Contains-append_cases}
use Rattle.std.proofs.lemmas.Option.{none-some, same_Some, get_or_from_slice_get, slice_get_within}
use mathlib.Core.Logic.{dite}
use native.Mathlib.Decide.{ℕ_discrete}
use Rattle.sh_value.specs.declared.refusal.Refusal.TheVariants as refusal
use Rattle.sh_history.specs.declared.entry.Entry.{Entry}
use Rattle.sh_history.specs.declared.entry.Entry.TheVariants.{Insert, Gone}
use Rattle.sh_history.specs.declared.log.LogEntry.{LogEntry}
use Rattle.sh_history.specs.declared.log.LogEntry.TheVariants.{Known}
use Rattle.sh_history.specs.History.{value_of, Allowed, Legal}
use Rattle.sh_history.specs.Laws.{HasRemoval}
use Rattle.sh_history.specs.Log.{Agrees, pass_of}
use Rattle.sh_history.proofs.Laws.{legal_after_parts}
use Rattle.sh_history.proofs.LogLaws.{value_of_insert}
use Rattle.sh_history.proofs.Standing.{splits_at, has_removal}
use Rattle.sh_table.specs.Tales.{by}
use Rattle.sh_table.proofs.Zips.{by_append}
use Rattle.sh_script.specs.declared.calls.Reference.TheVariants as reference
use Rattle.sh_script.specs.declared.calls.Call.{Call}
use Rattle.sh_script.specs.declared.calls.Call.TheVariants as call
use Rattle.sh_script.specs.declared.calls.CallLine.{CallLine}
use Rattle.script_output.specs.declared.answer.Answer.{Answer}
use Rattle.script_output.specs.declared.answer.Answer.TheVariants as answer
use Rattle.script_output.specs.Keys.{shown, key_shown}
use Rattle.script_calls.specs.Parts.{RunTerms, PassPart, HasAllLogs, passes_below, PassTold}
use Rattle.script_calls.specs.Calls.{CallAnswers}
use Rattle.script_calls.specs.Calls.{binds, number_told}
use Rattle.script_calls.specs.Runs.{CallsRun, LineAnswered, LinesAnswered, opening_calls, number_meant}
use Rattle.script_calls.specs.Told.{part_told, IsTold, FollowsInsert, WasRemoved, NamedIsRemoved, PostedIsRemoved}
use Rattle.script_calls.specs.Told.{number_on}
use Rattle.script_calls.specs.InOrder.{Precedes, adds_entry, adding_passes, entries_added, times}
use Rattle.script_calls.specs.Named.{BindsNeeded, numbers_told}
use Rattle.sh_table.specs.Seats.{Heap}
use Rattle.script_calls.proofs.ListLemmas.{up_get}
use Rattle.script_calls.proofs.LineLemmas.{part_here, part_there}
use Rattle.script_calls.proofs.Newcomers.{get_middle}
use Rattle.script_calls.proofs.OrderLemmas.{times_length, times_here, by_here, by_else, by_length, cuts}
use Rattle.script_calls.proofs.GrowLemmas.{KeepsKnown, keeps_known}
use Rattle.script_calls.proofs.NameLemmas.{may_log, line_count, first_in, added_grows}
use Rattle.script_calls.proofs.NameLaws.{log_at}
use Rattle.script_calls.proofs.GoneAnswers.{says_gone, says_inserted, is_insert, key_of_shown, on_some_name, named_on}
use Rattle.script_calls.proofs.GoneAnswers.{binder_of}

-- ---- a line among the others

pub line_keeps : (terms : RunTerms) (tag : Option ℕ) (run next : CallsRun) (l : CallLine) (a : Answer)
    → LineAnswered terms tag run l a next → (p : ℕ) → KeepsKnown (run.parts p).log (next.parts p).log
line_keeps terms tag run next l a s p k e at = dite (ℕ_discrete p l.pass)
    (λ (is : p ≡ l.pass).
    let here : next.parts p ≡ s.part = ap (λ (r : CallsRun). r.parts p) s.next_is
    ∙ part_here run.parts l.pass p s.part is in
    let old : slice_get s.begins.log k ≡ Some (Known e) = subst
    (λ (x : List LogEntry). slice_get x k ≡ Some (Known e)) (sym (may_log (run.parts l.pass) s.begins s.heeds))
    (subst (λ (q : ℕ). slice_get (run.parts q).log k ≡ Some (Known e)) is at) in
    subst (λ (u : PassPart). slice_get u.log k ≡ Some (Known e)) (sym here)
    (keeps_known terms tag l.pass s.begins l.call (number_meant run.numbers l.call) a s.part s.does k e old))
    (λ (ne : p ≢ l.pass).
    let there : next.parts p ≡ run.parts p = ap (λ (r : CallsRun). r.parts p) s.next_is
    ∙ part_there run.parts l.pass p s.part ne in
    subst (λ (u : PassPart). slice_get u.log k ≡ Some (Known e)) (sym there) at)

lines_keep : (terms : RunTerms) (tag : Option ℕ) (before after : CallsRun) (ls : List CallLine) (bs : List Answer)
    → LinesAnswered terms tag before ls bs after → (p : ℕ) → KeepsKnown (before.parts p).log (after.parts p).log
lines_keep terms tag before after [] [] h p k e at =
    subst (λ (r : CallsRun). slice_get (r.parts p).log k ≡ Some (Known e)) (sym h) at
lines_keep terms tag before after [] (b ∷ bs) h p k e at = absurd h
lines_keep terms tag before after (l ∷ ls) [] h p k e at = absurd h
lines_keep terms tag before after (l ∷ ls) (b ∷ bs) h p k e at =
    lines_keep terms tag h.0 after ls bs h.2 p k e (line_keeps terms tag before h.0 l b h.1 p k e at)

-- the run before a line and after it, and what stays until the end
record LineAt (terms : RunTerms) (tag : Option ℕ) (before after : CallsRun) (ls : List CallLine) (bs : List Answer)
    (i : ℕ) (l : CallLine) (a : Answer) : Type 0 where
  pub mid : CallsRun
  pub next : CallsRun
  pub step : LineAnswered terms tag mid l a next
  pub numbers : mid.numbers ≡ before.numbers ++ numbers_told (take i ls) bs
  pub counts : (p : ℕ) → length (mid.parts p).log
      ≡ length (before.parts p).log + length (times p (adding_passes (take i ls) bs))
  pub keeps : (p : ℕ) → KeepsKnown (next.parts p).log (after.parts p).log

line_at : (terms : RunTerms) (tag : Option ℕ) (before after : CallsRun) (ls : List CallLine) (bs : List Answer)
    (i : ℕ) (l : CallLine) (a : Answer) → LinesAnswered terms tag before ls bs after → slice_get ls i ≡ Some l
    → slice_get bs i ≡ Some a → LineAt terms tag before after ls bs i l a
line_at terms tag before after [] bs i l a h at said = absurd (none-some l at)
line_at terms tag before after (k ∷ ks) [] i l a h at said = absurd h
line_at terms tag before after (k ∷ ks) (b ∷ bs) zero l a h at said =
    let S : CallLine × Answer → Type 0 = λ z. LineAnswered terms tag before z.0 z.1 h.0 in
    record {
      mid = before;
      next = h.0;
      step = subst S (λ j. (same_Some k l at j, same_Some b a said j)) h.1;
      numbers = sym (append-nil before.numbers);
      counts = λ p. let z : length (times p (adding_passes [] (b ∷ bs))) ≡ 0 = refl in omega (arith, z);
      keeps = lines_keep terms tag h.0 after ks bs h.2;
    }
line_at terms tag before after (k ∷ ks) (b ∷ bs) (suc i) l a h at said =
    let r = line_at terms tag h.0 after ks bs i l a h.2 at said in
    record {
      mid = r.mid;
      next = r.next;
      step = r.step;
      numbers = r.numbers ∙ (ap (λ (ns : List (Option ℕ)). ns ++ numbers_told (take i ks) bs)
          (ap (λ (q : CallsRun). q.numbers) h.1.next_is) ∙ go (binds k.call));
      counts = λ p.
          let rest = r.counts p in
          let one = line_count terms tag before h.0 k b h.1 p in
          let all = times_length p (cond (adds_entry k.call b) (k.pass ∷ []) []) (adding_passes (take i ks) bs) in
          omega (arith, rest, one, all);
      keeps = r.keeps;
    }
  where
    go : (c : Bool) → cond c (before.numbers ++ number_told b ∷ []) before.numbers ++ numbers_told (take i ks) bs
        ≡ before.numbers ++ (cond c (number_told b ∷ []) [] ++ numbers_told (take i ks) bs)
    go true = append_assoc before.numbers (number_told b ∷ []) (numbers_told (take i ks) bs)
    go false = refl

-- ---- its entry in the history

pub zip_known : (xs : List LogEntry) (ys : List Entry) → AllZip Agrees xs ys → (k : ℕ) (e : Entry)
    → slice_get xs k ≡ Some (Known e) → slice_get ys k ≡ Some e
zip_known [] ys h k e at = absurd (none-some (Known e) at)
zip_known (x ∷ xs) [] h k e at = absurd h
zip_known (x ∷ xs) (y ∷ ys) h zero e at =
    let is : y ≡ e = subst (λ (z : LogEntry). Agrees z y) (same_Some x (Known e) at) h.0 in
    ap (λ (z : Entry). Some z) is
zip_known (x ∷ xs) (y ∷ ys) h (suc k) e at = zip_known xs ys h.1 k e at

own_at : (history : List Entry) (pass first key : ℕ) (f : FollowsInsert history pass first key)
    → slice_get (by pass history) first ≡ Some f.own
own_at history pass first key f =
    let own : by pass (f.own ∷ f.late) ≡ f.own ∷ by pass f.late = subst
    (λ (p : ℕ). by p (f.own ∷ f.late) ≡ f.own ∷ by p f.late) f.pass_is (by_here f.own f.late) in
    let parts : by pass history ≡ by pass f.early ++ f.own ∷ by pass f.late = ap (by pass) f.is
    ∙ (by_append pass f.early (f.own ∷ f.late) ∙ ap (λ (z : List Entry). by pass f.early ++ z) own) in
    ap (λ (z : List Entry). slice_get z first) parts
    ∙ (ap (slice_get (by pass f.early ++ f.own ∷ by pass f.late)) (sym f.first_are)
    ∙ get_middle (by pass f.early) f.own (by pass f.late))

-- an entry that follows the insert of its key and says that the key is gone has a removal before it
gone_is_removed : (passes guard_max : ℕ) (history : List Entry) → Legal passes guard_max history
    → (pass first key : ℕ) (f : FollowsInsert history pass first key) → f.own ≡ Gone pass key → HasRemoval f.early key
gone_is_removed passes guard_max history legal pass first key f own =
    let parts = legal_after_parts passes guard_max [] f.early (f.own ∷ f.late)
    (subst (Legal passes guard_max) f.is legal) in
    let may : Allowed passes guard_max f.early (Gone pass key) = subst (Allowed passes guard_max f.early) own
    parts.1.0 in
    let s = splits_at f.early (Insert f.inserter key f.value) f.inserted in
    let issued : value_of f.early key ≡ Some f.value = ap (λ l. value_of l key) s.2 ∙ value_of_insert passes
    guard_max s.0 s.1 f.inserter key f.value (subst (Legal passes guard_max) s.2 parts.0) in
    ⊎_elim (λ (n : value_of f.early key ≡ None). absurd (let z : None ≡ Some f.value = sym n ∙ issued in cc))
    (has_removal f.early key) may

-- ---- an entry after the insert of its key

by_has : (p : ℕ) (es : List Entry) (e : Entry) → Contains (by p es) e → Contains es e
by_has p [] e c = c
by_has p (y ∷ ys) e c = go (pass_of y == p) c (by_has p ys e) where
  go : (b : Bool) → Contains (cond b (y ∷ by p ys) (by p ys)) e → (Contains (by p ys) e → Contains ys e)
      → Contains (y ∷ ys) e
  go true c later = ⊎_elim (λ (h : Contains (y ∷ []) e). Contains-append_left (y ∷ []) ys e h)
      (λ (h : Contains (by p ys) e). Contains-append_right (y ∷ []) ys e (later h))
      (Contains-append_cases (y ∷ []) (by p ys) e c)
  go false c later = Contains-append_right (y ∷ []) ys e (later c)

-- what stands at a place of the first list is in it
has_early : (xs ys : List Entry) (k : ℕ) (e : Entry) → k < length xs → slice_get (xs ++ ys) k ≡ Some e → Contains xs e
has_early [] ys k e lt at = absurd (omega (arith, lt))
has_early (x ∷ xs) ys zero e lt at = subst (λ (z : Entry). Contains (x ∷ xs) z) (same_Some x e at) (first_in x xs)
has_early (x ∷ xs) ys (suc k) e lt at = Contains-append_right (x ∷ []) xs e
    (has_early xs ys k e (omega (arith, lt)) at)

-- the entry of the pass that comes after n others
record NthOf (p n : ℕ) (es : List Entry) : Type 0 where
  pub fore : List Entry
  pub it : Entry
  pub aft : List Entry
  pub is : es ≡ fore ++ it ∷ aft
  pub who : pass_of it ≡ p
  pub count : length (by p fore) ≡ n

nth_of : (p n : ℕ) (es : List Entry) → n < length (by p es) → NthOf p n es
nth_of p n [] l = absurd (omega (arith, l))
nth_of p n (e ∷ es) l = dite (ℕ_discrete (pass_of e) p)
    (λ (same : pass_of e ≡ p).
    let one : (fs : List Entry) → length (by p (e ∷ fs)) ≡ suc (length (by p fs)) = λ fs. subst
    (λ (q : ℕ). length (by q (e ∷ fs)) ≡ suc (length (by q fs))) same (ap (λ (z : List Entry). length z) (by_here e fs))
    in
    go one same (λ k few. nth_of p k es few) n l)
    (λ (ne : pass_of e ≢ p).
    let r = nth_of p n es (subst (λ (xs : List Entry). n < length xs) (by_else p e es ne) l) in
    record {
      fore = e ∷ r.fore;
      it = r.it;
      aft = r.aft;
      is = ap (λ (z : List Entry). e ∷ z) r.is;
      who = r.who;
      count = ap (λ (z : List Entry). length z) (by_else p e r.fore ne) ∙ r.count;
    })
  where
    go : ((fs : List Entry) → length (by p (e ∷ fs)) ≡ suc (length (by p fs))) → pass_of e ≡ p
        → ((k : ℕ) → k < length (by p es) → NthOf p k es) → (k : ℕ) → k < length (by p (e ∷ es)) → NthOf p k (e ∷ es)
    go one same rest zero l = record { fore = []; it = e; aft = es; is = refl; who = same; count = refl }
    go one same rest (suc k) l =
        let all = one es in
        let r = rest k (omega (arith, l, all)) in
        let more = one r.fore in
        let count = r.count in
        record {
          fore = e ∷ r.fore;
          it = r.it;
          aft = r.aft;
          is = ap (λ (z : List Entry). e ∷ z) r.is;
          who = r.who;
          count = omega (arith, more, count);
        }

-- the insert is among the entries that come before all entries of the pass except its first ones
follows_insert : (history : List Entry) (q done p from first place key who : ℕ) (value : List ℕ) (own : Entry)
    → Precedes history q done p from → from ≤ first → place < done
    → slice_get (by q history) place ≡ Some (Insert who key value) → slice_get (by p history) first ≡ Some own
    → FollowsInsert history p first key
follows_insert history q done p from first place key who value own pre le lt inserted mine =
    let n = nth_of p first history (slice_get_within (by p history) first own mine) in
    let parts : by q history ≡ by q pre.early ++ by q pre.late = ap (by q) pre.is ∙ by_append q pre.early pre.late in
    let many = pre.heard in
    let there : Contains pre.early (Insert who key value) = by_has q pre.early (Insert who key value)
    (has_early (by q pre.early) (by q pre.late) place (Insert who key value) (omega (arith, lt, many))
    (ap (λ (z : List Entry). slice_get z place) (sym parts) ∙ inserted)) in
    ⊎_elim
    (λ (r : (rest : List Entry) × (n.fore ≡ pre.early ++ rest)).
    let it : FollowsInsert history p first key = record {
      early = n.fore;
      own = n.it;
      late = n.aft;
      is = n.is;
      pass_is = n.who;
      first_are = n.count;
      inserter = who;
      value = value;
      inserted = subst (λ (z : List Entry). Contains z (Insert who key value)) (sym r.1)
          (Contains-append_left pre.early r.0 (Insert who key value) there);
    } in it)
    (λ (r : (rest : List Entry) × (pre.early ≡ n.fore ++ n.it ∷ rest)).
    let more : length (by p pre.early) ≡ length (by p n.fore) + length (by p (n.it ∷ r.0)) = ap
    (λ (z : List Entry). length (by p z)) r.1 ∙ by_length p n.fore (n.it ∷ r.0) in
    let one : length (by p (n.it ∷ r.0)) ≡ suc (length (by p r.0)) = subst
    (λ (z : ℕ). length (by z (n.it ∷ r.0)) ≡ suc (length (by z r.0))) n.who
    (ap (λ (z : List Entry). length z) (by_here n.it r.0)) in
    let few = pre.own in
    let count = n.count in
    absurd (omega (arith, more, one, few, count, le)))
    (cuts pre.early pre.late n.fore n.aft n.it (sym pre.is ∙ n.is))

-- ---- lines that add an entry

-- such a line adds one entry of its pass
added_one : (ls : List CallLine) (bs : List Answer) (k : ℕ) (l : CallLine) (a : Answer) → slice_get ls k ≡ Some l
    → slice_get bs k ≡ Some a → adds_entry l.call a ≡ true
    → entries_added l.pass (take (suc k) ls) bs ≡ suc (entries_added l.pass (take k ls) bs)
added_one [] bs k l a e f adds = absurd (none-some l e)
added_one (x ∷ xs) [] k l a e f adds = absurd (none-some a f)
added_one (x ∷ xs) (b ∷ bs) zero l a e f adds =
    let A : CallLine × Answer → Type 0 = λ z. adds_entry z.0.call z.1 ≡ true in
    let test : adds_entry x.call b ≡ true = subst A (λ j. (sym (same_Some x l e) j, sym (same_Some b a f) j)) adds in
    ap (λ (t : Bool). length (times l.pass (cond t (x.pass ∷ []) [] ++ []))) test
    ∙ (ap (λ (z : CallLine). length (times l.pass (z.pass ∷ []))) (same_Some x l e)
    ∙ ap (λ (z : List ℕ). length z) (times_here l.pass []))
added_one (x ∷ xs) (b ∷ bs) (suc k) l a e f adds =
    let here : List ℕ = cond (adds_entry x.call b) (x.pass ∷ []) [] in
    let rest = added_one xs bs k l a e f adds in
    let few = times_length l.pass here (adding_passes (take k xs) bs) in
    let many = times_length l.pass here (adding_passes (take (suc k) xs) bs) in
    omega (arith, rest, few, many)

module _ (alone : Bool) (heap : Option Heap) (terms : RunTerms) (tag : Option ℕ) (lines : List CallLine)
    (output : List ℕ) (tale : List PassTold) (t : IsTold alone heap terms tag lines output tale) where
  abbrev said : List Answer
  said = t.replies.answers

  abbrev LineOf : ℕ → CallLine → Answer → Type 0
  LineOf i l a = LineAt terms tag (opening_calls heap) t.replies.after lines said i l a

  line_of : (i : ℕ) (l : CallLine) (a : Answer) → slice_get lines i ≡ Some l → slice_get said i ≡ Some a → LineOf i l a
  line_of i l a at is = line_at terms tag (opening_calls heap) t.replies.after lines said i l a t.replies.ran at is

  -- the entry of a line is in the history, behind those of its pass that the lines before added
  own_entry : (i : ℕ) (l : CallLine) (a : Answer) (e : Entry) → slice_get lines i ≡ Some l → (x : LineOf i l a)
      → x.step.part.log ≡ x.step.begins.log ++ Known e ∷ []
      → slice_get (by l.pass t.whole.history) (entries_added l.pass (take i lines) said) ≡ Some e
  own_entry i l a e at x log =
      let history = t.whole.history in
      let parts = t.replies.after.parts in
      let first : ℕ = entries_added l.pass (take i lines) said in
      let counted = x.counts l.pass in
      let none : length ((opening_calls heap).parts l.pass).log ≡ 0 = refl in
      let begun : length x.step.begins.log ≡ length (x.mid.parts l.pass).log = ap (λ (q : List LogEntry). length q)
      (may_log (x.mid.parts l.pass) x.step.begins x.step.heeds) in
      let place : length x.step.begins.log ≡ first = omega (arith, counted, none, begun) in
      let part : x.next.parts l.pass ≡ x.step.part = ap (λ (r : CallsRun). r.parts l.pass) x.step.next_is
      ∙ part_here x.mid.parts l.pass l.pass x.step.part refl in
      let stands : slice_get (x.next.parts l.pass).log first ≡ Some (Known e) = ap
      (λ (u : PassPart). slice_get u.log first) part ∙ (ap (λ (q : List LogEntry). slice_get q first) log
      ∙ (ap (slice_get (x.step.begins.log ++ Known e ∷ [])) (sym place)
      ∙ get_middle x.step.begins.log (Known e) [])) in
      let less : l.pass < terms.shape.passes = subst (λ (z : CallLine). z.pass < terms.shape.passes)
      (get_or_from_slice_get lines i l l at) (t.within i l (slice_get_within lines i l at)) in
      let logs : HasAllLogs history (map (part_told parts) (passes_below terms.shape.passes)) = subst
      (HasAllLogs history) t.tale_is t.whole.has in
      zip_known (parts l.pass).log (by l.pass history) (log_at history parts (passes_below terms.shape.passes) logs
      l.pass l.pass (up_get terms.shape.passes l.pass less)) first e (x.keeps l.pass first e stands)

  posted : (k j i m : ℕ) (inserter binder l last : CallLine) (words : List ℕ) (number : ℕ) → k ≤ j → j < i → i ≤ m
      → slice_get lines k ≡ Some inserter → inserter.call ≡ call.Insert words
      → slice_get said k ≡ Some (answer.Key number)
      → binder.pass ≡ inserter.pass → BindsNeeded lines j binder l.call → slice_get lines i ≡ Some l
      → last.pass ≡ l.pass → slice_get lines m ≡ Some last
      → slice_get said m ≡ Some (answer.Refused refusal.Gone)
      → number_on (number_meant (numbers_told (take m lines) said) last.call) last.call ≡ Some number
      → WasRemoved t.whole.history tag last.pass (entries_added last.pass (take m lines) said) number
  posted k j i m inserter binder l last words number kj ji im at_k inserts said_k its needs at_i own at_m said_m on =
      let history = t.whole.history in
      let first : ℕ = entries_added last.pass (take m lines) said in
      -- the line that gets Gone
      let x = line_of m last (answer.Refused refusal.Gone) at_m said_m in
      let bound : Option ℕ = number_meant x.mid.numbers last.call in
      let on_it : number_on bound last.call ≡ Some number = ap
      (λ (ns : List (Option ℕ)). number_on (number_meant ns last.call) last.call) x.numbers ∙ on in
      let gone = says_gone terms tag last.pass number x.step.begins x.step.part bound last.call on_it x.step.does in
      let mine : slice_get (by last.pass history) first ≡ Some (Gone last.pass gone.key) = own_entry m last
      (answer.Refused refusal.Gone) (Gone last.pass gone.key) at_m x gone.log in
      -- the line that inserted the key
      let y = line_of k inserter (answer.Key number) at_k said_k in
      let put = says_inserted terms tag inserter.pass number y.step.begins y.step.part
      (number_meant y.mid.numbers inserter.call) words (subst (λ (c : Call). CallAnswers terms tag inserter.pass
      y.step.begins c (number_meant y.mid.numbers inserter.call) (answer.Key number) y.step.part) inserts y.step.does)
      in
      let insert : Entry = Insert inserter.pass put.0 words in
      let inserted : slice_get (by inserter.pass history) (entries_added inserter.pass (take k lines) said)
      ≡ Some insert = own_entry k inserter (answer.Key number) insert at_k y put.2 in
      let same : gone.key ≡ put.0 = key_of_shown tag put.0 gone.key (subst
      (λ (z : ℕ). key_shown tag z ≡ Some gone.key) put.1 gone.shown) in
      -- it comes before
      let adds : adds_entry inserter.call (answer.Key number) ≡ true = ap
      (λ (c : Call). adds_entry c (answer.Key number)) inserts in
      let one = added_one lines said k inserter (answer.Key number) at_k said_k adds in
      let grown = added_grows inserter.pass lines said (suc k) (suc j) (omega (arith, kj)) in
      let P : ℕ × ℕ → Type 0 = λ z. Precedes history z.0 (entries_added z.0 (take (suc j) lines) said) z.1
      (entries_added z.1 (take i lines) said) in
      let order : Precedes history inserter.pass (entries_added inserter.pass (take (suc j) lines) said) last.pass
      (entries_added last.pass (take i lines) said) = subst P (λ q. (its q, sym own q))
      (t.named j i binder l ji at_i needs) in
      let f = follows_insert history inserter.pass (entries_added inserter.pass (take (suc j) lines) said) last.pass
      (entries_added last.pass (take i lines) said) first (entries_added inserter.pass (take k lines) said) put.0
      inserter.pass words (Gone last.pass gone.key) order (added_grows last.pass lines said i m im)
      (omega (arith, one, grown)) inserted mine in
      let is : f.own ≡ Gone last.pass put.0 = same_Some f.own (Gone last.pass gone.key)
      (sym (own_at history last.pass first put.0 f) ∙ mine) ∙ ap (λ (z : ℕ). Gone last.pass z) same in
      record {
        key = put.0;
        shown = gone.shown ∙ ap (λ (z : ℕ). Some z) same;
        follows = f;
        gone = is;
        removed = gone_is_removed terms.shape.passes terms.layout.guard_max history t.whole.legal last.pass first put.0
            f is;
      }

  on_name_removed : (i : ℕ) (l : CallLine) (number : ℕ) → slice_get lines i ≡ Some l
      → slice_get said i ≡ Some (answer.Refused refusal.Gone)
      → number_meant (numbers_told (take i lines) said) l.call ≡ Some number
      → WasRemoved t.whole.history tag l.pass (entries_added l.pass (take i lines) said) number
  on_name_removed i l number at gone meant =
      let numbers = numbers_told (take i lines) said in
      let name = on_some_name numbers l.call number meant in
      let b = binder_of lines said i name.0 number name.2 in
      let on = named_on (number_meant numbers l.call) l.call name.0 name.1 in
      let y = line_of b.place b.line (answer.Key number) b.at b.said in
      let put = is_insert terms tag b.line.pass number y.step.begins y.step.part
      (number_meant y.mid.numbers b.line.call) b.line.call b.binds_name y.step.does in
      let needs : BindsNeeded lines b.place b.line l.call = record {
        at = b.at;
        binds_name = b.binds_name;
        needed = on.0 ∙ ap (λ (z : ℕ). Some z) (sym b.names);
      } in
      posted b.place b.place i i b.line b.line l l put.0 number (omega arith) b.less (omega arith) b.at put.1 b.said refl
      needs at refl at gone (on.1 ∙ meant)

pub posted_is_removed : PostedIsRemoved
posted_is_removed alone heap terms tag lines output tale t = posted alone heap terms tag lines output tale t

pub named_is_removed : NamedIsRemoved
named_is_removed alone heap terms tag lines output tale t = on_name_removed alone heap terms tag lines output tale t
