-- What the answers Gone and a key say of a call, and which line bound its name.
use Rattle.std.proofs.Common.{◌≡◌, ℕ, zero, suc, ◌+◌, ◌*◌, ◌/◌, ◌%◌, ◌^◌, ◌<◌, ◌==◌, Bool, true, false, cond}
use Rattle.std.proofs.Common.{List, [], ◌∷◌, ◌++◌, length, take, slice_get, Option, Some, None, Result, Ok, Err, sym}
use Rattle.std.proofs.Common.{refl, ap, ◌∙◌, subst, arith, eqb-true}
use Rattle.std.specs.Prelude.{filter, ok_or, if◌then◌else◌}
use Rattle.std.proofs.lemmas.Option.{none-some, same_Some}
use Rattle.sh_value.specs.declared.hold.Hold.{Hold}
use Rattle.sh_value.specs.declared.refusal.Refusal.{Refusal}
use Rattle.sh_value.specs.declared.refusal.Refusal.TheVariants as refusal
use Rattle.sh_history.specs.declared.entry.Entry.TheVariants.{Insert, Gone}
use Rattle.sh_history.specs.declared.log.LogEntry.TheVariants.{Known}
use Rattle.sh_script.specs.BoundNames.{name_needed, name_referred, names_in}
use Rattle.sh_script.specs.declared.calls.Reference.{Reference}
use Rattle.sh_script.specs.declared.calls.Reference.TheVariants as reference
use Rattle.sh_script.specs.declared.calls.Call.{Call}
use Rattle.sh_script.specs.declared.calls.Call.TheVariants as call
use Rattle.sh_script.specs.declared.calls.CallLine.{CallLine}
use Rattle.script_output.specs.declared.answer.Answer.{Answer}
use Rattle.script_output.specs.declared.answer.Answer.TheVariants as answer
use Rattle.script_output.specs.Keys.{shown, key_shown}
use Rattle.script_output.specs.Results.{done_answer, value_answer, key_answer}
use Rattle.script_calls.specs.Parts.{RunTerms, PassPart, Becomes, with_entry}
use Rattle.script_calls.specs.Calls.{CallAnswers, AnswerSays, UnlessRefused, OnKey, key_meant, key_for_name, name_used}
use Rattle.script_calls.specs.Calls.{binds, number_told, GetAnswers, ReadAnswers, RemoveAnswers, ReleaseAnswers}
use Rattle.script_calls.specs.Calls.{HoldGot, ValueRead, HoldReleased, KeyRemoved, WordsAnswers, ValueInserted}
use Rattle.script_calls.specs.Calls.{get_refusal, hold_refusal, remove_refusal, words_refusal, needs_shard}
use Rattle.script_calls.specs.Runs.{number_bound, number_meant}
use Rattle.script_calls.specs.Told.{number_of, number_on}
use Rattle.script_calls.specs.InOrder.{adds_entry}
use Rattle.script_calls.specs.Named.{numbers_told}

-- ---- what an answer Gone of a call on a name adds

pub record SaysGone (tag : Option ℕ) (pass n : ℕ) (v w : PassPart) (c : Call) : Type 0 where
  pub adds : adds_entry c (answer.Refused refusal.Gone) ≡ true
  pub key : ℕ
  pub shown : key_shown tag n ≡ Some key
  pub log : w.log ≡ v.log ++ Known (Gone pass key) ∷ []

-- the name is bound to a key
on_name : (tag : Option ℕ) (n : ℕ) (v w : PassPart) (C : ℕ → Answer → PassPart → Type 0) (o : Option ℕ)
    → OnKey (ok_or o (answer.Refused refusal.BadKey)) v C (answer.Refused refusal.Gone) w
    → (key : ℕ) × (o ≡ Some key) × C key (answer.Refused refusal.Gone) w
on_name tag n v w C None h =
    absurd (let z : answer.Refused refusal.Gone ≡ answer.Refused refusal.BadKey = h.0 in cc)
on_name tag n v w C (Some key) h = (key, refl, h)

-- no other refusal came first
unless_gone : {A : Type 0} (r : Result A Refusal) (first : Option Refusal) (Unchanged Rest : Type 0)
    → r ≡ Err refusal.Gone → (first ≡ Some refusal.Gone → ⊥) → UnlessRefused first r Unchanged Rest → Rest
unless_gone r None Unchanged Rest is never h = h
unless_gone r (Some e) Unchanged Rest is never h =
    let z = sym is ∙ h.0 in
    let y : e ≡ refusal.Gone = cc in
    absurd (never (ap (λ (x : Refusal). Some x) y))

get_never : (b c : Bool) → cond b (Some refusal.BadKey) (cond c (Some refusal.HoldsFull) None) ≡ Some refusal.Gone → ⊥
get_never true c e = let z : Some refusal.BadKey ≡ Some refusal.Gone = e in cc
get_never false true e = let z : Some refusal.HoldsFull ≡ Some refusal.Gone = e in cc
get_never false false e = let z : None ≡ Some refusal.Gone = e in cc

hold_never : (b : Bool) → cond b None (Some refusal.NotHeld) ≡ Some refusal.Gone → ⊥
hold_never true e = let z : None ≡ Some refusal.Gone = e in cc
hold_never false e = let z : Some refusal.NotHeld ≡ Some refusal.Gone = e in cc

remove_never : (b : Bool) → cond b None (Some refusal.BadKey) ≡ Some refusal.Gone → ⊥
remove_never true e = let z : None ≡ Some refusal.Gone = e in cc
remove_never false e = let z : Some refusal.BadKey ≡ Some refusal.Gone = e in cc

module _ (terms : RunTerms) (tag : Option ℕ) (pass n : ℕ) (v w : PassPart) where
  -- a result that is reported as Gone is Gone
  told_gone : {A : Type 0} (tell : Result A Refusal → Answer) (D : Result A Refusal → Type 0)
      → ((x : A) → answer.Refused refusal.Gone ≡ tell (Ok x) → ⊥) → ((e : Refusal) → tell (Err e) ≡ answer.Refused e)
      → (r : Result A Refusal) → answer.Refused refusal.Gone ≡ tell r → D r → D (Err refusal.Gone)
  told_gone tell D never errs (Ok x) is d = absurd (never x is)
  told_gone {A} tell D never errs (Err e) is d =
      let z : answer.Refused refusal.Gone ≡ answer.Refused e = is ∙ errs e in
      let y : e ≡ refusal.Gone = cc in
      subst (λ (x : Refusal). D (Err x)) y d

  entry_of : (key : ℕ) → Becomes (with_entry v (Known (Gone pass key))) w → w.log ≡ v.log ++ Known (Gone pass key) ∷ []
  entry_of key is = ap (λ (u : PassPart). u.log) is

  -- the key that a call on this number is on
  ref_key : (bound : Option ℕ) (r : Reference) → number_of bound r ≡ Some n
      → key_meant tag bound r ≡ ok_or (key_shown tag n) (answer.Refused refusal.BadKey)
  ref_key bound (reference.Key k) e = ap (λ (z : ℕ). ok_or (key_shown tag z) (answer.Refused refusal.BadKey))
      (same_Some k n e)
  ref_key bound (reference.Name i) e = ap (λ (b : Option ℕ). key_for_name tag b) e

  pub says_gone : (bound : Option ℕ) (c : Call) → number_on bound c ≡ Some n
      → CallAnswers terms tag pass v c bound (answer.Refused refusal.Gone) w → SaysGone tag pass n v w c
  says_gone bound (call.Get r) e h =
      let C : ℕ → Answer → PassPart → Type 0 = λ key. AnswerSays done_answer (GetAnswers terms pass v key) in
      let k = on_name tag n v w C (key_shown tag n) (subst (λ (o : Result ℕ Answer). OnKey o v C
      (answer.Refused refusal.Gone) w) (ref_key bound r e) h) in
      let d = told_gone done_answer (λ (r : Result Hold Refusal). GetAnswers terms pass v k.0 r w)
      (λ x z. let y : answer.Refused refusal.Gone ≡ answer.Done = z in cc)
      (λ e. refl) k.2.result k.2.is k.2.does in
      let got : HoldGot pass v k.0 (Err refusal.Gone) w = unless_gone (Err refusal.Gone)
      (get_refusal terms pass v k.0) _ _ refl (get_never _ _)
      d.0 in
      record { adds = refl; key = k.0; shown = k.1; log = entry_of k.0 got }
  says_gone bound (call.Read r) e h =
      let C : ℕ → Answer → PassPart → Type 0 = λ key. AnswerSays value_answer (ReadAnswers terms pass v key) in
      let k = on_name tag n v w C (key_shown tag n) (subst (λ (o : Result ℕ Answer). OnKey o v C
      (answer.Refused refusal.Gone) w) (ref_key bound r e) h) in
      let d = told_gone value_answer (λ (r : Result (List ℕ) Refusal). ReadAnswers terms pass v k.0 r w)
      (λ x z. let y : answer.Refused refusal.Gone ≡ answer.Read x = z in cc)
      (λ e. refl) k.2.result k.2.is k.2.does in
      let none : ValueRead v k.0 (Err refusal.Gone) w = unless_gone (Err refusal.Gone)
      (hold_refusal pass v k.0) _ _ refl (hold_never _) d.0 in
      absurd none
  says_gone bound (call.Remove r) e h =
      let C : ℕ → Answer → PassPart → Type 0 = λ key. AnswerSays done_answer (RemoveAnswers terms pass v key) in
      let k = on_name tag n v w C (key_shown tag n) (subst (λ (o : Result ℕ Answer). OnKey o v C
      (answer.Refused refusal.Gone) w) (ref_key bound r e) h) in
      let d = told_gone done_answer (λ (r : Result (Unit {0}) Refusal). RemoveAnswers terms pass v k.0 r w)
      (λ x z. let y : answer.Refused refusal.Gone ≡ answer.Done = z in cc)
      (λ e. refl) k.2.result k.2.is k.2.does in
      let got : KeyRemoved pass v k.0 (Err refusal.Gone) w = unless_gone (Err refusal.Gone)
      (remove_refusal terms k.0) _ _ refl (remove_never _)
      d.0 in
      record { adds = refl; key = k.0; shown = k.1; log = entry_of k.0 got }
  says_gone bound (call.Release r) e h =
      let C : ℕ → Answer → PassPart → Type 0 = λ key. AnswerSays done_answer (ReleaseAnswers terms pass v key) in
      let k = on_name tag n v w C (key_shown tag n) (subst (λ (o : Result ℕ Answer). OnKey o v C
      (answer.Refused refusal.Gone) w) (ref_key bound r e) h) in
      let d = told_gone done_answer (λ (r : Result (Unit {0}) Refusal). ReleaseAnswers terms pass v k.0 r w)
      (λ x z. let y : answer.Refused refusal.Gone ≡ answer.Done = z in cc)
      (λ e. refl) k.2.result k.2.is k.2.does in
      let none : HoldReleased pass v k.0 (Err refusal.Gone) w = unless_gone (Err refusal.Gone)
      (hold_refusal pass v k.0) _ _ refl (hold_never _) d.0 in
      absurd none
  says_gone bound _ e h = absurd (let z : None ≡ Some n = e in cc)

-- ---- what an insert adds

unrefused : {A : Type 0} (first : Option Refusal) (x : A) (Unchanged Rest : Type 0)
    → UnlessRefused first (Ok x) Unchanged Rest → Rest
unrefused None x Unchanged Rest h = h
unrefused (Some e) x Unchanged Rest h = absurd (let z : Ok x ≡ Err e = h.0 in cc)

module _ (terms : RunTerms) (tag : Option ℕ) (pass number : ℕ) (v w : PassPart) (bound : Option ℕ) where
  -- its key, as it is written, and its entry
  pub says_inserted : (words : List ℕ) → CallAnswers terms tag pass v (call.Insert words) bound (answer.Key number) w
      → (key : ℕ) × (number ≡ shown tag key) × (w.log ≡ v.log ++ Known (Insert pass key words) ∷ [])
  says_inserted words h = go h.result h.is h.does where
    go : (r : Result ℕ Refusal) → answer.Key number ≡ key_answer tag r → WordsAnswers terms pass v words r w
        → (key : ℕ) × (number ≡ shown tag key) × (w.log ≡ v.log ++ Known (Insert pass key words) ∷ [])
    go (Err e) is d = absurd (let z : answer.Key number ≡ answer.Refused e = is in cc)
    go (Ok key) is d =
        let z : answer.Key number ≡ answer.Key (shown tag key) = is in
        let inserts = unrefused (words_refusal words) key _ _ d in
        let own : ValueInserted terms pass v words (Ok key) w = unrefused (needs_shard v.shard) key _ _ inserts.0 in
        (key, cc, ap (λ (u : PassPart). u.log) own.1)

  -- only an insert returns a key and binds a name
  pub is_insert : (c : Call) → binds c ≡ true → CallAnswers terms tag pass v c bound (answer.Key number) w
      → (words : List ℕ) × (c ≡ call.Insert words)
  is_insert (call.Insert words) b h = (words, refl)
  is_insert call.Post b h = absurd (let z : answer.Key number ≡ answer.Done = h.0 in cc)
  is_insert _ b h = absurd (let z : false ≡ true = b in cc)

-- a number that is written for a key is that of no other key
pub key_of_shown : (tag : Option ℕ) (key n : ℕ) → key_shown tag (shown tag key) ≡ Some n → n ≡ key
key_of_shown None key n e = sym (same_Some key n e)
key_of_shown (Some tag) key n e = go (shown (Some tag) key / 2 ^ 52 == tag * 16) refl e where
  go : (b : Bool) → (shown (Some tag) key / 2 ^ 52 == tag * 16) ≡ b
      → (if b then Some (shown (Some tag) key % 2 ^ 52) else None) ≡ Some n → n ≡ key
  go true is e =
      let high : shown (Some tag) key / 2 ^ 52 ≡ tag * 16 = eqb-true (shown (Some tag) key / 2 ^ 52) (tag * 16) is in
      let at : (tag * 2 ^ 56 + key) / 2 ^ 52 ≡ tag * 16 = high in
      let low : (tag * 2 ^ 56 + key) % 2 ^ 52 ≡ n = same_Some ((tag * 2 ^ 56 + key) % 2 ^ 52) n e in
      omega (arith, at, low)
  go false is e = absurd (let z : None ≡ Some n = e in cc)

-- ---- names

-- a call whose name is bound to a number is on a name
pub on_some_name : (numbers : List (Option ℕ)) (c : Call) (n : ℕ) → number_meant numbers c ≡ Some n
    → (i : ℕ) × (name_used c ≡ Some i) × (slice_get numbers i ≡ Some (Some n))
on_some_name numbers c n e = go (name_used c) refl e where
  found : (o : Option (Option ℕ)) → (elim o as (λ _. Option ℕ) [ Some number ↦ number | None ↦ None ]) ≡ Some n
      → o ≡ Some (Some n)
  found (Some x) e = ap (λ (z : Option ℕ). Some z) e
  found None e = absurd (let z : None ≡ Some n = e in cc)

  go : (o : Option ℕ) → name_used c ≡ o → number_bound numbers o ≡ Some n
      → (i : ℕ) × (name_used c ≡ Some i) × (slice_get numbers i ≡ Some (Some n))
  go None is e = absurd (let z : None ≡ Some n = e in cc)
  go (Some i) is e = (i, is, found (slice_get numbers i) e)

of_name : (bound : Option ℕ) (r : Reference) (i : ℕ) → name_referred r ≡ Some i → number_of bound r ≡ bound
of_name bound (reference.Key k) i e = absurd (let z : None ≡ Some i = e in cc)
of_name bound (reference.Name j) i e = refl

-- such a call needs the name, and is on its number
pub named_on : (bound : Option ℕ) (c : Call) (i : ℕ) → name_used c ≡ Some i
    → (name_needed c ≡ Some i) × (number_on bound c ≡ bound)
named_on bound (call.Get r) i e = (e, of_name bound r i e)
named_on bound (call.Read r) i e = (e, of_name bound r i e)
named_on bound (call.Remove r) i e = (e, of_name bound r i e)
named_on bound (call.Release r) i e = (e, of_name bound r i e)
named_on bound _ i e = absurd (let z : None ≡ Some i = e in cc)

told_key : (a : Answer) (n : ℕ) → number_told a ≡ Some n → a ≡ answer.Key n
told_key (answer.Key k) n e = ap (λ (z : ℕ). answer.Key z) (same_Some k n e)
told_key _ n e = absurd (let z : None ≡ Some n = e in cc)

-- the line that bound a name to a number
pub record Binder (ls : List CallLine) (bs : List Answer) (i n number : ℕ) : Type 0 where
  pub place : ℕ
  pub line : CallLine
  pub less : place < i
  pub at : slice_get ls place ≡ Some line
  pub said : slice_get bs place ≡ Some (answer.Key number)
  pub binds_name : binds line.call ≡ true
  pub names : names_in (take place ls) ≡ n

pub binder_of : (ls : List CallLine) (bs : List Answer) (i n number : ℕ)
    → slice_get (numbers_told (take i ls) bs) n ≡ Some (Some number) → Binder ls bs i n number
binder_of [] bs zero n number e = absurd (none-some (Some number) e)
binder_of [] bs (suc i) n number e = absurd (none-some (Some number) e)
binder_of (l ∷ ls) bs zero n number e = absurd (none-some (Some number) e)
binder_of (l ∷ ls) [] (suc i) n number e = absurd (none-some (Some number) e)
binder_of (l ∷ ls) (b ∷ bs) (suc i) n number e = go (λ k at. binder_of ls bs i k number at) (binds l.call) refl n e refl
  where
    later : ((k : ℕ) → slice_get (numbers_told (take i ls) bs) k ≡ Some (Some number) → Binder ls bs i k number)
        → (k : ℕ) → slice_get (numbers_told (take i ls) bs) k ≡ Some (Some number)
        → names_in (l ∷ []) + k ≡ n → Binder (l ∷ ls) (b ∷ bs) (suc i) n number
    later rest k e is =
        let r = rest k e in
        let less = r.less in
        let names = r.names in
        let here : names_in (take (suc r.place) (l ∷ ls)) ≡ names_in (l ∷ []) + names_in (take r.place ls) = counted
        (take r.place ls) (binds l.call) in
        record {
          place = suc r.place;
          line = r.line;
          less = omega (arith, less);
          at = r.at;
          said = r.said;
          binds_name = r.binds_name;
          names = omega (arith, here, names, is);
        }
      where
        counted : (ks : List CallLine) (c : Bool) → length (cond c (l ∷ filter (λ (x : CallLine). binds x.call) ks)
            (filter (λ (x : CallLine). binds x.call) ks))
            ≡ length (cond c (l ∷ []) []) + length (filter (λ (x : CallLine). binds x.call) ks)
        counted ks true = omega arith
        counted ks false = omega arith

    go : ((k : ℕ) → slice_get (numbers_told (take i ls) bs) k ≡ Some (Some number) → Binder ls bs i k number)
        → (c : Bool) → binds l.call ≡ c → (k : ℕ)
        → slice_get (cond c (number_told b ∷ []) [] ++ numbers_told (take i ls) bs) k ≡ Some (Some number) → k ≡ n
        → Binder (l ∷ ls) (b ∷ bs) (suc i) n number
    go rest true is zero e same = record {
      place = 0;
      line = l;
      less = omega arith;
      at = refl;
      said = ap (λ (z : Answer). Some z) (told_key b number (same_Some (number_told b) (Some number) e));
      binds_name = is;
      names = same;
    }
    go rest true is (suc k) e same =
        let one : names_in (l ∷ []) ≡ 1 = ap (λ (c : Bool). length (cond c (l ∷ []) [])) is in
        later rest k e (omega (arith, one, same))
    go rest false is k e same =
        let none : names_in (l ∷ []) ≡ 0 = ap (λ (c : Bool). length (cond c (l ∷ []) [])) is in
        later rest k e (omega (arith, none, same))
