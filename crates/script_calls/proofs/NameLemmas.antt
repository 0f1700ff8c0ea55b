-- What was heard of the entries before a name: one more line, and one more receipt.
use Rattle.std.proofs.Common.{◌≡◌, ◌≢◌, ℕ, zero, suc, ◌+◌, ◌<◌, ◌≤◌, Bool, true, false, cond, List, [], ◌∷◌, ◌++◌}
use Rattle.std.proofs.Common.{length, take, set, map, slice_get, Option, Some, sym, refl, ap, ◌∙◌, subst, arith}
use Rattle.std.proofs.Common.{append_assoc, append-nil, ⊎_elim}
use Rattle.std.specs.List.{Contains}
use Rattle.std.proofs.lemmas.List.Elements.{Contains-append_left, Contains-append_right, Contains-push}
use Rattle.std.proofs.lemmas.List.Elements.{Contains-append_cases}
use Rattle.std.proofs.lemmas.Option.{none-some, same_Some, slice_get_within}
use mathlib.Core.Logic.{dite}
use native.Mathlib.Decide.{ℕ_discrete}
use Rattle.sh_history.specs.declared.log.LogEntry.{LogEntry}
use Rattle.sh_table.specs.declared.view.Heard.{Heard}
use Rattle.sh_table.specs.declared.view.Order.{Order}
use Rattle.sh_table.specs.Views.{heard_in}
use Rattle.sh_script.specs.BoundNames.{names_in}
use Rattle.sh_script.specs.declared.calls.Call.{Call}
use Rattle.sh_script.specs.declared.calls.CallLine.{CallLine}
use Rattle.script_output.specs.declared.answer.Answer.{Answer}
use Rattle.sh_pass.specs.Passes.{Caller}
use Rattle.script_calls.specs.Parts.{RunTerms, PassPart, SeenPass, SamePass}
use Rattle.script_calls.specs.Calls.{binds, number_told}
use Rattle.script_calls.specs.Runs.{CallsRun, LineAnswered, LinesAnswered, number_meant}
use Rattle.script_calls.specs.OwnParts.{steps_of}
use Rattle.script_calls.specs.Receipts.{seen_of_receipt, receipt_seen, order_seen, part_heard, taken_heard, MayHeed}
use Rattle.script_calls.specs.Receipts.{PartHeeds, Heeds}
use Rattle.script_calls.specs.InOrder.{Covers, adds_entry, adding_passes, entries_added, times}
use Rattle.script_calls.specs.Meeting.{KeepsOrders, orders_of}
use Rattle.script_calls.specs.Named.{numbers_told, BindsNeeded, HeardOfEntries, NamesWereHeard}
use Rattle.script_calls.proofs.ListLemmas.{get_snoc, take_past}
use Rattle.script_calls.proofs.LineLemmas.{part_here, part_there}
use Rattle.script_calls.proofs.OrderLemmas.{times_length, times_here, times_else}
use Rattle.script_calls.proofs.GrowLemmas.{grows}
use Rattle.sh_history.proofs.Standing.{contains_map}

-- ---- lists

pub take_left : {A : Type 0} (xs ys : List A) (i : ℕ) → i ≤ length xs → take i (xs ++ ys) ≡ take i xs
take_left [] [] i h = refl
take_left [] (y ∷ ys) zero h = refl
take_left [] (y ∷ ys) (suc i) h = absurd (omega (arith, h))
take_left (x ∷ xs) ys zero h = refl
take_left (x ∷ xs) ys (suc i) h = ap (λ z. x ∷ z) (take_left xs ys i (omega (arith, h)))

take_few : {A : Type 0} (xs : List A) (i : ℕ) → length (take i xs) ≤ length xs
take_few [] zero = omega arith
take_few [] (suc i) = omega arith
take_few (x ∷ xs) zero = omega arith
take_few (x ∷ xs) (suc i) = let h = take_few xs i in omega (arith, h)

pub first_in : {A : Type 0} (x : A) (xs : List A) → Contains (x ∷ xs) x
first_in x xs = Contains-append_left (x ∷ []) xs x (Contains-push [] x)

-- ---- lines and their answers

adding_left : (ls : List CallLine) (bs cs : List Answer) → length ls ≤ length bs
    → adding_passes ls (bs ++ cs) ≡ adding_passes ls bs
adding_left [] bs cs h = refl
adding_left (l ∷ ls) [] cs h = absurd (omega (arith, h))
adding_left (l ∷ ls) (b ∷ bs) cs h = ap (λ (z : List ℕ). cond (adds_entry l.call b) (l.pass ∷ []) [] ++ z)
    (adding_left ls bs cs (omega (arith, h)))

pub answers_all : (terms : RunTerms) (tag : Option ℕ) (before after : CallsRun) (ls : List CallLine) (bs : List Answer)
    → LinesAnswered terms tag before ls bs after → length bs ≡ length ls
answers_all terms tag before after [] [] h = refl
answers_all terms tag before after [] (b ∷ bs) h = absurd h
answers_all terms tag before after (l ∷ ls) [] h = absurd h
answers_all terms tag before after (l ∷ ls) (b ∷ bs) h = ap suc (answers_all terms tag h.0 after ls bs h.2)

-- the numbers that names are bound to are those in the answers
pub numbers_after : (terms : RunTerms) (tag : Option ℕ) (before after : CallsRun) (ls : List CallLine)
    (bs : List Answer) → LinesAnswered terms tag before ls bs after
    → after.numbers ≡ before.numbers ++ numbers_told ls bs
numbers_after terms tag before after [] [] h = ap (λ (r : CallsRun). r.numbers) h ∙ sym (append-nil before.numbers)
numbers_after terms tag before after [] (b ∷ bs) h = absurd h
numbers_after terms tag before after (l ∷ ls) [] h = absurd h
numbers_after terms tag before after (l ∷ ls) (b ∷ bs) h =
    numbers_after terms tag h.0 after ls bs h.2
    ∙ (ap (λ (ns : List (Option ℕ)). ns ++ numbers_told ls bs) (ap (λ (r : CallsRun). r.numbers) h.1.next_is)
    ∙ go (binds l.call))
  where
    go : (c : Bool) → cond c (before.numbers ++ number_told b ∷ []) before.numbers ++ numbers_told ls bs
        ≡ before.numbers ++ (cond c (number_told b ∷ []) [] ++ numbers_told ls bs)
    go true = append_assoc before.numbers (number_told b ∷ []) (numbers_told ls bs)
    go false = refl

pub may_log : (v w : PassPart) → MayHeed v w → w.log ≡ v.log
may_log v w h = ⊎_elim (λ (e : w ≡ v). ap (λ (u : PassPart). u.log) e)
    (λ (k : (r : Caller) × PartHeeds r v w). ap (λ (u : PassPart). u.log) k.1.is) h

pub line_count : (terms : RunTerms) (tag : Option ℕ) (run next : CallsRun) (l : CallLine) (a : Answer)
    → LineAnswered terms tag run l a next → (p : ℕ) → length (next.parts p).log
    ≡ length (run.parts p).log + length (times p (cond (adds_entry l.call a) (l.pass ∷ []) []))
line_count terms tag run next l a s p = dite (ℕ_discrete p l.pass)
    (λ (e : p ≡ l.pass).
    let Q : ℕ → Type 0 = λ q. length (next.parts q).log
    ≡ length (run.parts q).log + length (times q (cond (adds_entry l.call a) (l.pass ∷ []) [])) in
    subst Q (sym e) mine)
    (λ (ne : p ≢ l.pass).
    let there : length (next.parts p).log ≡ length (run.parts p).log = ap (λ (u : PassPart). length u.log)
    (ap (λ (r : CallsRun). r.parts p) s.next_is ∙ part_there run.parts l.pass p s.part ne) in
    let none : length (times p (cond (adds_entry l.call a) (l.pass ∷ []) [])) ≡ 0 = nothing ne (adds_entry l.call a) in
    omega (arith, there, none))
  where
    one : (b : Bool) → length (times l.pass (cond b (l.pass ∷ []) [])) ≡ cond b 1 0
    one true = ap (λ (q : List ℕ). length q) (times_here l.pass [])
    one false = refl

    nothing : p ≢ l.pass → (b : Bool) → length (times p (cond b (l.pass ∷ []) [])) ≡ 0
    nothing ne true = ap (λ (q : List ℕ). length q) (times_else p l.pass [] (λ e. ne (sym e)))
    nothing ne false = refl

    mine : length (next.parts l.pass).log
        ≡ length (run.parts l.pass).log + length (times l.pass (cond (adds_entry l.call a) (l.pass ∷ []) []))
    mine =
        let here : length (next.parts l.pass).log ≡ length s.part.log = ap (λ (u : PassPart). length u.log)
        (ap (λ (r : CallsRun). r.parts l.pass) s.next_is ∙ part_here run.parts l.pass l.pass s.part refl) in
        let grown = grows terms tag l.pass s.begins l.call (number_meant run.numbers l.call) a s.part s.does in
        let same : length s.begins.log ≡ length (run.parts l.pass).log = ap (λ (q : List LogEntry). length q)
        (may_log (run.parts l.pass) s.begins s.heeds) in
        let new = one (adds_entry l.call a) in
        omega (arith, here, grown, same, new)

-- each pass has as many entries as its lines added
pub counts_after : (terms : RunTerms) (tag : Option ℕ) (before after : CallsRun) (ls : List CallLine)
    (bs : List Answer) → LinesAnswered terms tag before ls bs after → (p : ℕ)
    → length (after.parts p).log ≡ length (before.parts p).log + length (times p (adding_passes ls bs))
counts_after terms tag before after [] [] h p =
    let e : length (after.parts p).log ≡ length (before.parts p).log = ap (λ (r : CallsRun). length (r.parts p).log) h
    in
    let none : length (times p (adding_passes [] [])) ≡ 0 = refl in
    omega (arith, e, none)
counts_after terms tag before after [] (b ∷ bs) h p = absurd h
counts_after terms tag before after (l ∷ ls) [] h p = absurd h
counts_after terms tag before after (l ∷ ls) (b ∷ bs) h p =
    let rest = counts_after terms tag h.0 after ls bs h.2 p in
    let one = line_count terms tag before h.0 l b h.1 p in
    let all = times_length p (cond (adds_entry l.call b) (l.pass ∷ []) []) (adding_passes ls bs) in
    omega (arith, rest, one, all)

-- fewer lines add no more entries
pub added_grows : (p : ℕ) (ls : List CallLine) (bs : List Answer) (k n : ℕ) → k ≤ n
    → entries_added p (take k ls) bs ≤ entries_added p (take n ls) bs
added_grows p [] bs zero n h = omega arith
added_grows p [] bs (suc k) zero h = absurd (omega (arith, h))
added_grows p [] bs (suc k) (suc n) h = omega arith
added_grows p (l ∷ ls) bs zero n h = omega arith
added_grows p (l ∷ ls) bs (suc k) zero h = absurd (omega (arith, h))
added_grows p (l ∷ ls) [] (suc k) (suc n) h = omega arith
added_grows p (l ∷ ls) (b ∷ bs) (suc k) (suc n) h =
    let here : List ℕ = cond (adds_entry l.call b) (l.pass ∷ []) [] in
    let rest = added_grows p ls bs k n (omega (arith, h)) in
    let few = times_length p here (adding_passes (take k ls) bs) in
    let many = times_length p here (adding_passes (take n ls) bs) in
    omega (arith, rest, few, many)

pub added_few : (p : ℕ) (ls : List CallLine) (bs : List Answer) (k : ℕ)
    → entries_added p (take k ls) bs ≤ entries_added p ls bs
added_few p ls bs k = subst (λ (z : List CallLine). entries_added p (take k ls) bs ≤ entries_added p z bs)
    (take_past ls (k + length ls) (omega arith)) (added_grows p ls bs k (k + length ls) (omega arith))

-- the first lines add the same if one more line comes after them
pub added_left : (p k : ℕ) (ls : List CallLine) (bs : List Answer) (l : CallLine) (a : Answer)
    → length bs ≡ length ls → k ≤ length ls
    → entries_added p (take k (ls ++ l ∷ [])) (bs ++ a ∷ []) ≡ entries_added p (take k ls) bs
added_left p k ls bs l a long few =
    let short = take_few ls k in
    ap (λ (z : List CallLine). entries_added p z (bs ++ a ∷ [])) (take_left ls (l ∷ []) k few)
    ∙ ap (λ (z : List ℕ). length (times p z)) (adding_left (take k ls) bs (a ∷ []) (omega (arith, short, long)))

-- ---- what passes heard of

pub orders_at : (sides : List SeenPass) (k : ℕ) (s : SeenPass) → slice_get sides k ≡ Some s
    → KeepsOrders s.orders (orders_of sides)
orders_at [] k s e = absurd (none-some s e)
orders_at (x ∷ xs) zero s e = λ o c. Contains-append_left x.orders (orders_of xs) o
    (subst (λ (z : SeenPass). Contains z.orders o) (sym (same_Some x s e)) c)
orders_at (x ∷ xs) (suc k) s e = λ o c. Contains-append_right x.orders (orders_of xs) o (orders_at xs k s e o c)

pub orders_set : (sides : List SeenPass) (k : ℕ) (s t : SeenPass) → slice_get sides k ≡ Some s
    → KeepsOrders s.orders t.orders → KeepsOrders (orders_of sides) (orders_of (set sides k t))
orders_set [] k s t e keeps = absurd (none-some s e)
orders_set (x ∷ xs) zero s t e keeps = λ o c. ⊎_elim
    (λ (h : Contains x.orders o). Contains-append_left t.orders (orders_of xs) o
    (keeps o (subst (λ (z : SeenPass). Contains z.orders o) (same_Some x s e) h)))
    (λ (h : Contains (orders_of xs) o). Contains-append_right t.orders (orders_of xs) o h)
    (Contains-append_cases x.orders (orders_of xs) o c)
orders_set (x ∷ xs) (suc k) s t e keeps = λ o c. ⊎_elim
    (λ (h : Contains x.orders o). Contains-append_left x.orders (orders_of (set xs k t)) o h)
    (λ (h : Contains (orders_of xs) o). Contains-append_right x.orders (orders_of (set xs k t)) o
    (orders_set xs k s t e keeps o h))
    (Contains-append_cases x.orders (orders_of xs) o c)

pub heard_kept : (orders more : List Order) (p done pass first : ℕ) → KeepsOrders orders more
    → HeardOfEntries orders p done pass first → HeardOfEntries more p done pass first
heard_kept orders more p done pass first keeps h some = let x = h some in (x.0, x.1, keeps _ x.2, x.3, x.4)

-- one more line
pub heard_more : (terms : RunTerms) (tag : Option ℕ) (before run : CallsRun) (ls : List CallLine) (bs : List Answer)
    (orders more : List Order) (l : CallLine) (a : Answer) → LinesAnswered terms tag before ls bs run
    → NamesWereHeard ls bs orders → KeepsOrders orders more
    → ((j : ℕ) (binder : CallLine) → BindsNeeded ls j binder l.call
    → HeardOfEntries more binder.pass (entries_added binder.pass (take (suc j) ls) bs) l.pass
    (entries_added l.pass ls bs))
    → NamesWereHeard (ls ++ l ∷ []) (bs ++ a ∷ []) more
heard_more terms tag before run ls bs orders more l a ran was keeps new j i b m less at needs =
    ⊎_elim old last (get_snoc ls l m i at)
  where
    long : length bs ≡ length ls
    long = answers_all terms tag before run ls bs ran

    -- the binder is one of the lines before
    needs_before : (c : Call) → j < length ls → BindsNeeded (ls ++ l ∷ []) j b c → BindsNeeded ls j b c
    needs_before c few n = record {
      at = ⊎_elim (λ (e : slice_get ls j ≡ Some b). e)
          (λ (e : (j ≡ length ls) × (l ≡ b)). absurd (omega (arith, few, e.0))) (get_snoc ls l b j n.at);
      binds_name = n.binds_name;
      needed = n.needed
          ∙ ap (λ (z : List CallLine). Some (names_in z)) (take_left ls (l ∷ []) j (omega (arith, few)));
    }

    old : slice_get ls i ≡ Some m
        → HeardOfEntries more b.pass (entries_added b.pass (take (suc j) (ls ++ l ∷ [])) (bs ++ a ∷ [])) m.pass
        (entries_added m.pass (take i (ls ++ l ∷ [])) (bs ++ a ∷ []))
    old e =
        let few = slice_get_within ls i m e in
        let its : entries_added b.pass (take (suc j) (ls ++ l ∷ [])) (bs ++ a ∷ [])
        ≡ entries_added b.pass (take (suc j) ls) bs = added_left b.pass (suc j) ls bs l a long
        (omega (arith, few, less)) in
        let own : entries_added m.pass (take i (ls ++ l ∷ [])) (bs ++ a ∷ []) ≡ entries_added m.pass (take i ls) bs =
        added_left m.pass i ls bs l a long (omega (arith, few)) in
        let H : ℕ × ℕ → Type 0 = λ z. HeardOfEntries more b.pass z.0 m.pass z.1 in
        subst H (λ q. (sym its q, sym own q)) (heard_kept orders more b.pass
        (entries_added b.pass (take (suc j) ls) bs) m.pass (entries_added m.pass (take i ls) bs) keeps
        (was j i b m less e (needs_before m.call (omega (arith, few, less)) needs)))

    last : (i ≡ length ls) × (l ≡ m)
        → HeardOfEntries more b.pass (entries_added b.pass (take (suc j) (ls ++ l ∷ [])) (bs ++ a ∷ [])) m.pass
        (entries_added m.pass (take i (ls ++ l ∷ [])) (bs ++ a ∷ []))
    last e =
        let end : i ≡ length ls = e.0 in
        let its : entries_added b.pass (take (suc j) (ls ++ l ∷ [])) (bs ++ a ∷ [])
        ≡ entries_added b.pass (take (suc j) ls) bs = added_left b.pass (suc j) ls bs l a long
        (omega (arith, end, less)) in
        let own : entries_added m.pass (take i (ls ++ l ∷ [])) (bs ++ a ∷ []) ≡ entries_added m.pass ls bs =
        added_left m.pass i ls bs l a long (omega (arith, end))
        ∙ ap (λ (z : List CallLine). entries_added m.pass z bs) (take_past ls i (omega (arith, end))) in
        let needed : BindsNeeded ls j b l.call = subst (λ (z : CallLine). BindsNeeded ls j b z.call) (sym e.1)
        (needs_before m.call (omega (arith, end, less)) needs) in
        let here : HeardOfEntries more b.pass (entries_added b.pass (take (suc j) ls) bs) m.pass
        (entries_added m.pass ls bs) = subst (λ (z : CallLine). HeardOfEntries more b.pass
        (entries_added b.pass (take (suc j) ls) bs) z.pass (entries_added z.pass ls bs)) e.1 (new j b needed) in
        let H : ℕ × ℕ → Type 0 = λ z. HeardOfEntries more b.pass z.0 m.pass z.1 in
        subst H (λ q. (sym its q, sym own q)) here

-- ---- receipts

pub heeds_keeps : (r : Caller) (side mid : SeenPass) → Heeds r side mid → KeepsOrders side.orders mid.orders
heeds_keeps r side mid e o c = subst (λ (z : SeenPass). Contains z.orders o) (sym e.is)
    (Contains-append_left side.orders (r.view.orders ++ map (order_seen side) (heard_in r.view)) o c)

pub heeded_order : (r : Caller) (side mid : SeenPass) → Heeds r side mid → (h : Heard)
    → Contains (seen_of_receipt r).heard h → Contains mid.orders (order_seen side h)
heeded_order r side mid e h c = subst (λ (z : SeenPass). Contains z.orders (order_seen side h)) (sym e.is)
    (Contains-append_right side.orders (r.view.orders ++ map (order_seen side) (heard_in r.view)) (order_seen side h)
    (Contains-append_right r.view.orders (map (order_seen side) (heard_in r.view)) (order_seen side h)
    (contains_map (order_seen side) (heard_in r.view) h c)))

-- a pass that heeded a receipt that covers these entries had heard of them from then on
pub heard_by_heeding : (r : Caller) (side mid : SeenPass) → Heeds r side mid → (p done : ℕ)
    → Covers (seen_of_receipt r).heard p done
    → HeardOfEntries mid.orders p done side.pass (length side.part.log)
heard_by_heeding r side mid e p done t some =
    let x = t some in
    (x.0, steps_of side.part.stands, heeded_order r side mid e x.0 x.1, x.2, x.3)

-- after a pass heeded a receipt and made a call, its own receipt covers all that the first one covered
pub covers_on : (r : Caller) (side mid now : SeenPass) → Heeds r side mid → SamePass mid now → (p done : ℕ)
    → Covers (seen_of_receipt r).heard p done → Covers (receipt_seen now).heard p done
covers_on r side mid now e same p done t some =
    let x = t some in
    let os : Contains now.orders (order_seen side x.0) = subst
    (λ (z : SeenPass). Contains z.orders (order_seen side x.0)) (sym same) (heeded_order r side mid e x.0 x.1) in (
      x.0,
      Contains-append_right (part_heard now.pass now.part ∷ taken_heard now)
          (map (λ (o : Order). o.heard) now.orders) x.0
          (contains_map (λ (o : Order). o.heard) now.orders (order_seen side x.0) os),
      x.2,
      x.3,
    )

-- the receipt of a pass covers its own entries
pub covers_own : (s : SeenPass) → Covers (receipt_seen s).heard s.pass (length s.part.log)
covers_own s some = (
  part_heard s.pass s.part,
  first_in (part_heard s.pass s.part) (taken_heard s ++ map (λ (o : Order). o.heard) s.orders),
  refl,
  omega arith,
)
