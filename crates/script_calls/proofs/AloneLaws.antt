-- Lines one after the other, each pass with a receipt of the line before: the history has their entries in that order.
use Rattle.std.proofs.Common.{◌≡◌, ◌≢◌, ℕ, zero, suc, ◌+◌, ◌<◌, ◌≤◌, Bool, true, false, cond, List, [], ◌∷◌, ◌++◌}
use Rattle.std.proofs.Common.{length, take, set, map, slice_get, Option, Some, None, sym, refl, ap, ◌∙◌, subst, arith}
use Rattle.std.proofs.Common.{append_assoc, append-nil, ◌⊎◌, inl, inr, ⊎_elim, add-one}
use Rattle.std.specs.List.{Contains}
use Rattle.std.proofs.lemmas.List.Elements.{Contains-append_left, Contains-append_right, Contains-push}
use Rattle.std.proofs.lemmas.Option.{slice_get_within}
use mathlib.Core.Logic.{dite}
use native.Mathlib.Decide.{ℕ_discrete}
use Rattle.sh_history.specs.declared.entry.Entry.{Entry}
use Rattle.sh_history.specs.declared.log.LogEntry.{LogEntry}
use Rattle.sh_script.specs.declared.calls.CallLine.{CallLine}
use Rattle.script_output.specs.declared.answer.Answer.{Answer}
use Rattle.script_output.specs.Replies.{reply_line}
use Rattle.sh_pass.specs.Passes.{Caller}
use Rattle.script_calls.specs.OwnParts.{PartIsTrue, steps_of}
use Rattle.script_calls.specs.Parts.{RunTerms, PassPart, SeenPass, SamePass, new_passes}
use Rattle.script_calls.specs.Calls.{CallAnswers}
use Rattle.script_calls.specs.Named.{HeardOfEntries, NamesWereHeard}
use Rattle.script_calls.specs.Runs.{CallsRun, LinesAnswered, opening_calls, with_part, with_number, number_meant}
use Rattle.script_calls.specs.Runs.{next_run}
use Rattle.script_calls.specs.Receipts.{SeenReceipt, seen_of_receipt, receipt_seen, order_seen, part_heard}
use Rattle.script_calls.specs.Receipts.{taken_heard}
use Rattle.script_calls.specs.InOrder.{adds_entry, adding_passes, entries_added, times, Cut, AllHeard}
use Rattle.script_calls.specs.InOrder.{Covers, LastHeard}
use Rattle.script_calls.specs.Alone.{seen_with_part, OrderedSoFar, HeedsLast, IsLastOf}
use Rattle.script_calls.specs.Meeting.{KeepsOrders, orders_of}
use Rattle.script_calls.specs.Stepping.{LinesHeard}
use Rattle.script_calls.proofs.ListLemmas.{take_at, each_left}
use Rattle.script_calls.proofs.ListLemmas.{each_right}
use Rattle.script_calls.proofs.NameLemmas.{added_few, heard_more, heard_kept, heeded_order, orders_at, orders_set}
use Rattle.script_calls.proofs.NameLemmas.{may_log}
use Rattle.script_calls.proofs.NameLaws.{none_before, order_before}
use Rattle.script_calls.proofs.HearLaws.{orders_only, may_heed, orders_heed}
use Rattle.script_calls.proofs.HeardAll.{nothing_in}
use Rattle.script_calls.proofs.LineLemmas.{part_here, part_there}
use Rattle.script_calls.proofs.OrderLemmas.{times_append, times_length, times_here, times_else}
use Rattle.script_calls.proofs.GrowLemmas.{grows}
use Rattle.script_calls.proofs.InTurn.{begins_alone, answered_more, steps}
use Rattle.script_calls.proofs.StepLaws.{lines_more, last_more, no_steps}
use Rattle.sh_table.specs.declared.view.Heard.{Heard}
use Rattle.sh_table.specs.declared.view.Order.{Order}
use Rattle.sh_table.specs.Seats.{Heap}
use Rattle.sh_table.specs.Tales.{Before}
use Rattle.sh_table.specs.Views.{Each, heard_in}
use Rattle.sh_core.proofs.Sums.Totals.{get_set_here}
use Rattle.sh_history.proofs.Standing.{contains_map}
use Rattle.sh_table.proofs.OrderLaws.{each_in}

-- ---- elements of lists

snoc_split : (who before after : List ℕ) (x a : ℕ) → who ++ x ∷ [] ≡ before ++ a ∷ after
    → ((before ≡ who) × (a ≡ x)) ⊎ ((rest : List ℕ) × (who ≡ before ++ a ∷ rest))
snoc_split [] [] after x a e = let z : x ≡ a = cc in inl (refl, sym z)
snoc_split [] (y ∷ ys) after x a e = let z : [] ≡ ys ++ a ∷ after = cc in absurd (nothing_in ys a after z)
snoc_split (w ∷ ws) [] after x a e = let z : w ≡ a = cc in inr (ws, ap (λ (q : ℕ). q ∷ ws) z)
snoc_split (w ∷ ws) (y ∷ ys) after x a e =
    let z : w ≡ y = cc in
    let t : ws ++ x ∷ [] ≡ ys ++ a ∷ after = cc in
    ⊎_elim (λ (s : (ys ≡ ws) × (a ≡ x)). inl ((λ i. sym z i ∷ s.0 i), s.1))
    (λ (s : (rest : List ℕ) × (ws ≡ ys ++ a ∷ rest)). inr (s.0, λ i. z i ∷ s.1 i)) (snoc_split ws ys after x a t)

adding_more : (terms : RunTerms) (tag : Option ℕ) (before after : CallsRun) (ls : List CallLine) (bs : List Answer)
    (l : CallLine) (a : Answer) → LinesAnswered terms tag before ls bs after
    → adding_passes (ls ++ l ∷ []) (bs ++ a ∷ []) ≡ adding_passes ls bs ++ cond (adds_entry l.call a) (l.pass ∷ []) []
adding_more terms tag before after [] [] l a h = append-nil (cond (adds_entry l.call a) (l.pass ∷ []) [])
adding_more terms tag before after [] (b ∷ bs) l a h = absurd h
adding_more terms tag before after (k ∷ ks) [] l a h = absurd h
adding_more terms tag before after (k ∷ ks) (b ∷ bs) l a h =
    ap (λ (t : List ℕ). cond (adds_entry k.call b) (k.pass ∷ []) [] ++ t)
    (adding_more terms tag h.0 after ks bs l a h.2)
    ∙ sym (append_assoc (cond (adds_entry k.call b) (k.pass ∷ []) []) (adding_passes ks bs)
    (cond (adds_entry l.call a) (l.pass ∷ []) []))

-- ---- points of the history

none_cut : (history : List Entry) (who : List ℕ) (p a : ℕ) → length (times p who) ≡ 0 → Cut history who p a
none_cut history who p a e = none_before history p (length (times p who)) a (length (times a who)) e

order_cut : (history : List Entry) (who : List ℕ) (p : ℕ) (s : SeenPass) (h : Heard) → Before history (order_seen s h)
    → h.pass ≡ p → length (times p who) ≤ length h.log → length (times s.pass who) ≡ length s.part.log
    → Cut history who p s.pass
order_cut history who p s h b pass few own = order_before history p (length (times p who)) s.pass
    (length (times s.pass who)) (order_seen s h) b pass few refl (sym own)

-- ---- one more line

all_heard : (heap : Option Heap) (who : List ℕ) (last : Option Caller) (side mid : SeenPass)
    → LastHeard heap who last → HeedsLast last side mid → (history : List Entry) → Each (Before history) mid.orders
    → AllHeard history who
all_heard heap who None side mid h e history each = λ before after a is p. absurd
    (nothing_in before a after (sym h ∙ is))
all_heard heap who (Some r) side mid h e history each =
    let es : Each (Before history) (side.orders ++ (r.view.orders ++ map (order_seen side) (heard_in r.view))) = subst
    (λ (z : SeenPass). Each (Before history) z.orders) e.is each in
    h.orders history (each_left (Before history) r.view.orders _ (each_right (Before history) side.orders _ es))

now_cut : (heap : Option Heap) (who : List ℕ) (last : Option Caller) (side mid : SeenPass)
    → LastHeard heap who last → HeedsLast last side mid → length (times side.pass who) ≡ length side.part.log
    → (history : List Entry) → Each (Before history) mid.orders → (p : ℕ) → Cut history who p side.pass
now_cut heap who None side mid h e own history each p = none_cut history who p side.pass
    (ap (λ (l : List ℕ). length (times p l)) h)
now_cut heap who (Some r) side mid h e own history each p =
    let es : Each (Before history) (side.orders ++ (r.view.orders ++ map (order_seen side) (heard_in r.view))) = subst
    (λ (z : SeenPass). Each (Before history) z.orders) e.is each in
    let ours : Each (Before history) (map (order_seen side) (heard_in r.view)) = each_right (Before history)
    r.view.orders _ (each_right (Before history) side.orders _ es) in
    go (length (times p who)) refl ours
  where
    go : (n : ℕ) → length (times p who) ≡ n → Each (Before history) (map (order_seen side) (heard_in r.view))
        → Cut history who p side.pass
    go zero is ours = none_cut history who p side.pass is
    go (suc n) is ours =
        let k = h.heard p (omega (arith, is)) in
        order_cut history who p side k.0 (each_in (Before history) (map (order_seen side) (heard_in r.view))
        (order_seen side k.0) (contains_map (order_seen side) (heard_in r.view) k.0 k.1) ours) k.2 k.3 own

module _ (heap : Option Heap) (terms : RunTerms) (tag : Option ℕ) (lines : List CallLine) (i : ℕ)
    (numbers : List (Option ℕ)) (sides : List SeenPass) (output : List ℕ) (last : Option Caller)
    (was : OrderedSoFar heap terms tag lines i numbers sides output last) (l : CallLine)
    (at : slice_get lines i ≡ Some l) (side mid now : SeenPass) (own : slice_get sides l.pass ≡ Some side)
    (heeds : HeedsLast last side mid) (same : SamePass mid now) (a : Answer)
    (does : CallAnswers mid.terms tag mid.pass mid.part l.call (number_meant numbers l.call) a now.part)
    (stands : PartIsTrue now.terms.layout now.part) where
  abbrev who : List ℕ
  who = adding_passes (take i lines) was.so_far.answers

  abbrev new : List ℕ
  new = cond (adds_entry l.call a) (l.pass ∷ []) []

  abbrev who' : List ℕ
  who' = adding_passes (take (i + 1) lines) (was.so_far.answers ++ a ∷ [])

  only : mid ≡ record side { part = mid.part; orders = mid.orders }
  only = orders_only last side mid heeds

  side_is : side ≡ record (seen_with_part heap terms was.so_far.run.parts l.pass) { orders = side.orders }
  side_is = was.so_far.each l.pass side own

  taken_more : take (i + 1) lines ≡ take i lines ++ l ∷ []
  taken_more = ap (λ (k : ℕ). take k lines) (add-one i) ∙ take_at lines i l at

  who_is : who' ≡ who ++ new
  who_is = ap (λ (ls : List CallLine). adding_passes ls (was.so_far.answers ++ a ∷ [])) taken_more
      ∙ adding_more terms tag _ was.so_far.run (take i lines) was.so_far.answers l a was.so_far.ran

  side_pass : side.pass ≡ l.pass
  side_pass = ap (λ (z : SeenPass). z.pass) side_is

  now_pass : now.pass ≡ l.pass
  now_pass = ap (λ (z : SeenPass). z.pass) same ∙ (ap (λ (z : SeenPass). z.pass) only ∙ side_pass)

  now_heap : now.heap ≡ heap
  now_heap = ap (λ (z : SeenPass). z.heap) same ∙ (ap (λ (z : SeenPass). z.heap) only
      ∙ ap (λ (z : SeenPass). z.heap) side_is)

  now_orders : now.orders ≡ mid.orders
  now_orders = ap (λ (z : SeenPass). z.orders) same

  side_log : length (times side.pass who) ≡ length side.part.log
  side_log = ap (λ (q : ℕ). length (times q who)) side_pass ∙ (was.counts l.pass
      ∙ sym (ap (λ (z : SeenPass). length z.part.log) side_is))

  grown : length now.part.log ≡ length side.part.log + cond (adds_entry l.call a) 1 0
  grown = grows mid.terms tag mid.pass mid.part l.call (number_meant numbers l.call) a now.part does
      ∙ ap (λ (z : List LogEntry). length z + cond (adds_entry l.call a) 1 0)
      (may_log side.part mid.part (may_heed last side mid heeds))

  new_here : length (times l.pass new) ≡ cond (adds_entry l.call a) 1 0
  new_here = go (adds_entry l.call a) where
    go : (b : Bool) → length (times l.pass (cond b (l.pass ∷ []) [])) ≡ cond b 1 0
    go true = ap (λ (q : List ℕ). length q) (times_here l.pass [])
    go false = refl

  new_else : (p : ℕ) → p ≢ l.pass → times p new ≡ []
  new_else p ne = go (adds_entry l.call a) where
    go : (b : Bool) → times p (cond b (l.pass ∷ []) []) ≡ []
    go true = times_else p l.pass [] (λ e. ne (sym e))
    go false = refl

  told_now : (p : ℕ) → length (times p who') ≡ length (times p who) + length (times p new)
  told_now p = ap (λ (q : List ℕ). length (times p q)) who_is ∙ times_length p who new

  told_mine : length (times l.pass who') ≡ length now.part.log
  told_mine =
      let x = told_now l.pass in
      let y = new_here in
      let z = grown in
      let w : length (times l.pass who) ≡ length side.part.log = was.counts l.pass
      ∙ sym (ap (λ (z : SeenPass). length z.part.log) side_is) in
      omega (arith, x, y, z, w)

  told_other : (p : ℕ) → p ≢ l.pass → times p who' ≡ times p who
  told_other p ne = ap (times p) who_is ∙ (times_append p who new ∙ (ap (λ (q : List ℕ). times p who ++ q)
      (new_else p ne) ∙ append-nil (times p who)))

  counts_more : (p : ℕ) → length (times p who') ≡ length (with_part was.so_far.run.parts l.pass now.part p).log
  counts_more p = dite (ℕ_discrete p l.pass)
      (λ (e : p ≡ l.pass). ap (λ (q : ℕ). length (times q who')) e ∙ (told_mine
      ∙ sym (ap (λ (u : PassPart). length u.log) (part_here was.so_far.run.parts l.pass p now.part e))))
      (λ (ne : p ≢ l.pass). ap (λ (q : List ℕ). length q) (told_other p ne) ∙ (was.counts p
      ∙ sym (ap (λ (u : PassPart). length u.log) (part_there was.so_far.run.parts l.pass p now.part ne))))

  few_more : (p : ℕ) → terms.shape.passes ≤ p → times p who' ≡ []
  few_more p le = let w = slice_get_within sides l.pass side own in let n = was.so_far.all in
      told_other p (λ e. omega (arith, w, n, le, e)) ∙ was.few p le

  mid_has : (o : Order) → Contains mid.orders o → Contains (receipt_seen now).heard o.heard
  mid_has o h = Contains-append_right (part_heard now.pass now.part ∷ taken_heard now)
      (map (λ (o : Order). o.heard) now.orders) o.heard (contains_map (λ (o : Order). o.heard) now.orders o
      (subst (λ (os : List Order). Contains os o) (sym now_orders) h))

  -- it heard of all entries that there were
  order_else : (last : Option Caller) → LastHeard heap who last → HeedsLast last side mid → (p : ℕ)
      → 0 < length (times p who) → (h : Heard) × Contains mid.orders (order_seen side h) × (h.pass ≡ p)
      × (length (times p who) ≤ length h.log)
  order_else None h e p some = absurd (let z : length (times p who) ≡ 0 = ap (λ (q : List ℕ). length (times p q)) h
      in omega (arith, z, some))
  order_else (Some r) h e p some =
      let k = h.heard p some in
      (k.0, heeded_order r side mid e k.0 k.1, k.2, k.3)

  heard_else : (p : ℕ) → Covers (receipt_seen now).heard p (length (times p who))
  heard_else p some =
      let k = order_else last was.last_heard heeds p some in
      (k.0, mid_has (order_seen side k.0) k.1, k.2, k.3)

  last_heard_more : (p : ℕ) → 0 < length (times p who') → (h : Heard) × Contains (receipt_seen now).heard h
      × (h.pass ≡ p) × (length (times p who') ≤ length h.log)
  last_heard_more p some = dite (ℕ_discrete p l.pass)
      (λ (e : p ≡ l.pass).
      let c : length (times p who') ≡ length now.part.log = ap (λ (q : ℕ). length (times q who')) e ∙ told_mine in (
        part_heard now.pass now.part,
        Contains-append_left (part_heard now.pass now.part ∷ [])
            (taken_heard now ++ map (λ (o : Order). o.heard) now.orders)
            (part_heard now.pass now.part) (Contains-push [] _),
        now_pass ∙ sym e,
        omega (arith, c),
      ))
      (λ (ne : p ≢ l.pass).
      let c : length (times p who') ≡ length (times p who) = ap (λ (q : List ℕ). length q) (told_other p ne) in
      let k = heard_else p (omega (arith, c, some)) in
      let m = k.3 in
      (k.0, k.1, k.2, omega (arith, c, m)))

  all_heard_more : (history : List Entry) → Each (Before history) now.orders → AllHeard history who'
  all_heard_more history each =
      let es : Each (Before history) mid.orders = subst (Each (Before history)) now_orders each in
      let old : AllHeard history who = all_heard heap who last side mid was.last_heard heeds history es in
      let cut : (p : ℕ) → Cut history who p l.pass = λ p. subst (λ (q : ℕ). Cut history who p q) side_pass
      (now_cut heap who last side mid was.last_heard heeds side_log history es p) in
      subst (AllHeard history) (sym who_is) (go (adds_entry l.call a) old cut)
    where
      go : (b : Bool) → AllHeard history who → ((p : ℕ) → Cut history who p l.pass)
          → AllHeard history (who ++ cond b (l.pass ∷ []) [])
      go false old cut = subst (AllHeard history) (sym (append-nil who)) old
      go true old cut = λ before after b is p. ⊎_elim
          (λ (s : (before ≡ who) × (b ≡ l.pass)). let P : List ℕ × ℕ → Type 0 = λ z. Cut history z.0 p z.1
          in subst P (λ j. (sym s.0 j, sym s.1 j)) (cut p))
          (λ (s : (rest : List ℕ) × (who ≡ before ++ b ∷ rest)). old before s.0 b s.1 p)
          (snoc_split who before after l.pass b is)

  -- ---- names

  entries_heard : (p done : ℕ) → done ≤ length (times p who)
      → HeardOfEntries now.orders p done l.pass (length (times l.pass who))
  entries_heard p done few some =
      let k = order_else last was.last_heard heeds p (omega (arith, few, some)) in
      let C : List Order × ℕ × ℕ → Type 0 = λ z. Contains z.0 (record {
        heard = k.0;
        carrier = z.1;
        length = z.2;
        steps = steps_of side.part.stands;
      }) in
      let long : length side.part.log ≡ length (times l.pass who) = sym side_log
      ∙ ap (λ (q : ℕ). length (times q who)) side_pass in (
        k.0,
        steps_of side.part.stands,
        subst C (λ j. (sym now_orders j, side_pass j, long j)) k.1,
        k.2,
        omega (arith, few, k.3),
      )

  keeps_side : (last : Option Caller) → HeedsLast last side mid → KeepsOrders side.orders now.orders
  keeps_side last e o c = subst (λ (os : List Order). Contains os o) (sym now_orders) (orders_heed last side mid e o c)

  names_heard : NamesWereHeard (take i lines ++ l ∷ []) (was.so_far.answers ++ a ∷ [])
      (orders_of (set sides l.pass now))
  names_heard = heard_more terms tag (opening_calls heap) was.so_far.run (take i lines) was.so_far.answers
      (orders_of sides) (orders_of (set sides l.pass now)) l a was.so_far.ran was.so_far.heard
      (orders_set sides l.pass side now own (keeps_side last heeds))
      (λ j b n. let done : ℕ = entries_added b.pass (take (suc j) (take i lines)) was.so_far.answers in
      heard_kept now.orders (orders_of (set sides l.pass now)) b.pass done l.pass (length (times l.pass who))
      (orders_at (set sides l.pass now) l.pass now (get_set_here sides l.pass side now own))
      (entries_heard b.pass done (added_few b.pass (take i lines) was.so_far.answers (suc j))))

  steps_heard : LinesHeard (orders_of (set sides l.pass now)) terms tag (opening_calls heap) (take (i + 1) lines)
      (was.so_far.answers ++ a ∷ []) (next_run was.so_far.run l a now.part)
  steps_heard = subst (λ (ls : List CallLine). LinesHeard (orders_of (set sides l.pass now)) terms tag
      (opening_calls heap) ls (was.so_far.answers ++ a ∷ []) (next_run was.so_far.run l a now.part)) (sym taken_more)
      (lines_more heap terms tag lines i numbers sides output last was.so_far l side mid now own heeds same
      was.last_steps a (next_run was.so_far.run l a now.part) refl (keeps_side last heeds)
      (steps heap terms tag lines i numbers sides output was.so_far l at side mid now own only
      (may_heed last side mid heeds) same a does) stands was.heard_steps)

  pub ordered_more : (after : List (Option ℕ)) (sides' : List SeenPass) (longer : List ℕ) (r : Caller)
      → after ≡ with_number numbers l.call a → sides' ≡ set sides l.pass now
      → longer ≡ output ++ reply_line l a → seen_of_receipt r ≡ receipt_seen now
      → OrderedSoFar heap terms tag lines (i + 1) after sides' longer (Some r)
  ordered_more after sides' longer r named put printed tells = record {
    so_far = answered_more heap terms tag lines i numbers sides output was.so_far l at side mid now own only
        (may_heed last side mid heeds) same a does after sides' longer named put printed names_heard;
    counts = counts_more;
    few = few_more;
    last_heard = record {
      heap_is = ap (λ (z : SeenReceipt). z.heap) tells ∙ now_heap;
      heard = λ p some. let m = last_heard_more p some in
          (m.0, subst (λ (z : SeenReceipt). Contains z.heard m.0) (sym tells) m.1, m.2, m.3);
      orders = λ history each. all_heard_more history
          (subst (λ (z : SeenReceipt). Each (Before history) z.orders) tells each);
    };
    heard_steps = subst (λ (ss : List SeenPass). LinesHeard (orders_of ss) terms tag (opening_calls heap)
        (take (i + 1) lines) (was.so_far.answers ++ a ∷ []) (next_run was.so_far.run l a now.part)) (sym put)
        steps_heard;
    last_steps = last_more heap terms tag lines i numbers sides output last was.so_far l side mid now own heeds same
        was.last_steps r tells;
  }

pub begins_ordered : (heap : Option Heap) (terms : RunTerms) (tag : Option ℕ) (lines : List CallLine)
    (sides : List SeenPass) → sides ≡ new_passes heap terms terms.shape.passes
    → OrderedSoFar heap terms tag lines 0 [] sides [] None
begins_ordered heap terms tag lines sides e = record {
  so_far = begins_alone heap terms tag lines sides e;
  counts = λ p. refl;
  few = λ p le. refl;
  last_heard = refl;
  heard_steps = refl;
  last_steps = no_steps heap;
}

-- the last receipt is of the heap
pub last_of : (heap heap' : Option Heap) (ps : List ℕ) (last : Option Caller) → heap' ≡ heap
    → LastHeard heap ps last → IsLastOf heap' last
last_of heap heap' ps None e h = tt
last_of heap heap' ps (Some r) e h = h.heap_is ∙ sym e
