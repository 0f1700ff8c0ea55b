-- Lines one after the other, each pass with a receipt of the line before: what it heard of the steps of earlier lines.
use Rattle.std.proofs.Common.{◌≡◌, ◌≢◌, ℕ, zero, suc, ◌+◌, ◌<◌, ◌≤◌, List, [], ◌∷◌, ◌++◌, length, take, set, slice_get}
use Rattle.std.proofs.Common.{Option, Some, None, sym, refl, ap, ◌∙◌, subst, arith}
use Rattle.std.specs.List.{Contains}
use mathlib.Core.Logic.{dite}
use native.Mathlib.Decide.{ℕ_discrete}
use Rattle.sh_script.specs.declared.calls.CallLine.{CallLine}
use Rattle.script_output.specs.declared.answer.Answer.{Answer}
use Rattle.sh_table.specs.declared.view.Heard.{Heard}
use Rattle.sh_table.specs.declared.view.Order.{Order}
use Rattle.sh_table.specs.Seats.{Heap}
use Rattle.sh_pass.specs.Passes.{Caller}
use Rattle.script_calls.specs.OwnParts.{PartIsTrue, steps_of}
use Rattle.script_calls.specs.Parts.{RunTerms, PassPart, SeenPass, SamePass}
use Rattle.script_calls.specs.Runs.{CallsRun, LineAnswered, opening_calls, with_part, next_run}
use Rattle.script_calls.specs.Receipts.{SeenReceipt, seen_of_receipt, receipt_seen, order_seen, part_heard}
use Rattle.script_calls.specs.Alone.{AnsweredSoFar, HeedsLast, seen_with_part}
use Rattle.script_calls.specs.Heeding.{AllHeedInTurn, CoversReceipt}
use Rattle.script_calls.specs.Meeting.{KeepsOrders, orders_of}
use Rattle.script_calls.specs.Stepping.{HeardOfSteps, LinesHeard, StepsInTurn, LastHasSteps}
use Rattle.script_calls.proofs.HeardAll.{heard_orders}
use Rattle.script_calls.proofs.HearLaws.{orders_only, ordered_heard, own_heard}
use Rattle.script_calls.proofs.LineLemmas.{part_here, part_there}
use Rattle.script_calls.proofs.ListLemmas.{get_some, take_past}
use Rattle.script_calls.proofs.NameLemmas.{heeded_order, orders_at, orders_set}
use Rattle.sh_core.proofs.Sums.Totals.{get_set_here}

-- ---- more orders, and one more line

steps_kept : (orders more : List Order) (parts : ℕ → PassPart) (p : ℕ) → KeepsOrders orders more
    → HeardOfSteps orders parts p → HeardOfSteps more parts p
steps_kept orders more parts p keeps h q some =
    let k = h q some in
    (k.0, keeps k.0 k.1, k.2, k.3, k.4, k.5)

pub lines_kept : (orders more : List Order) (terms : RunTerms) (tag : Option ℕ) (run : CallsRun) (ls : List CallLine)
    (bs : List Answer) (after : CallsRun) → KeepsOrders orders more → LinesHeard orders terms tag run ls bs after
    → LinesHeard more terms tag run ls bs after
lines_kept orders more terms tag run [] [] after keeps h = h
lines_kept orders more terms tag run [] (b ∷ bs) after keeps h = absurd h
lines_kept orders more terms tag run (l ∷ ls) [] after keeps h = absurd h
lines_kept orders more terms tag run (l ∷ ls) (b ∷ bs) after keeps h = (
  h.0,
  h.1,
  h.2,
  steps_kept orders more run.parts l.pass keeps h.3,
  lines_kept orders more terms tag h.0 ls bs after keeps h.4,
)

-- the line that comes next
record NextLine (orders : List Order) (terms : RunTerms) (tag : Option ℕ) (run : CallsRun) (l : CallLine) (a : Answer)
    (next : CallsRun) : Type 0 where
  pub line : LineAnswered terms tag run l a next
  pub stands : PartIsTrue terms.layout (next.parts l.pass)
  pub heard : HeardOfSteps orders run.parts l.pass

line_more : (orders : List Order) (terms : RunTerms) (tag : Option ℕ) (before mid after : CallsRun)
    (ls : List CallLine) (bs : List Answer) (l : CallLine) (a : Answer) → LinesHeard orders terms tag before ls bs mid
    → NextLine orders terms tag mid l a after
    → LinesHeard orders terms tag before (ls ++ l ∷ []) (bs ++ a ∷ []) after
line_more orders terms tag before mid after [] [] l a h s =
    let x = subst (λ (r : CallsRun). NextLine orders terms tag r l a after) h s in
    (after, x.line, x.stands, x.heard, refl)
line_more orders terms tag before mid after [] (b ∷ bs) l a h s = absurd h
line_more orders terms tag before mid after (k ∷ ks) [] l a h s = absurd h
line_more orders terms tag before mid after (k ∷ ks) (b ∷ bs) l a h s =
    (h.0, h.1, h.2, h.3, line_more orders terms tag h.0 mid after ks bs l a h.4 s)

module _ (heap : Option Heap) (terms : RunTerms) (tag : Option ℕ) (lines : List CallLine) (i : ℕ)
    (numbers : List (Option ℕ)) (sides : List SeenPass) (output : List ℕ) (last : Option Caller)
    (was : AnsweredSoFar heap terms tag lines i numbers sides output) (l : CallLine) (side mid now : SeenPass)
    (own : slice_get sides l.pass ≡ Some side) (heeds : HeedsLast last side mid) (same : SamePass mid now)
    (last_steps : LastHasSteps was.run.parts last) where
  abbrev parts : ℕ → PassPart
  parts = was.run.parts

  side_is : side ≡ record (seen_with_part heap terms parts l.pass) { orders = side.orders }
  side_is = was.each l.pass side own

  side_pass : side.pass ≡ l.pass
  side_pass = ap (λ (z : SeenPass). z.pass) side_is

  side_steps : steps_of side.part.stands ≡ steps_of (parts l.pass).stands
  side_steps = ap (λ (z : SeenPass). steps_of z.part.stands) side_is

  only : mid ≡ record side { part = mid.part; orders = mid.orders }
  only = orders_only last side mid heeds

  now_pass : now.pass ≡ l.pass
  now_pass = ap (λ (z : SeenPass). z.pass) same ∙ (ap (λ (z : SeenPass). z.pass) only ∙ side_pass)

  now_terms : now.terms ≡ terms
  now_terms = ap (λ (z : SeenPass). z.terms) same ∙ (ap (λ (z : SeenPass). z.terms) only
      ∙ ap (λ (z : SeenPass). z.terms) side_is)

  now_orders : now.orders ≡ mid.orders
  now_orders = ap (λ (z : SeenPass). z.orders) same

  -- what the last receipt contains is in its orders
  ordered : (r : Caller) → HeedsLast (Some r) side mid → (h : Heard) → Contains (seen_of_receipt r).heard h
      → Contains now.orders (order_seen side h)
  ordered r e h c = subst (λ (os : List Order). Contains os (order_seen side h)) (sym now_orders)
      (heeded_order r side mid e h c)

  heard_here : (last : Option Caller) → LastHasSteps parts last → HeedsLast last side mid
      → HeardOfSteps now.orders parts l.pass
  heard_here None t e q some = absurd (let none = t q in omega (arith, none, some))
  heard_here (Some r) t e q some =
      let k = t q some in
      (order_seen side k.0, ordered r e k.0 k.1, side_pass, side_steps, k.2, k.3)

  keeps_all : KeepsOrders side.orders now.orders → KeepsOrders (orders_of sides) (orders_of (set sides l.pass now))
  keeps_all keeps = orders_set sides l.pass side now own keeps

  -- one line more
  pub lines_more : (a : Answer) (next : CallsRun) → next ≡ next_run was.run l a now.part
      → KeepsOrders side.orders now.orders → LineAnswered terms tag was.run l a next
      → PartIsTrue now.terms.layout now.part
      → LinesHeard (orders_of sides) terms tag (opening_calls heap) (take i lines) was.answers was.run
      → LinesHeard (orders_of (set sides l.pass now)) terms tag (opening_calls heap) (take i lines ++ l ∷ [])
      (was.answers ++ a ∷ []) next
  lines_more a next is keeps line stands heard =
      let more : List Order = orders_of (set sides l.pass now) in
      let there : KeepsOrders now.orders more =
      orders_at (set sides l.pass now) l.pass now (get_set_here sides l.pass side now own) in
      let part : next.parts l.pass ≡ now.part = ap (λ (r : CallsRun). r.parts l.pass) is
      ∙ part_here parts l.pass l.pass now.part refl in
      let S : RunTerms × PassPart → Type 0 = λ z. PartIsTrue z.0.layout z.1 in
      line_more more terms tag (opening_calls heap) was.run next (take i lines) was.answers l a
      (lines_kept (orders_of sides) more terms tag (opening_calls heap) (take i lines) was.answers was.run
      (keeps_all keeps) heard)
      (record {
        line = line;
        stands = subst S (λ j. (now_terms j, sym part j)) stands;
        heard = steps_kept now.orders more parts l.pass there (heard_here last last_steps heeds);
      })

  -- the receipt of the pass contains all steps
  heard_else : (last : Option Caller) → LastHasSteps parts last → HeedsLast last side mid → (p : ℕ)
      → 0 < steps_of (parts p).stands → (h : Heard) × Contains (receipt_seen now).heard h × (h.pass ≡ p)
      × (steps_of (parts p).stands ≤ h.steps)
  heard_else None t e p some = absurd (let none = t p in omega (arith, none, some))
  heard_else (Some r) t e p some =
      let k = t p some in
      (k.0, ordered_heard now (order_seen side k.0) (ordered r e k.0 k.1), k.2, k.3)

  pub last_more : (r : Caller) → seen_of_receipt r ≡ receipt_seen now
      → LastHasSteps (with_part parts l.pass now.part) (Some r)
  last_more r tells p some = dite (ℕ_discrete p l.pass)
      (λ (e : p ≡ l.pass).
      let here : with_part parts l.pass now.part p ≡ now.part = part_here parts l.pass p now.part e in
      let same : steps_of (with_part parts l.pass now.part p).stands ≡ steps_of now.part.stands =
      ap (λ (v : PassPart). steps_of v.stands) here in
      let le : steps_of (with_part parts l.pass now.part p).stands ≤ steps_of now.part.stands = omega (arith, same) in (
        part_heard now.pass now.part,
        subst (λ (z : SeenReceipt). Contains z.heard (part_heard now.pass now.part)) (sym tells) (own_heard now),
        now_pass ∙ sym e,
        le,
      ))
      (λ (ne : p ≢ l.pass).
      let there : with_part parts l.pass now.part p ≡ parts p = part_there parts l.pass p now.part ne in
      let same : steps_of (with_part parts l.pass now.part p).stands ≡ steps_of (parts p).stands =
      ap (λ (v : PassPart). steps_of v.stands) there in
      let k = heard_else last last_steps heeds p (omega (arith, same, some)) in
      let few : steps_of (parts p).stands ≤ k.0.steps = k.3 in
      let le : steps_of (with_part parts l.pass now.part p).stands ≤ k.0.steps = omega (arith, same, few) in
      (k.0, subst (λ (z : SeenReceipt). Contains z.heard k.0) (sym tells) k.1, k.2, le))

-- ---- the beginning and the end

pub no_steps : (heap : Option Heap) → LastHasSteps (opening_calls heap).parts None
no_steps None p = refl
no_steps (Some heap) p = refl

-- a carrier that heard of what all heard of has heard of all steps
pub steps_in_turn : (heap : Option Heap) (terms : RunTerms) (tag : Option ℕ) (lines : List CallLine) (i : ℕ)
    (numbers : List (Option ℕ)) (sides : List SeenPass) (output : List ℕ) (last : Option Caller)
    (was : AnsweredSoFar heap terms tag lines i numbers sides output) → length lines ≤ i
    → LinesHeard (orders_of sides) terms tag (opening_calls heap) (take i lines) was.answers was.run
    → LastHasSteps was.run.parts last → (ts : List SeenPass) → AllHeedInTurn last sides ts → (orders : List Order)
    → KeepsOrders (orders_of ts) orders → StepsInTurn orders heap terms tag lines was.answers was.run
steps_in_turn heap terms tag lines i numbers sides output last was past heard steps ts hear orders keeps = (
  lines_kept (orders_of sides) orders terms tag (opening_calls heap) lines was.answers was.run
      (λ o c. keeps o (heard_orders last sides ts hear o c))
      (subst (λ (ls : List CallLine). LinesHeard (orders_of sides) terms tag (opening_calls heap) ls was.answers
      was.run) (take_past lines i past) heard),
  ends,
) where
  ends : (p : ℕ) → p < terms.shape.passes → HeardOfSteps orders was.run.parts p
  ends p lt =
      let many : length sides ≡ terms.shape.passes = was.all in
      let same : length ts ≡ length sides = hear.all in
      let s = get_some sides p (omega (arith, lt, many)) in
      let t = get_some ts p (omega (arith, lt, many, same)) in
      let h = hear.each p s.0 t.0 s.1 t.1 in
      let is = was.each p s.0 s.1 in
      let there : KeepsOrders t.0.orders orders = λ o c. keeps o (orders_at ts p t.0 t.1 o c) in
      go last steps s.0 t.0 h.covers (ap (λ (z : SeenPass). z.pass) is)
      (ap (λ (z : SeenPass). steps_of z.part.stands) is) there
    where
      go : (last : Option Caller) → LastHasSteps was.run.parts last → (s t : SeenPass) → CoversReceipt last s t
          → s.pass ≡ p → steps_of s.part.stands ≡ steps_of (was.run.parts p).stands → KeepsOrders t.orders orders
          → HeardOfSteps orders was.run.parts p
      go None e s t covers pass own there q some = absurd (let none = e q in omega (arith, none, some))
      go (Some r) e s t covers pass own there q some =
          let k = e q some in
          (order_seen s k.0, there (order_seen s k.0) (covers.0 k.0 k.1), pass, own, k.2, k.3)
