-- What passes that heard of a receipt still are.
use Rattle.std.proofs.Common.{◌≡◌, ℕ, suc, ◌<◌, List, [], ◌∷◌, ◌++◌, Option, Some, None, sym, refl, ap, ◌∙◌, subst}
use Rattle.std.proofs.Common.{arith, ⊎_elim}
use Rattle.std.specs.List.{Contains}
use Rattle.std.proofs.lemmas.List.Elements.{Contains-append_left, Contains-append_right, Contains-append_cases}
use Rattle.std.proofs.lemmas.List.Elements.{Contains-push}
use Rattle.sh_history.specs.declared.entry.Entry.{Entry}
use Rattle.sh_history.specs.declared.log.LogEntry.{LogEntry}
use Rattle.sh_table.specs.declared.view.Order.{Order}
use Rattle.sh_table.specs.Seats.{Heap}
use Rattle.sh_table.specs.Tales.{Before}
use Rattle.sh_table.specs.Views.{Each}
use Rattle.sh_pass.specs.Passes.{Caller}
use Rattle.script_calls.specs.Parts.{RunTerms, SeenPass, HasAllLogs, tale_told}
use Rattle.script_calls.specs.Receipts.{seen_of_receipt}
use Rattle.script_calls.specs.Meeting.{AllOfHeap, HasMet, KeepsOrders, orders_of, tales_told}
use Rattle.script_calls.specs.Heeding.{HeedsInTurn, AllHeedInTurn}
use Rattle.script_calls.specs.InOrder.{AllHeard, LastHeard}
use Rattle.script_calls.proofs.NameLemmas.{may_log}
use Rattle.sh_table.proofs.OrderLaws.{each_in}

-- ---- each of them

tale_same : (last : Option Caller) (s t : SeenPass) → HeedsInTurn last s t → tale_told t ≡ tale_told s
tale_same last s t h = ap tale_told h.is
    ∙ ap (λ (l : List LogEntry). record { pass = s.pass; log = l } ∷ s.told) (may_log s.part t.part h.heeds)

module _ (last : Option Caller) (s t : SeenPass) (ss ts : List SeenPass)
    (h : AllHeedInTurn last (s ∷ ss) (t ∷ ts)) where
  pub heard_head : HeedsInTurn last s t
  heard_head = h.each 0 s t refl refl

  heard_tail : AllHeedInTurn last ss ts
  heard_tail = record {
    all = (let e = h.all in omega (arith, e));
    each = λ p x y e f. h.each (suc p) x y e f;
  }

-- ---- all of them

pub heard_of_heap : (last : Option Caller) (heap : Option Heap) (terms : RunTerms) (ss ts : List SeenPass)
    → AllHeedInTurn last ss ts → AllOfHeap heap terms ss → AllOfHeap heap terms ts
heard_of_heap last heap terms [] [] h all = tt
heard_of_heap last heap terms [] (t ∷ ts) h all = absurd (let e = h.all in omega (arith, e))
heard_of_heap last heap terms (s ∷ ss) [] h all = absurd (let e = h.all in omega (arith, e))
heard_of_heap last heap terms (s ∷ ss) (t ∷ ts) h all =
    let head : HeedsInTurn last s t = heard_head last s t ss ts h in (
      ap (λ (z : SeenPass). z.heap) head.is ∙ all.0,
      ap (λ (z : SeenPass). z.terms) head.is ∙ all.1,
      heard_of_heap last heap terms ss ts (heard_tail last s t ss ts h) all.2,
    )

pub heard_tales : (last : Option Caller) (ss ts : List SeenPass) → AllHeedInTurn last ss ts → tales_told ts
    ≡ tales_told ss
heard_tales last [] [] h = refl
heard_tales last [] (t ∷ ts) h = absurd (let e = h.all in omega (arith, e))
heard_tales last (s ∷ ss) [] h = absurd (let e = h.all in omega (arith, e))
heard_tales last (s ∷ ss) (t ∷ ts) h =
    let one = tale_same last s t (heard_head last s t ss ts h) in
    let rest = heard_tales last ss ts (heard_tail last s t ss ts h) in
    λ i. one i ++ rest i

pub heard_orders : (last : Option Caller) (ss ts : List SeenPass) → AllHeedInTurn last ss ts
    → KeepsOrders (orders_of ss) (orders_of ts)
heard_orders last [] ts h o c = absurd (let less : c.0 < 0 = c.1 in omega (arith, less))
heard_orders last (s ∷ ss) [] h o c = absurd (let e = h.all in omega (arith, e))
heard_orders last (s ∷ ss) (t ∷ ts) h o c = ⊎_elim
    (λ (k : Contains s.orders o). Contains-append_left t.orders (orders_of ts) o
    ((heard_head last s t ss ts h).keeps o k))
    (λ (k : Contains (orders_of ss) o). Contains-append_right t.orders (orders_of ts) o
    (heard_orders last ss ts (heard_tail last s t ss ts h) o k))
    (Contains-append_cases s.orders (orders_of ss) o c)

-- what met after it heard carries the tale of all
pub met_of_heard : (last : Option Caller) (heap : Option Heap) (terms : RunTerms) (c : SeenPass) (ss ts : List SeenPass)
    → AllHeedInTurn last ss ts → HasMet heap terms c (tales_told ts) (orders_of ts)
    → HasMet heap terms c (tales_told ss) (orders_of ss)
met_of_heard last heap terms c ss ts h m =
    let same : tales_told ts ≡ tales_told ss = heard_tales last ss ts h in
    let w = m.whole in
    record {
      carries = (m.carries.0, m.carries.1, m.carries.2 ∙ same);
      heard = λ o k. m.heard o (heard_orders last ss ts h o k);
      none = m.none;
      whole = record {
        history = w.history;
        legal = w.legal;
        has = subst (HasAllLogs w.history) same w.has;
        only = w.only;
      };
      kept = m.kept;
    }

-- ---- the order of the lines

pub each_kept : (P : Order → Type 0) (os ps : List Order) → KeepsOrders os ps → Each P ps → Each P os
each_kept P [] ps keeps h = tt
each_kept P (o ∷ os) ps keeps h = (
  each_in P ps o (keeps o (Contains-append_left (o ∷ []) os o (Contains-push [] o))) h,
  each_kept P os ps (λ x c. keeps x (Contains-append_right (o ∷ []) os x c)) h,
)

pub nothing_in : {A : Type 0} (before : List A) (x : A) (after : List A) → [] ≡ before ++ x ∷ after → ⊥
nothing_in [] x after e = let z : [] ≡ x ∷ after = e in cc
nothing_in (y ∷ ys) x after e = let z : [] ≡ y ∷ (ys ++ x ∷ after) = e in cc

-- in a history that keeps the orders of a pass that heard of the last receipt, all entries were heard of
pub heard_all : (heap : Option Heap) (who : List ℕ) (last : Option Caller) (s t : SeenPass) → LastHeard heap who last
    → HeedsInTurn last s t → (orders : List Order) → KeepsOrders t.orders orders → (history : List Entry)
    → Each (Before history) orders → AllHeard history who
heard_all heap who None s t h hears orders keeps history each = λ before after a is p. absurd
    (nothing_in before a after (sym h ∙ is))
heard_all heap who (Some r) s t h hears orders keeps history each =
    h.orders history (each_kept (Before history) (seen_of_receipt r).orders orders
    (λ o c. keeps o (hears.covers.1 o c)) each)
