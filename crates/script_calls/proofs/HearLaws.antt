-- Passes that hear of one another, one after the other.
use Rattle.std.proofs.Common.{◌≡◌, ◌≢◌, ℕ, zero, suc, ◌+◌, ◌<◌, ◌≤◌, List, [], ◌∷◌, ◌++◌, length, take, set, map}
use Rattle.std.proofs.Common.{slice_get, Option, Some, None, sym, refl, ap, ◌∙◌, subst, arith, length-set, add-one}
use Rattle.std.proofs.Common.{inl, inr, ⊎_elim}
use Rattle.std.specs.List.{Contains}
use Rattle.std.proofs.lemmas.List.Elements.{Contains-append_left, Contains-append_right, Contains-push}
use Rattle.std.proofs.lemmas.Option.{none-some, same_Some, slice_get_within}
use mathlib.Core.Logic.{dite}
use native.Mathlib.Decide.{ℕ_discrete}
use Rattle.sh_table.specs.declared.view.Order.{Order}
use Rattle.sh_table.specs.Seats.{Heap}
use Rattle.sh_table.specs.Views.{heard_in}
use Rattle.sh_core.proofs.Sums.Totals.{get_set_here}
use Rattle.sh_table.proofs.Zips.{set_other}
use Rattle.sh_history.proofs.Standing.{contains_map}
use Rattle.sh_pass.specs.Passes.{Caller}
use Rattle.script_calls.specs.OwnParts.{own_part}
use Rattle.script_calls.specs.Parts.{RunTerms, SeenPass}
use Rattle.script_calls.specs.Receipts.{SeenReceipt, seen_of_receipt, receipt_seen, order_seen, part_heard, taken_heard}
use Rattle.script_calls.specs.Receipts.{MayHeed}
use Rattle.script_calls.specs.Meeting.{AllOfHeap, KeepsOrders}
use Rattle.script_calls.specs.Alone.{HeedsLast, IsLastOf}
use Rattle.script_calls.specs.Heeding.{CoversReceipt, HeedsInTurn, AllHeedInTurn, KnowsReceipt, LastKnows, HeardSoFar}
use Rattle.script_calls.proofs.EndLaws.{side_heeds}
use Rattle.script_calls.proofs.ListLemmas.{get_some, get_snoc, take_at, take_past}
use Rattle.script_calls.proofs.NameLemmas.{heeds_keeps, heeded_order, may_log}

-- ---- heeding a receipt

pub orders_only : (last : Option Caller) (side mid : SeenPass) → HeedsLast last side mid
    → mid ≡ record side { part = mid.part; orders = mid.orders }
orders_only None side mid e = e ∙ ap (λ (z : SeenPass). record side { part = z.part; orders = z.orders }) (sym e)
orders_only (Some r) side mid e = e.is ∙ ap (λ (z : SeenPass). record side { part = mid.part; orders = z.orders })
    (sym e.is)

pub may_heed : (last : Option Caller) (side mid : SeenPass) → HeedsLast last side mid → MayHeed side.part mid.part
may_heed None side mid e = inl (ap (λ (z : SeenPass). z.part) e)
may_heed (Some r) side mid e = inr (r, e.part)

pub orders_heed : (last : Option Caller) (s c : SeenPass) → HeedsLast last s c → KeepsOrders s.orders c.orders
orders_heed None s c e o h = subst (λ (z : SeenPass). Contains z.orders o) (sym e) h
orders_heed (Some r) s c e o h = heeds_keeps r s c e o h

pub own_heeds : (last : Option Caller) (s c : SeenPass) → HeedsLast last s c
    → own_part c.part.stands ≡ own_part s.part.stands
own_heeds None s c e = ap (λ (z : SeenPass). own_part z.part.stands) e
own_heeds (Some r) s c e = (side_heeds r s.part.stands c.part.stands e.part.stands).0

-- what it made and did is as before
pub heard_same : (last : Option Caller) (s c : SeenPass) → HeedsLast last s c
    → part_heard c.pass c.part ≡ part_heard s.pass s.part
heard_same last s c e =
    let pass : c.pass ≡ s.pass = ap (λ (z : SeenPass). z.pass) (orders_only last s c e) in
    let log : c.part.log ≡ s.part.log = may_log s.part c.part (may_heed last s c e) in
    let own : own_part c.part.stands ≡ own_part s.part.stands = own_heeds last s c e in
    λ i. record { pass = pass i; log = log i; steps = length (own i).trail }

-- the orders of the receipt are its own too
heeded_old : (r : Caller) (side mid : SeenPass) → HeedsLast (Some r) side mid
    → KeepsOrders (seen_of_receipt r).orders mid.orders
heeded_old r side mid e o c = subst (λ (z : SeenPass). Contains z.orders o) (sym e.is)
    (Contains-append_right side.orders (r.view.orders ++ map (order_seen side) (heard_in r.view)) o
    (Contains-append_left r.view.orders (map (order_seen side) (heard_in r.view)) o c))

-- a receipt contains what its pass heard of
pub ordered_heard : (s : SeenPass) (o : Order) → Contains s.orders o → Contains (receipt_seen s).heard o.heard
ordered_heard s o c = Contains-append_right (part_heard s.pass s.part ∷ taken_heard s)
    (map (λ (z : Order). z.heard) s.orders) o.heard (contains_map (λ (z : Order). z.heard) s.orders o c)

pub own_heard : (s : SeenPass) → Contains (receipt_seen s).heard (part_heard s.pass s.part)
own_heard s = Contains-append_left (part_heard s.pass s.part ∷ [])
    (taken_heard s ++ map (λ (z : Order). z.heard) s.orders) (part_heard s.pass s.part)
    (Contains-push [] (part_heard s.pass s.part))

pub last_is_of : (heap mine : Option Heap) (last : Option Caller) → mine ≡ heap → IsLastOf heap last
    → IsLastOf mine last
last_is_of heap mine None e h = tt
last_is_of heap mine (Some r) e h = h ∙ sym e

pub of_at : (heap : Option Heap) (terms : RunTerms) (ss : List SeenPass) (p : ℕ) (s : SeenPass)
    → AllOfHeap heap terms ss → slice_get ss p ≡ Some s → (s.heap ≡ heap) × (s.terms ≡ terms)
of_at heap terms [] p s all e = absurd (none-some s e)
of_at heap terms (x ∷ xs) zero s all e =
    subst (λ (z : SeenPass). (z.heap ≡ heap) × (z.terms ≡ terms)) (same_Some x s e) (all.0, all.1)
of_at heap terms (x ∷ xs) (suc p) s all e = of_at heap terms xs p s all.2 e

-- ---- one pass more

module _ (heap : Option Heap) (terms : RunTerms) (first : Option Caller) (ss : List SeenPass) (n : ℕ)
    (ts : List SeenPass) (last : Option Caller) (was : HeardSoFar heap first ss n ts last)
    (all : AllOfHeap heap terms ss) (side : SeenPass) (at : slice_get ts n ≡ Some side) where
  pub side_at : slice_get ss n ≡ Some side
  side_at =
      let inside = slice_get_within ts n side at in
      let many = was.all in
      let its = get_some ss n (omega (arith, inside, many)) in
      its.1 ∙ ap (λ (z : SeenPass). Some z) (sym (was.left n its.0 side (omega arith) its.1 at))

  -- the last receipt is of the heap of this pass
  pub last_of_side : IsLastOf side.heap last
  last_of_side = last_is_of heap side.heap last (of_at heap terms ss n side all side_at).0 was.of

  module _ (mid : SeenPass) (heeds : HeedsLast last side mid) where
    mid_heap : mid.heap ≡ heap
    mid_heap = ap (λ (z : SeenPass). z.heap) (orders_only last side mid heeds)
        ∙ (of_at heap terms ss n side all side_at).0

    covered : (first last : Option Caller) → LastKnows first (take n ss) last → HeedsLast last side mid
        → CoversReceipt first side mid
    covered None last k e = tt
    covered (Some q) None k e = absurd (none-some q (sym k.0))
    covered (Some q) (Some r) k e = (
      λ h c. heeded_order r side mid e h (k.0.0 h c),
      λ o c. heeded_old r side mid e o (k.0.1 o c),
    )

    hears : HeedsInTurn first side mid
    hears = record {
      is = orders_only last side mid heeds;
      heeds = may_heed last side mid heeds;
      keeps = orders_heed last side mid heeds;
      covers = covered first last was.knows heeds;
    }

    -- what the earlier passes made and did was heard of
    earlier : (last : Option Caller) → LastKnows first (take n ss) last → HeedsLast last side mid → (p : ℕ)
        (s : SeenPass) → slice_get (take n ss) p ≡ Some s
        → Contains mid.orders (order_seen side (part_heard s.pass s.part))
    earlier None k e p s at = absurd (none-some s (subst (λ (z : List SeenPass). slice_get z p ≡ Some s) k.1 at))
    earlier (Some r) k e p s at = heeded_order r side mid e (part_heard s.pass s.part) (k.1 p s at)

    -- a pass among the first ones is an earlier one, or this one
    one_of : (P : SeenPass → Type 0) → ((p : ℕ) (s : SeenPass) → slice_get (take n ss) p ≡ Some s → P s) → P side
        → (p : ℕ) (s : SeenPass) → slice_get (take (n + 1) ss) p ≡ Some s → P s
    one_of P before here p s at =
        let more : take (n + 1) ss ≡ take n ss ++ side ∷ [] = ap (λ (k : ℕ). take k ss) (add-one n)
        ∙ take_at ss n side side_at in
        ⊎_elim (λ (e : slice_get (take n ss) p ≡ Some s). before p s e)
        (λ (e : (p ≡ length (take n ss)) × (side ≡ s)). subst P e.1 here)
        (get_snoc (take n ss) side s p (subst (λ (z : List SeenPass). slice_get z p ≡ Some s) more at))

    knows_first : (first : Option Caller) → CoversReceipt first side mid → (r : Caller)
        → seen_of_receipt r ≡ receipt_seen mid → KnowsReceipt first r
    knows_first None covers r tells = tt
    knows_first (Some q) covers r tells = (
      λ h c. subst (λ (z : SeenReceipt). Contains z.heard h) (sym tells)
          (ordered_heard mid (order_seen side h) (covers.0 h c)),
      λ o c. subst (λ (z : SeenReceipt). Contains z.orders o) (sym tells) (covers.1 o c),
    )

    knows_more : (r : Caller) → seen_of_receipt r ≡ receipt_seen mid → LastKnows first (take (n + 1) ss) (Some r)
    knows_more r tells = (
      knows_first first hears.covers r tells,
      one_of (λ s. Contains (seen_of_receipt r).heard (part_heard s.pass s.part))
          (λ p s e. subst (λ (z : SeenReceipt). Contains z.heard (part_heard s.pass s.part)) (sym tells)
          (ordered_heard mid (order_seen side (part_heard s.pass s.part)) (earlier last was.knows heeds p s e)))
          (subst (λ (z : SeenReceipt). Contains z.heard (part_heard side.pass side.part)) (sym tells)
          (subst (Contains (receipt_seen mid).heard) (heard_same last side mid heeds) (own_heard mid))),
    )

    pub heeded_more : (new : List SeenPass) (r : Caller) → new ≡ set ts n mid → seen_of_receipt r ≡ receipt_seen mid
        → HeardSoFar heap first ss (n + 1) new (Some r)
    heeded_more new r put tells = record {
      all = ap length put ∙ (length-set ts n mid ∙ was.all);
      done = λ p s t less e f.
          let g : slice_get (set ts n mid) p ≡ Some t = ap (λ (z : List SeenPass). slice_get z p) (sym put) ∙ f in
          dite (ℕ_discrete p n) (λ is. here p s t is e g)
          (λ ne. was.done p s t (omega (arith, less, ne)) e (sym (set_other ts n p mid ne) ∙ g));
      left = λ p s t le e f.
          let g : slice_get (set ts n mid) p ≡ Some t = ap (λ (z : List SeenPass). slice_get z p) (sym put) ∙ f in
          was.left p s t (omega (arith, le)) e (sym (set_other ts n p mid (λ is. omega (arith, le, is))) ∙ g);
      of = ap (λ (z : SeenReceipt). z.heap) tells ∙ mid_heap;
      knows = knows_more r tells;
    }
      where
        here : (p : ℕ) (s t : SeenPass) → p ≡ n → slice_get ss p ≡ Some s → slice_get (set ts n mid) p ≡ Some t
            → HeedsInTurn first s t
        here p s t is e g =
            let its : side ≡ s = same_Some side s (sym side_at ∙ (ap (slice_get ss) (sym is) ∙ e)) in
            let now : mid ≡ t = same_Some mid t (sym (get_set_here ts n side mid at)
            ∙ (ap (slice_get (set ts n mid)) (sym is) ∙ g)) in
            let H : SeenPass × SeenPass → Type 0 = λ z. HeedsInTurn first z.0 z.1 in
            subst H (λ j. (its j, now j)) hears

-- ---- the beginning and the end

knows_itself : (first : Option Caller) → LastKnows first [] first
knows_itself None = (refl, refl)
knows_itself (Some q) = ((λ h c. c, λ o c. c), λ p s e. absurd (none-some s e))

pub hearing_begins : (heap : Option Heap) (first : Option Caller) (ss : List SeenPass) → IsLastOf heap first
    → HeardSoFar heap first ss 0 ss first
hearing_begins heap first ss of = record {
  all = refl;
  done = λ p s t less e f. absurd (omega (arith, less));
  left = λ p s t le e f. same_Some t s (sym f ∙ e);
  of = of;
  knows = knows_itself first;
}

pub hearing_ends : (heap : Option Heap) (first : Option Caller) (ss : List SeenPass) (n : ℕ) (ts : List SeenPass)
    (last : Option Caller) → length ss ≤ n → HeardSoFar heap first ss n ts last → AllHeedInTurn first ss ts
hearing_ends heap first ss n ts last past was = record {
  all = was.all;
  each = λ p s t e f. let inside = slice_get_within ss p s e in was.done p s t (omega (arith, inside, past)) e f;
}

-- the last receipt contains all that they made and did
pub hearing_knows : (heap : Option Heap) (first : Option Caller) (ss : List SeenPass) (n : ℕ) (ts : List SeenPass)
    (last : Option Caller) → length ss ≤ n → HeardSoFar heap first ss n ts last → LastKnows first ss last
hearing_knows heap first ss n ts last past was =
    subst (λ (z : List SeenPass). LastKnows first z last) (take_past ss n past) was.knows
