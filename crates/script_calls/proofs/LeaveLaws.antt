-- Passes that leave their shards, one after the other, each with a receipt of the pass before.
use Rattle.std.proofs.Common.{◌≡◌, ◌≢◌, ℕ, suc, ◌+◌, ◌<◌, ◌≤◌, List, [], ◌∷◌, length, set, slice_get}
use Rattle.std.proofs.Common.{Option, Some, None, Err, sym, refl, ap, ◌∙◌, subst, arith, length-set, ⊎_elim}
use Rattle.std.specs.List.{Contains}
use Rattle.std.proofs.lemmas.Bool.{cases_lt}
use Rattle.std.proofs.lemmas.Option.{none-some, same_Some, slice_get_within}
use mathlib.Core.Logic.{dite}
use native.Mathlib.Decide.{ℕ_discrete}
use Rattle.sh_value.specs.declared.refusal.Refusal.TheVariants as refusal
use Rattle.sh_table.specs.declared.view.Heard.{Heard}
use Rattle.sh_table.specs.declared.view.Order.{Order}
use Rattle.sh_table.specs.declared.view.Own.{Own}
use Rattle.sh_table.specs.Seats.{Heap}
use Rattle.sh_core.proofs.Sums.Totals.{get_set_here}
use Rattle.sh_table.proofs.Zips.{set_other}
use Rattle.sh_pass.specs.Passes.{Caller}
use Rattle.sh_member.specs.Sides.{SideLeaves}
use Rattle.script_calls.specs.OwnParts.{EndsWith, PartIsTrue, own_part, shape_in, steps_of}
use Rattle.script_calls.specs.Parts.{RunTerms, SeenPass, SamePass}
use Rattle.script_calls.specs.Receipts.{SeenReceipt, seen_of_receipt, receipt_seen, order_seen, part_heard}
use Rattle.script_calls.specs.Meeting.{AllOfHeap, OpensFor}
use Rattle.script_calls.specs.Alone.{HeedsLast, IsLastOf}
use Rattle.script_calls.specs.Heeding.{AllHeedInTurn, LastKnows}
use Rattle.script_calls.specs.Leaving.{AllLeaveInTurn, AreAlike, HeardStepsOf, IsAlike, IsRefused, KnowsSteps}
use Rattle.script_calls.specs.Leaving.{LeavesInTurn, LeftSoFar, PartStands, WaitsInTurn}
use Rattle.script_calls.proofs.HearLaws.{last_is_of, may_heed, of_at, ordered_heard, orders_heed, orders_only}
use Rattle.script_calls.proofs.HearLaws.{own_heard, own_heeds}
use Rattle.script_calls.proofs.ListLemmas.{get_some}
use Rattle.script_calls.proofs.NameLemmas.{heeded_order, may_log}
use Rattle.script_calls.proofs.PartsGoOn.{heeds_same}

-- ---- passes that are of the heaps of others

pub left_alike : (ss ts : List SeenPass) → AllLeaveInTurn ss ts → AreAlike ss ts
left_alike ss ts h = record {
  all = h.all;
  each = λ p s t e f. let i = (h.each p s t e f).is in
      (ap (λ (z : SeenPass). z.heap) i, ap (λ (z : SeenPass). z.terms) i, ap (λ (z : SeenPass). z.pass) i);
}

module _ (s t : SeenPass) (ss ts : List SeenPass) (h : AreAlike (s ∷ ss) (t ∷ ts)) where
  alike_tail : AreAlike ss ts
  alike_tail = record {
    all = (let e = h.all in omega (arith, e));
    each = λ p x y e f. h.each (suc p) x y e f;
  }

pub alike_of_heap : (heap : Option Heap) (terms : RunTerms) (ss ts : List SeenPass) → AreAlike ss ts
    → AllOfHeap heap terms ss → AllOfHeap heap terms ts
alike_of_heap heap terms [] [] h all = tt
alike_of_heap heap terms [] (t ∷ ts) h all = absurd (let e = h.all in omega (arith, e))
alike_of_heap heap terms (s ∷ ss) [] h all = absurd (let e = h.all in omega (arith, e))
alike_of_heap heap terms (s ∷ ss) (t ∷ ts) h all =
    let head : IsAlike s t = h.each 0 s t refl refl in
    (head.0 ∙ all.0, head.1 ∙ all.1, alike_of_heap heap terms ss ts (alike_tail s t ss ts h) all.2)

-- ---- what the first receipt contains

-- it contains all steps of passes that heard of one another
pub knows_heard : (first last : Option Caller) (ss ts : List SeenPass) → AllHeedInTurn first ss ts
    → LastKnows first ss last → KnowsSteps ts last
knows_heard first None ss [] h k = refl
knows_heard first None ss (t ∷ ts) h k =
    absurd (let e = h.all in let none : length ss ≡ 0 = ap length k.1 in omega (arith, e, none))
knows_heard first (Some r) ss ts h k = λ q t at.
    let inside = slice_get_within ts q t at in
    let same : length ts ≡ length ss = h.all in
    let s = get_some ss q (omega (arith, inside, same)) in
    let hears = h.each q s.0 t s.1 at in
    let own : own_part t.part.stands ≡ own_part s.0.part.stands = (heeds_same s.0.part t.part hears.heeds).own in
    let steps : steps_of t.part.stands ≡ steps_of s.0.part.stands = ap (λ (o : Own). length o.trail) own in
    let le : steps_of t.part.stands ≤ steps_of s.0.part.stands = omega (arith, steps) in (
      part_heard s.0.pass s.0.part,
      k.1 q s.0 s.1,
      sym (ap (λ (z : SeenPass). z.pass) hears.is),
      le,
    )

-- ---- one pass more

pub leaving_begins : (heap : Option Heap) (ss : List SeenPass) (last : Option Caller) → IsLastOf heap last
    → KnowsSteps ss last → LeftSoFar heap ss 0 ss last
leaving_begins heap ss last of knows = record {
  all = refl;
  done = λ p s t less e f. absurd (omega (arith, less));
  left = λ p s t le e f. same_Some t s (sym f ∙ e);
  of = of;
  knows = knows;
}

pub leaving_ends : (heap : Option Heap) (ss : List SeenPass) (n : ℕ) (ts : List SeenPass) (last : Option Caller)
    → length ss ≤ n → LeftSoFar heap ss n ts last → AllLeaveInTurn ss ts
leaving_ends heap ss n ts last past was = record {
  all = was.all;
  each = λ p s t e f. let inside = slice_get_within ss p s e in was.done p s t (omega (arith, inside, past)) e f;
}

module _ (heap : Option Heap) (terms : RunTerms) (ss : List SeenPass) (n : ℕ) (ts : List SeenPass)
    (last : Option Caller) (was : LeftSoFar heap ss n ts last) (all : AllOfHeap heap terms ss) (side : SeenPass)
    (at : slice_get ts n ≡ Some side) where
  leaver_at : slice_get ss n ≡ Some side
  leaver_at =
      let inside = slice_get_within ts n side at in
      let many = was.all in
      let its = get_some ss n (omega (arith, inside, many)) in
      its.1 ∙ ap (λ (z : SeenPass). Some z) (sym (was.left n its.0 side (omega arith) its.1 at))

  -- the last receipt is of the heap of this pass
  pub last_of_leaver : IsLastOf side.heap last
  last_of_leaver = last_is_of heap side.heap last (of_at heap terms ss n side all leaver_at).0 was.of

  module _ (mid : SeenPass) (heeds : HeedsLast last side mid) where
    leaver_is : mid ≡ record side { part = mid.part; orders = mid.orders }
    leaver_is = orders_only last side mid heeds

    pub leaver_of : (mid.heap ≡ heap) × (mid.terms ≡ terms)
    leaver_of =
        let of = of_at heap terms ss n side all leaver_at in
        (ap (λ (z : SeenPass). z.heap) leaver_is ∙ of.0, ap (λ (z : SeenPass). z.terms) leaver_is ∙ of.1)

    leaver_pass : mid.pass ≡ side.pass
    leaver_pass = ap (λ (z : SeenPass). z.pass) leaver_is

    same_steps : steps_of mid.part.stands ≡ steps_of side.part.stands
    same_steps = ap (λ (o : Own). length o.trail) (own_heeds last side mid heeds)

    -- it has heard of all steps of each pass
    record HeardOf (t : SeenPass) : Type 0 where
      heard : Heard
      ordered : Contains mid.orders (order_seen side heard)
      pass : heard.pass ≡ t.pass
      few : steps_of t.part.stands ≤ heard.steps

    hears_of : (last : Option Caller) → KnowsSteps ts last → HeedsLast last side mid → (q : ℕ) (t : SeenPass)
        → slice_get ts q ≡ Some t → HeardOf t
    hears_of None k e q t there =
        absurd (none-some t (subst (λ (z : List SeenPass). slice_get z q ≡ Some t) k there))
    hears_of (Some r) k e q t there =
        let h = k q t there in
        record { heard = h.0; ordered = heeded_order r side mid e h.0 h.1; pass = h.2; few = h.3 }

    heard_steps : (t : SeenPass) → HeardOf t → HeardStepsOf mid t
    heard_steps t h =
        (order_seen side h.heard, h.ordered, sym leaver_pass, sym same_steps, h.pass, h.few)

    its_own : HeardStepsOf mid mid
    its_own =
        let h : HeardOf side = hears_of last was.knows heeds n side at in
        let few = h.few in
        let same = same_steps in
        let le : steps_of mid.part.stands ≤ h.heard.steps = omega (arith, few, same) in
        (order_seen side h.heard, h.ordered, sym leaver_pass, sym same_steps, h.pass ∙ sym leaver_pass, le)

    module _ (t : SeenPass) (same : SamePass mid t) where
      orders_are : t.orders ≡ mid.orders
      orders_are = ap (λ (z : SeenPass). z.orders) same

      is_side : t ≡ record side { part = t.part; orders = t.orders }
      is_side = same ∙ (ap (λ (z : SeenPass). record z { part = t.part }) leaver_is
          ∙ ap (λ (os : List Order). record side { part = t.part; orders = os }) (sym orders_are))

      alike_now : (new : List SeenPass) → new ≡ set ts n t → AreAlike ss new
      alike_now new put = record {
        all = ap length put ∙ (length-set ts n t ∙ was.all);
        each = λ p x y e f.
            let g : slice_get (set ts n t) p ≡ Some y = ap (λ (z : List SeenPass). slice_get z p) (sym put) ∙ f in
            dite (ℕ_discrete p n)
            (λ (is : p ≡ n).
            let its : side ≡ x = same_Some side x (sym leaver_at ∙ (ap (slice_get ss) (sym is) ∙ e)) in
            let now : t ≡ y = same_Some t y (sym (get_set_here ts n side t at)
            ∙ (ap (slice_get (set ts n t)) (sym is) ∙ g)) in
            let H : SeenPass × SeenPass → Type 0 = λ z. IsAlike z.0 z.1 in
            subst H (λ j. (its j, now j)) (
              ap (λ (z : SeenPass). z.heap) is_side,
              ap (λ (z : SeenPass). z.terms) is_side,
              ap (λ (z : SeenPass). z.pass) is_side,
            ))
            (λ (ne : p ≢ n). other p x y ne e (sym (set_other ts n p t ne) ∙ g));
      }
        where
          other : (p : ℕ) (x y : SeenPass) → p ≢ n → slice_get ss p ≡ Some x → slice_get ts p ≡ Some y → IsAlike x y
          other p x y ne e f = ⊎_elim
              (λ (less : p < n). let i = (was.done p x y less e f).is in
              (ap (λ (z : SeenPass). z.heap) i, ap (λ (z : SeenPass). z.terms) i, ap (λ (z : SeenPass). z.pass) i))
              (λ (le : n ≤ p). let i = was.left p x y le e f in
              (ap (λ (z : SeenPass). z.heap) i, ap (λ (z : SeenPass). z.terms) i, ap (λ (z : SeenPass). z.pass) i))
              (cases_lt p n)

      -- ---- it could leave

      pub left_more : t.part.shard ≡ None → EndsWith mid.part.stands (own_part t.part.stands)
          → t.part.log ≡ mid.part.log → (new : List SeenPass) (r : Caller) → new ≡ set ts n t
          → seen_of_receipt r ≡ receipt_seen t → LeftSoFar heap ss (n + 1) new (Some r)
      left_more none ends log new r put tells = record {
        all = ap length put ∙ (length-set ts n t ∙ was.all);
        done = λ p s x less e f.
            let g : slice_get (set ts n t) p ≡ Some x = ap (λ (z : List SeenPass). slice_get z p) (sym put) ∙ f in
            dite (ℕ_discrete p n) (λ (is : p ≡ n). here p s x is e g)
            (λ (ne : p ≢ n). was.done p s x (omega (arith, less, ne)) e (sym (set_other ts n p t ne) ∙ g));
        left = λ p s x le e f.
            let g : slice_get (set ts n t) p ≡ Some x = ap (λ (z : List SeenPass). slice_get z p) (sym put) ∙ f in
            was.left p s x (omega (arith, le)) e (sym (set_other ts n p t (λ is. omega (arith, le, is))) ∙ g);
        of = ap (λ (z : SeenReceipt). z.heap) tells ∙ (ap (λ (z : SeenPass). z.heap) same ∙ leaver_of.0);
        knows = λ q x e.
            let g : slice_get (set ts n t) q ≡ Some x = ap (λ (z : List SeenPass). slice_get z q) (sym put) ∙ e in
            dite (ℕ_discrete q n) (λ (is : q ≡ n). own_known q x is g)
            (λ (ne : q ≢ n). known q x (sym (set_other ts n q t ne) ∙ g));
      }
        where
          leaves : LeavesInTurn side t
          leaves = record {
            is = is_side;
            log = log ∙ may_log side.part mid.part (may_heed last side mid heeds);
            none = none;
            keeps = λ o k. subst (λ (os : List Order). Contains os o) (sym orders_are)
                (orders_heed last side mid heeds o k);
            begins = mid.part;
            heeds = may_heed last side mid heeds;
            ends = ends;
          }

          here : (p : ℕ) (s x : SeenPass) → p ≡ n → slice_get ss p ≡ Some s → slice_get (set ts n t) p ≡ Some x
              → LeavesInTurn s x
          here p s x is e g =
              let its : side ≡ s = same_Some side s (sym leaver_at ∙ (ap (slice_get ss) (sym is) ∙ e)) in
              let now : t ≡ x = same_Some t x (sym (get_set_here ts n side t at)
              ∙ (ap (slice_get (set ts n t)) (sym is) ∙ g)) in
              let H : SeenPass × SeenPass → Type 0 = λ z. LeavesInTurn z.0 z.1 in
              subst H (λ j. (its j, now j)) leaves

          -- the receipt contains all that this pass did
          own_known : (q : ℕ) (x : SeenPass) → q ≡ n → slice_get (set ts n t) q ≡ Some x → (h : Heard)
              × Contains (seen_of_receipt r).heard h × (h.pass ≡ x.pass) × (steps_of x.part.stands ≤ h.steps)
          own_known q x is g =
              let now : t ≡ x = same_Some t x (sym (get_set_here ts n side t at)
              ∙ (ap (slice_get (set ts n t)) (sym is) ∙ g)) in
              let few : steps_of x.part.stands ≤ steps_of t.part.stands =
              (let k : steps_of t.part.stands ≡ steps_of x.part.stands =
              ap (λ (z : SeenPass). steps_of z.part.stands) now in omega (arith, k)) in (
                part_heard t.pass t.part,
                subst (λ (z : SeenReceipt). Contains z.heard (part_heard t.pass t.part)) (sym tells) (own_heard t),
                ap (λ (z : SeenPass). z.pass) now,
                few,
              )

          -- and what the pass heard of the others
          known : (q : ℕ) (x : SeenPass) → slice_get ts q ≡ Some x → (h : Heard)
              × Contains (seen_of_receipt r).heard h × (h.pass ≡ x.pass) × (steps_of x.part.stands ≤ h.steps)
          known q x e =
              let h : HeardOf x = hears_of last was.knows heeds q x e in (
                h.heard,
                subst (λ (z : SeenReceipt). Contains z.heard h.heard) (sym tells)
                    (ordered_heard t (order_seen side h.heard)
                    (subst (λ (os : List Order). Contains os (order_seen side h.heard)) (sym orders_are) h.ordered)),
                h.pass,
                h.few,
              )

      -- ---- it was refused

      refused_so : PartIsTrue mid.terms.layout mid.part → shape_in mid.part.stands ≡ mid.terms.shape
          → PartIsTrue t.terms.layout t.part → shape_in t.part.stands ≡ t.terms.shape
          → SideLeaves mid.part.stands (Err refusal.Waiting) t.part.stands → (new : List SeenPass) → new ≡ set ts n t
          → IsRefused terms new
      refused_so stood shaped stands shape waits new put = record {
        place = n;
        begins = mid;
        now = t;
        at = ap (λ (z : List SeenPass). slice_get z n) put ∙ get_set_here ts n side t at;
        is = same;
        stood = as_terms mid leaver_of.1 stood shaped;
        stands = as_terms t (ap (λ (z : SeenPass). z.terms) same ∙ leaver_of.1) stands shape;
        waits = waits;
        own = its_own;
        others = λ q x ne e. heard_steps x (hears_of last was.knows heeds q x
            (sym (set_other ts n q t ne) ∙ (ap (λ (z : List SeenPass). slice_get z q) (sym put) ∙ e)));
      }
        where
          as_terms : (s : SeenPass) → s.terms ≡ terms → PartIsTrue s.terms.layout s.part
              → shape_in s.part.stands ≡ s.terms.shape → PartStands terms s
          as_terms s e true_there its = (
            subst (λ (z : RunTerms). PartIsTrue z.layout s.part) e true_there,
            its ∙ ap (λ (z : RunTerms). z.shape) e,
          )

      pub waits_so : PartIsTrue mid.terms.layout mid.part → shape_in mid.part.stands ≡ mid.terms.shape
          → PartIsTrue t.terms.layout t.part → shape_in t.part.stands ≡ t.terms.shape
          → SideLeaves mid.part.stands (Err refusal.Waiting) t.part.stands → (new : List SeenPass) → new ≡ set ts n t
          → (b : Caller) → OpensFor t b → WaitsInTurn heap terms ss new b
      waits_so stood shaped stands shape waits new put b opens = record {
        alike = alike_now new put;
        refused = refused_so stood shaped stands shape waits new put;
        bundle = (
          opens.0 ∙ (ap (λ (z : SeenPass). z.heap) same ∙ leaver_of.0),
          opens.1 ∙ (ap (λ (z : SeenPass). z.terms.shape) same ∙ ap (λ (z : RunTerms). z.shape) leaver_of.1),
          opens.2,
        );
      }
