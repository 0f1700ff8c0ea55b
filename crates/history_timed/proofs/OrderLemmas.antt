-- Placed calls are an order that keeps to the times.
use Rattle.std.proofs.Common.{◌≡◌, ◌∙◌, ℕ, ◌+◌, ◌<◌, ◌≤◌, true, false, List, [], ◌∷◌, ◌++◌, Option, Some, None}
use Rattle.std.proofs.Common.{zero, suc}
use Rattle.std.proofs.Common.{refl, sym, subst, ap, map, take, length, get_or, append_assoc, arith}
use Rattle.std.specs.Prelude.{slice_get, nat_lt, IfSome}
use Rattle.std.specs.List.{All}
use Rattle.std.specs.List.Sorted.{IsPermutation, IsNonDecreasingBy, IsSortedByKey}
use Rattle.std.specs.Ordering.{is_lt}
use Rattle.std.specs.declared.cmp.Ordering.{Ordering}
use Rattle.std.specs.Cmp.{IsTotalOrder}
use Rattle.std.specs.Fn.{Called, ComputesKey}
use Rattle.std.proofs.lemmas.Bool.Decides.{nat_tests}
use Rattle.std.proofs.lemmas.Fn.{always_returns_same}
use Rattle.std.proofs.lemmas.List.{take_more, take_all, map-append}
use Rattle.std.proofs.lemmas.List.Elements.{All-nil, All-cons, All-push, All-get_or}
use Rattle.std.proofs.lemmas.List.Sorted.{IsPermutation-refl, IsPermutation-sym}
use Rattle.std.proofs.lemmas.List.Sorted.{IsPermutation-trans}
use Rattle.std.proofs.lemmas.List.Sorted.{IsPermutation-push_more, IsPermutation-middle, IsPermutation-append_left}
use Rattle.std.proofs.lemmas.List.Sorted.{IsPermutation-map, All-permutation}
use Rattle.std.proofs.lemmas.Option.{slice_get_within, get_or_from_slice_get, none-some, same_Some}
use denote.Ref.{Bor}
use denote.Param.Members.{Mut}
use Rattle.history_timed.specs.declared.call.Call.{Call}
use Rattle.history_timed.specs.declared.moment.Point.{Point}
use Rattle.history_timed.specs.declared.order.Placed.{Placed}
use Rattle.history_timed.specs.Times.{Times, IsWithin, is_below, is_ended, ends_before}
use Rattle.history_timed.specs.Orders.{IsOrder, KeepsTimes}
use Rattle.history_timed.specs.Moments.{IsPoint, is_left_out, course_of}
use Rattle.history_timed.specs.Placing.{call_of, ArePlaced, ArePointed, IsTried}
use Rattle.sh_history.proofs.Rising.{rises_by_key}

-- the first calls are placed or left out
pub record HasPlaced (calls : List Call) (n : ℕ) (placed : List Placed) : Type 0 where
  pub left_out : List Call
  pub each_once : IsPermutation (take n calls) (map call_of placed ++ left_out)
  pub unended : All (λ (c : Call). is_ended c.times ≡ false) left_out
  pub within : ArePlaced placed
  pub points : ArePointed calls placed
  pub outs : All (λ (c : Call). is_left_out (course_of calls c) c ≡ true) left_out

pub none_placed : (calls : List Call) → HasPlaced calls 0 []
none_placed calls = record {
  left_out = [];
  each_once = IsPermutation-refl [];
  unended = All-nil (λ (c : Call). is_ended c.times ≡ false);
  within = All-nil (λ (p : Placed). IsWithin p.call.now.times p.point.moment);
  points = All-nil (λ (p : Placed). IsPoint (course_of calls p.call.now) p.call.now p.point);
  outs = All-nil (λ (c : Call). is_left_out (course_of calls c) c ≡ true);
}

module _ (calls : List Call) (n : ℕ) (placed : List Placed) (c : Call) (below : n < length calls)
    (is : c ≡ get_or calls n c) (so_far : HasPlaced calls n placed) where
  -- one call more, behind a part of the new list
  one_more : (front back : List Call) → front ++ back ≡ map call_of placed ++ so_far.left_out
      → IsPermutation (take (n + 1) calls) (front ++ c ∷ back)
  one_more front back same =
      let all : IsPermutation (take n calls) (front ++ back) =
      subst (IsPermutation (take n calls)) (sym same) so_far.each_once in
      subst (λ (xs : List Call). IsPermutation xs (front ++ c ∷ back))
      (sym (take_more calls n c below ∙ ap (λ (x : Call). take n calls ++ x ∷ []) (sym is)))
      (IsPermutation-push_more (take n calls) (front ++ back) (front ++ c ∷ back) c all
      (IsPermutation-sym _ _ (IsPermutation-middle front c back)))

  pub one_placed : (p : Placed) → call_of p ≡ c → IsWithin c.times p.point.moment
      → IsPoint (course_of calls c) c p.point → HasPlaced calls (n + 1) (placed ++ p ∷ [])
  one_placed p here within point =
      let front : map call_of (placed ++ p ∷ []) ≡ map call_of placed ++ c ∷ [] =
      map-append call_of placed (p ∷ []) ∙ ap (λ (x : Call). map call_of placed ++ x ∷ []) here in
      record {
        left_out = so_far.left_out;
        each_once =
            rw (front, append_assoc (map call_of placed) (c ∷ []) so_far.left_out)
            (one_more (map call_of placed) so_far.left_out refl);
        unended = so_far.unended;
        within = All-push (λ (q : Placed). IsWithin q.call.now.times q.point.moment) placed p so_far.within
            (subst (λ (x : Call). IsWithin x.times p.point.moment) (sym here) within);
        points = All-push (λ (q : Placed). IsPoint (course_of calls q.call.now) q.call.now q.point) placed p
            so_far.points (subst (λ (x : Call). IsPoint (course_of calls x) x p.point) (sym here) point);
        outs = so_far.outs;
      }

  pub one_left_out : is_ended c.times ≡ false → is_left_out (course_of calls c) c ≡ true
      → HasPlaced calls (n + 1) placed
  one_left_out unended out = record {
    left_out = c ∷ so_far.left_out;
    each_once = one_more (map call_of placed) so_far.left_out refl;
    unended = All-cons (λ (x : Call). is_ended x.times ≡ false) c so_far.left_out unended so_far.unended;
    within = so_far.within;
    points = so_far.points;
    outs = All-cons (λ (x : Call). is_left_out (course_of calls x) x ≡ true) c so_far.left_out out so_far.outs;
  }

-- a call at a moment does not end before one at an earlier moment begins
not_before : (a b : Times) (m n : ℕ) → IsWithin a m → IsWithin b n → m ≤ n → ends_before b a ≡ false
not_before a b m n first last up = go b.end last.not_ended where
  go : (end : Option ℕ) → IfSome end (λ (e : ℕ). n ≤ e) → is_below end a.begin ≡ false
  go None h = refl
  go (Some e) h =
      let begun = first.begun in
      let above : a.begin ≤ e = omega (arith, begun, up, h) in
      off e a.begin above
    where
      off : (e b : ℕ) → b ≤ e → nat_lt e b ≡ false
      off e b above = grind (arith, nat_tests)

map_at : {X Y : Type 0} (f : X → Y) (xs : List X) (i : ℕ) (y : Y) → slice_get (map f xs) i ≡ Some y
    → (x : X) × (slice_get xs i ≡ Some x) × (f x ≡ y)
map_at f [] i y is = absurd (none-some y is)
map_at f (x ∷ xs) zero y is = (x, refl, same_Some (f x) y is)
map_at f (x ∷ xs) (suc i) y is = map_at f xs i y is

times_kept : (placed : List Placed) → ArePlaced placed
    → IsNonDecreasingBy (λ (p : Placed). p.point.moment) placed → KeepsTimes (map call_of placed)
times_kept placed within rises i j first last up at_i at_j =
    let p = map_at call_of placed i first at_i in
    let q = map_at call_of placed j last at_j in
    let moments = rises i j p.0 up (slice_get_within placed j q.0 q.1) in
    let one : IsWithin p.0.call.now.times p.0.point.moment = placed_at i p.0 p.1 in
    let other : IsWithin q.0.call.now.times q.0.point.moment = placed_at j q.0 q.1 in
    rw (← p.2, ← q.2) (not_before p.0.call.now.times q.0.call.now.times p.0.point.moment q.0.point.moment one other
    (rw (get_or_from_slice_get placed i p.0 p.0 p.1, get_or_from_slice_get placed j q.0 p.0 q.1) at moments))
  where
    placed_at : (k : ℕ) (x : Placed) → slice_get placed k ≡ Some x → IsWithin x.call.now.times x.point.moment
    placed_at k x is = subst (λ (y : Placed). IsWithin y.call.now.times y.point.moment)
        (get_or_from_slice_get placed k x x is)
        (All-get_or (λ (y : Placed). IsWithin y.call.now.times y.point.moment) placed k x
        (slice_get_within placed k x is) within)

-- all calls are placed or left out, and the placed ones are sorted
module _ (calls : List Call) (n : ℕ) (placed sorted : List Placed) (all : length calls ≤ n)
    (so_far : HasPlaced calls n placed) (shuffled : IsPermutation placed sorted) where
  once : IsPermutation calls (map call_of sorted ++ so_far.left_out)
  once =
      IsPermutation-trans calls (map call_of placed ++ so_far.left_out) (map call_of sorted ++ so_far.left_out)
      (subst (λ (xs : List Call). IsPermutation xs (map call_of placed ++ so_far.left_out)) (take_all n calls all)
      so_far.each_once)
      (IsPermutation-append_left so_far.left_out _ _ (IsPermutation-map call_of _ _ shuffled))

  pub order_of : IsNonDecreasingBy (λ (p : Placed). p.point.moment) sorted → IsOrder calls (map call_of sorted)
  order_of rises = record {
    left_out = so_far.left_out;
    each_once = once;
    unended = so_far.unended;
    keeps_times = times_kept sorted
        (All-permutation (λ (p : Placed). IsWithin p.call.now.times p.point.moment) _ _ shuffled so_far.within) rises;
  }

  pub tried_order : IsNonDecreasingBy (λ (p : Placed). p.point.moment) sorted
      → IsTried calls (map call_of sorted)
  tried_order rises = record {
    placed = sorted;
    ordered_are = refl;
    left_out = so_far.left_out;
    each_once = once;
    points =
        All-permutation (λ (p : Placed). IsPoint (course_of calls p.call.now) p.call.now p.point) _ _ shuffled
        so_far.points;
    outs = so_far.outs;
    rises = rises;
  }

-- the same of a sort of placed calls by their points
pub rises_from_sort : {F : Type 0} {g : Mut F (Bor Placed × Unit {0}) Point} {f : F} (R : Point → Point → Ordering)
    → IsTotalOrder R → ((x y : Point) → y.moment < x.moment → is_lt (R y x) ≡ true) → (xs : List Placed)
    → ((key : Placed → Point) → ComputesKey g key f → IsSortedByKey key R xs)
    → ((a : Bor Placed × Unit {0}) (r : Point) (f' : F) → Called g f a r f' → (r ≡ a.0.now.point) × (f' ≡ f))
    → IsNonDecreasingBy (λ (p : Placed). p.point.moment) xs
rises_from_sort {g = g} {f = f} R o falls xs up h =
    let key : Placed → Point = λ p. p.point in
    rises_by_key key (λ (p : Placed). p.point.moment) R o (λ x y. falls x.point y.point) xs
    (up key (always_returns_same g (λ a r. r ≡ a.0.now.point) f h))
