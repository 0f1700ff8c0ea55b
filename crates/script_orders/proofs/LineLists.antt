-- Lists of the lines of a pass.
use Rattle.std.proofs.Common.{◌≡◌, ◌≢◌, ℕ, zero, suc, ◌+◌, ◌-◌, ◌<◌, ◌≤◌, Bool, true, false, cond, List, [], ◌∷◌, ◌++◌}
use Rattle.std.proofs.Common.{refl, sym, ap, ◌∙◌, arith, Option, Some, None, slice_get, ne_eqb, append-nil}
use Rattle.std.specs.List.{All, filter, range_with_len}
use Rattle.std.proofs.lemmas.Bool.{eqb-true}
use Rattle.std.proofs.lemmas.List.Elements.{filter-append, filter_map-append, All-nil, All-cons}
use Rattle.sh_step.specs.declared.action.Event.{Event}
use Rattle.script_orders.specs.Orders.{is_of, lines_within, IsOfSome, events_of}
use Rattle.script_orders.proofs.LineOptions.{pass_is}

-- ---- the lines from one number on and before another

pub range_split : (a m k : ℕ) → range_with_len a (m + k) ≡ range_with_len a m ++ range_with_len (a + m) k
range_split a zero k =
    let e : a + 0 ≡ a = omega arith in let f : 0 + k ≡ k = omega arith in rw (f, e) refl
range_split a (suc m) k =
    let e : a + suc m ≡ (a + 1) + m = omega arith in
    let f : suc m + k ≡ suc (m + k) = omega arith in
    rw (f, e) (ap (λ (xs : List ℕ). a ∷ xs) (range_split (a + 1) m k))

pub lines_none : (lines : List Event) (a from to : ℕ) → to ≤ from → lines_within lines a from to ≡ []
lines_none lines a from to le = let e : to - from ≡ 0 = omega arith in rw e refl

pub lines_join : (lines : List Event) (a from mid to : ℕ) → from ≤ mid → mid ≤ to → lines_within lines a from to
    ≡ lines_within lines a from mid ++ lines_within lines a mid to
lines_join lines a from mid to low high =
    let e : to - from ≡ (mid - from) + (to - mid) = omega arith in
    let f : from + (mid - from) ≡ mid = omega arith in
    ap (λ (n : ℕ). filter (is_of lines a) (range_with_len from n)) e
    ∙ ap (filter (is_of lines a)) (range_split from (mid - from) (to - mid))
    ∙ filter-append (is_of lines a) (range_with_len from (mid - from)) (range_with_len (from + (mid - from)) (to - mid))
    ∙ ap (λ (n : ℕ). lines_within lines a from mid ++ filter (is_of lines a) (range_with_len n (to - mid))) f

-- the line n alone
lines_one : (lines : List Event) (a n : ℕ) → lines_within lines a n (n + 1) ≡ cond (is_of lines a n) (n ∷ []) []
lines_one lines a n = let e : n + 1 - n ≡ 1 = omega arith in rw e refl

lines_more : (lines : List Event) (a from n : ℕ) (b : Bool) → from ≤ n → is_of lines a n ≡ b
    → lines_within lines a from (n + 1) ≡ lines_within lines a from n ++ cond b (n ∷ []) []
lines_more lines a from n b low is =
    lines_join lines a from n (n + 1) low (omega arith)
    ∙ ap (λ (xs : List ℕ). lines_within lines a from n ++ xs)
    (lines_one lines a n ∙ ap (λ (c : Bool). cond c (n ∷ []) []) is)

pub lines_own : (lines : List Event) (a from n : ℕ) → from ≤ n → is_of lines a n ≡ true
    → lines_within lines a from (n + 1) ≡ lines_within lines a from n ++ n ∷ []
lines_own lines a from n low is = lines_more lines a from n true low is

pub lines_other : (lines : List Event) (a from n : ℕ) → from ≤ n → is_of lines a n ≡ false
    → lines_within lines a from (n + 1) ≡ lines_within lines a from n
lines_other lines a from n low is = lines_more lines a from n false low is ∙ append-nil (lines_within lines a from n)

-- ---- which of them are another pass's

pub not_both : (o : Option Event) (a b : ℕ) → a ≢ b → pass_is b o ≡ true → pass_is a o ≡ false
not_both (Some e) a b ne h = ne_eqb e.pass a (λ (k : e.pass ≡ a). ne (sym k ∙ eqb-true e.pass b h))
not_both None a b ne h = refl

filter_same : (p : ℕ → Bool) (xs : List ℕ) → filter p (filter p xs) ≡ filter p xs
filter_same p [] = refl
filter_same p (x ∷ xs) = go (p x) refl (filter_same p xs) where
  go : (b : Bool) → p x ≡ b → filter p (filter p xs) ≡ filter p xs
      → filter p (cond b (x ∷ filter p xs) (filter p xs)) ≡ cond b (x ∷ filter p xs) (filter p xs)
  go true h rest = ap (λ (c : Bool). cond c (x ∷ filter p (filter p xs)) (filter p (filter p xs))) h
      ∙ ap (λ (ys : List ℕ). x ∷ ys) rest
  go false h rest = rest

filter_apart : (p q : ℕ → Bool) → ((n : ℕ) → q n ≡ true → p n ≡ false) → (xs : List ℕ) → filter p (filter q xs) ≡ []
filter_apart p q h [] = refl
filter_apart p q h (x ∷ xs) = go (q x) refl (filter_apart p q h xs) where
  go : (b : Bool) → q x ≡ b → filter p (filter q xs) ≡ [] → filter p (cond b (x ∷ filter q xs) (filter q xs)) ≡ []
  go true k rest = ap (λ (c : Bool). cond c (x ∷ filter p (filter q xs)) (filter p (filter q xs))) (h x k) ∙ rest
  go false k rest = rest

pub own_lines : (lines : List Event) (a from to : ℕ) → filter (is_of lines a) (lines_within lines a from to)
    ≡ lines_within lines a from to
own_lines lines a from to = filter_same (is_of lines a) (range_with_len from (to - from))

pub other_lines : (lines : List Event) (a b from to : ℕ) → a ≢ b → filter (is_of lines a) (lines_within lines b from to)
    ≡ []
other_lines lines a b from to ne =
    filter_apart (is_of lines a) (is_of lines b) (λ n h. not_both (slice_get lines n) a b ne h)
    (range_with_len from (to - from))

of_some : (lines : List Event) (passes a x : ℕ) (xs : List ℕ) (b : Bool) → a < passes → is_of lines a x ≡ b
    → All (IsOfSome lines passes) xs → All (IsOfSome lines passes) (cond b (x ∷ xs) xs)
of_some lines passes a x xs true less h rest = All-cons (IsOfSome lines passes) x xs (a, less, h) rest
of_some lines passes a x xs false less h rest = rest

all_of_some : (lines : List Event) (passes a : ℕ) → a < passes → (xs : List ℕ)
    → All (IsOfSome lines passes) (filter (is_of lines a) xs)
all_of_some lines passes a less [] = All-nil (IsOfSome lines passes)
all_of_some lines passes a less (x ∷ xs) =
    of_some lines passes a x (filter (is_of lines a) xs) (is_of lines a x) less refl
    (all_of_some lines passes a less xs)

pub lines_are_of : (lines : List Event) (passes a from to : ℕ) → a < passes
    → All (IsOfSome lines passes) (lines_within lines a from to)
lines_are_of lines passes a from to less = all_of_some lines passes a less (range_with_len from (to - from))

-- ---- the events of lines

pub events_append : (lines : List Event) (xs ys : List ℕ) → events_of lines (xs ++ ys) ≡ events_of lines xs
    ++ events_of lines ys
events_append lines xs ys = filter_map-append (slice_get lines) xs ys

pub event_one : (lines : List Event) (n : ℕ) (e : Event) → slice_get lines n ≡ Some e
    → events_of lines (n ∷ []) ≡ e ∷ []
event_one lines n e at = rw at refl

pub event_none : (lines : List Event) (n : ℕ) → slice_get lines n ≡ None → events_of lines (n ∷ []) ≡ []
event_none lines n at = rw at refl
