-- The first line of a pass from a number on.
use Rattle.std.proofs.Common.{◌≡◌, ℕ, zero, suc, ◌+◌, ◌-◌, ◌<◌, ◌≤◌, Bool, true, false, cond, List, [], ◌∷◌, ◌++◌}
use Rattle.std.proofs.Common.{length, refl, sym, ap, ◌∙◌, arith, inl, inr, append-nil}
use Rattle.std.specs.List.{filter, range_with_len}
use Rattle.std.proofs.lemmas.Bool.{cases_eq}
use Rattle.std.proofs.lemmas.List.{append_cancel_left}
use Rattle.std.proofs.lemmas.List.Elements.{filter-append}
use Rattle.sh_step.specs.declared.action.Event.{Event}
use Rattle.script_orders.specs.Orders.{is_of, lines_within}
use Rattle.script_orders.proofs.LineLists.{lines_join, lines_own}

pub record IsFirst (f : ℕ → Bool) (from to n : ℕ) : Type 0 where
  pub low : from ≤ n
  pub high : n < to
  pub is : f n ≡ true
  pub none : (m : ℕ) → from ≤ m → m < n → f m ≡ false

-- those of k numbers from one on that pass the test
abbrev pub kept : (f : ℕ → Bool) (from k : ℕ) → List ℕ
kept f from k = filter f (range_with_len from k)

first_kept : (f : ℕ → Bool) (from k n : ℕ) (xs : List ℕ) → kept f from k ≡ n ∷ xs → IsFirst f from (from + k) n
first_kept f from zero n xs h = absurd (let z : [] ≡ n ∷ xs = h in cc)
first_kept f from (suc k) n xs h = go (f from) refl h (first_kept f (from + 1) k n xs) where
  go : (b : Bool) → f from ≡ b → cond b (from ∷ kept f (from + 1) k) (kept f (from + 1) k) ≡ n ∷ xs
      → (kept f (from + 1) k ≡ n ∷ xs → IsFirst f (from + 1) (from + 1 + k) n) → IsFirst f from (from + suc k) n
  go true is e more =
      let z : from ∷ kept f (from + 1) k ≡ n ∷ xs = e in
      let same : from ≡ n = cc in record {
        low = omega (arith, same);
        high = omega (arith, same);
        is = ap f (sym same) ∙ is;
        none = λ m low high. absurd (omega (arith, same));
      }
  go false is e more =
      let rest = more e in
      let low = rest.low in
      let high = rest.high in record {
        low = omega arith;
        high = omega arith;
        is = rest.is;
        none = λ m at below. elim (cases_eq m from) [
          | inl same ↦ ap f same ∙ is
          | inr ne ↦ rest.none m (omega arith) below
        ];
      }

none_kept : (f : ℕ → Bool) (from k : ℕ) → kept f from k ≡ [] → (m : ℕ) → from ≤ m → m < from + k → f m ≡ false
none_kept f from zero h m low high = absurd (omega arith)
none_kept f from (suc k) h m low high = go (f from) refl h (λ e. none_kept f (from + 1) k e m) where
  go : (b : Bool) → f from ≡ b → cond b (from ∷ kept f (from + 1) k) (kept f (from + 1) k) ≡ []
      → (kept f (from + 1) k ≡ [] → from + 1 ≤ m → m < from + 1 + k → f m ≡ false) → f m ≡ false
  go true is e more = absurd (let z : from ∷ kept f (from + 1) k ≡ [] = e in cc)
  go false is e more = elim (cases_eq m from) [
    | inl same ↦ ap f same ∙ is
    | inr ne ↦ more e (omega arith) (omega arith)
  ]

pub none_is : (f : ℕ → Bool) (from k : ℕ) → ((m : ℕ) → from ≤ m → m < from + k → f m ≡ false) → kept f from k ≡ []
none_is f from zero h = refl
none_is f from (suc k) h =
    ap (λ (b : Bool). cond b (from ∷ kept f (from + 1) k) (kept f (from + 1) k)) (h from (omega arith) (omega arith))
    ∙ none_is f (from + 1) k (λ m low high. h m (omega arith) (omega arith))

-- ---- an order so far, of which the pass's lines are those before `upto`, and the rest of it

module _ (lines : List Event) (a upto : ℕ) (order : List ℕ) (within : upto ≤ length lines)
    (are : filter (is_of lines a) order ≡ lines_within lines a 0 upto) where
  rest_lines : (rest : List ℕ) → filter (is_of lines a) (order ++ rest) ≡ lines_within lines a 0 (length lines)
      → filter (is_of lines a) rest ≡ lines_within lines a upto (length lines)
  rest_lines rest all =
      append_cancel_left (lines_within lines a 0 upto) (filter (is_of lines a) rest)
      (lines_within lines a upto (length lines))
      (ap (λ (xs : List ℕ). xs ++ filter (is_of lines a) rest) (sym are)
      ∙ sym (filter-append (is_of lines a) order rest)
      ∙ all
      ∙ lines_join lines a 0 upto (length lines) (omega arith) within)

  -- no line is left
  pub none_left : filter (is_of lines a) order ≡ lines_within lines a 0 (length lines) → (m : ℕ) → upto ≤ m
      → m < length lines → is_of lines a m ≡ false
  none_left all m low high =
      let none : lines_within lines a upto (length lines) ≡ [] =
      sym (append_cancel_left (lines_within lines a 0 upto) [] (lines_within lines a upto (length lines))
      (append-nil (lines_within lines a 0 upto) ∙ sym are ∙ all
      ∙ lines_join lines a 0 upto (length lines) (omega arith) within)) in
      none_kept (is_of lines a) upto (length lines - upto) none m low (omega arith)

  -- the next line of the order, if it is the pass's
  pub next_left : (n : ℕ) (rest : List ℕ) → is_of lines a n ≡ true
      → filter (is_of lines a) (order ++ n ∷ rest) ≡ lines_within lines a 0 (length lines)
      → IsFirst (is_of lines a) upto (length lines) n
  next_left n rest own all =
      let here : n ∷ filter (is_of lines a) rest ≡ lines_within lines a upto (length lines) =
      sym (ap (λ (b : Bool). cond b (n ∷ filter (is_of lines a) rest) (filter (is_of lines a) rest)) own)
      ∙ rest_lines (n ∷ rest) all in
      let first = first_kept (is_of lines a) upto (length lines - upto) n (filter (is_of lines a) rest) (sym here) in
      let high = first.high in
      record { low = first.low; high = omega arith; is = first.is; none = first.none }

  pub lines_with_next : (n : ℕ) → IsFirst (is_of lines a) upto (length lines) n
      → filter (is_of lines a) (order ++ n ∷ []) ≡ lines_within lines a 0 (n + 1)
  lines_with_next n first =
      let low = first.low in
      let none : lines_within lines a upto n ≡ [] =
      none_is (is_of lines a) upto (n - upto) (λ m at below. first.none m at (omega arith)) in
      filter-append (is_of lines a) order (n ∷ [])
      ∙ ap (λ (b : Bool). filter (is_of lines a) order ++ cond b (n ∷ []) []) first.is
      ∙ ap (λ (xs : List ℕ). xs ++ n ∷ []) (are ∙ sym (append-nil (lines_within lines a 0 upto))
      ∙ ap (λ (xs : List ℕ). lines_within lines a 0 upto ++ xs) (sym none)
      ∙ sym (lines_join lines a 0 upto n (omega arith) low))
      ∙ sym (lines_own lines a 0 n (omega arith) first.is)

-- a line of another pass
pub lines_with_other : (lines : List Event) (a upto n : ℕ) (order : List ℕ) → is_of lines a n ≡ false
    → filter (is_of lines a) order ≡ lines_within lines a 0 upto
    → filter (is_of lines a) (order ++ n ∷ []) ≡ lines_within lines a 0 upto
lines_with_other lines a upto n order other are =
    filter-append (is_of lines a) order (n ∷ [])
    ∙ ap (λ (b : Bool). filter (is_of lines a) order ++ cond b (n ∷ []) []) other
    ∙ append-nil (filter (is_of lines a) order)
    ∙ are
