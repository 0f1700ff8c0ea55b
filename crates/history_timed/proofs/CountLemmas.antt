-- How many calls come before a place.
use Rattle.std.proofs.Common.{◌≡◌, ◌∙◌, ℕ, ◌+◌, ◌<◌, ◌≤◌, Bool, true, false, cond, List, [], ◌∷◌, ◌++◌, Option, Some}
use Rattle.std.proofs.Common.{None, zero, suc}
use Rattle.std.proofs.Common.{refl, sym, ap, take, arith}
use Rattle.std.specs.Prelude.{slice_get, count_by, ◌&&◌, not, is_some}
use Rattle.std.specs.List.{AllZip}
use Rattle.std.proofs.lemmas.Bool.{true≢false, and_parts}
use Rattle.std.proofs.lemmas.List.Sums.{sum_by-append}
use Rattle.std.proofs.lemmas.List.Sorted.{sum_by-IsPermutation}
use Rattle.sh_history.proofs.LogLaws.{count_by-cons}
use Rattle.sh_history.specs.declared.entry.Entry.{Entry}
use Rattle.sh_history.specs.History.{is_got_by, is_got_of, is_release_by, is_release_of}
use Rattle.history_timed.specs.declared.call.Call.{Call}
use Rattle.history_timed.specs.declared.call.Said.{Said}
use Rattle.history_timed.specs.declared.call.Said.TheVariants.{Known, Unread}
use Rattle.history_timed.specs.Calls.{MayBe, gets, releases, gets_by, releases_by}
use Rattle.history_timed.specs.Times.{is_ended, is_below, ends_before}
use Rattle.history_timed.specs.Orders.{IsLegalOrder}
use Rattle.history_timed.specs.Clashes.{most_before, least_before}
use Rattle.std.proofs.lemmas.List.Elements.{All-contains}
use Rattle.history_timed.proofs.ListLemmas.{contained}
use Rattle.history_timed.proofs.PlaceLemmas.{earlier}

bit : (a b : Bool) → (a ≡ true → b ≡ true) → cond a 1 0 ≤ cond b 1 0
bit true true f = omega arith
bit true false f = absurd (true≢false (sym (f refl)))
bit false true f = omega arith
bit false false f = omega arith

no_bit : (a : Bool) → (a ≡ true → ⊥) → cond a 1 0 ≤ 0
no_bit true f = absurd (f refl)
no_bit false f = omega arith

module _ {X : Type 0} (p q : X → Bool) where
  -- what passes in the front passes another test
  pub front_most : (xs : List X) (i : ℕ)
      → ((l : ℕ) (x : X) → l < i → slice_get xs l ≡ Some x → p x ≡ true → q x ≡ true)
      → count_by p (take i xs) ≤ count_by q xs
  front_most [] zero h = omega arith
  front_most [] (suc i) h = omega arith
  front_most (x ∷ xs) zero h = omega arith
  front_most (x ∷ xs) (suc i) h =
      let later = front_most xs i (λ l y below is. h (suc l) y (omega (arith, below)) is) in
      let here = bit (p x) (q x) (h 0 x (omega arith) refl) in
      rw (count_by-cons p x (take i xs), count_by-cons q x xs) (omega (arith, later, here))

  -- what passes is in the front, and passes another test
  pub front_all : (xs : List X) (i : ℕ)
      → ((l : ℕ) (x : X) → slice_get xs l ≡ Some x → q x ≡ true → (l < i) × (p x ≡ true))
      → count_by q xs ≤ count_by p (take i xs)
  front_all [] zero h = omega arith
  front_all [] (suc i) h = omega arith
  front_all (x ∷ xs) zero h =
      let later = front_all xs zero (λ l y is does. absurd (let no = (h (suc l) y is does).0 in omega (arith, no))) in
      let here = no_bit (q x) (λ does. let no = (h 0 x refl does).0 in omega (arith, no)) in
      rw (count_by-cons q x xs) (omega (arith, later, here))
  front_all (x ∷ xs) (suc i) h =
      let later = front_all xs i (λ l y is does.
      let r = h (suc l) y is does in (let less = r.0 in omega (arith, less), r.1)) in
      let here = bit (q x) (p x) (λ does. (h 0 x refl does).1) in
      rw (count_by-cons q x xs, count_by-cons p x (take i xs)) (omega (arith, later, here))

pub none_pass : {X : Type 0} (q : X → Bool) (xs : List X)
    → ((l : ℕ) (x : X) → slice_get xs l ≡ Some x → q x ≡ true → ⊥) → count_by q xs ≡ 0
none_pass q [] h = refl
none_pass q (x ∷ xs) h =
    let later = none_pass q xs (λ l y is. h (suc l) y is) in
    let here = no_bit (q x) (h 0 x refl) in
    rw (count_by-cons q x xs) (omega (arith, later, here))

-- a count of entries is that of their calls
same_count : (entry_test : Entry → Bool) (test : Said → Bool)
    → ((s : Said) (e : Entry) → MayBe s e → entry_test e ≡ test s) → (xs : List Call) (ys : List Entry) (i : ℕ)
    → AllZip (λ (x : Call). MayBe x.said) xs ys
    → count_by entry_test (take i ys) ≡ count_by (λ (x : Call). test x.said) (take i xs)
same_count entry_test test agree [] [] zero z = refl
same_count entry_test test agree [] [] (suc i) z = refl
same_count entry_test test agree [] (y ∷ ys) i z = absurd z
same_count entry_test test agree (x ∷ xs) [] i z = absurd z
same_count entry_test test agree (x ∷ xs) (y ∷ ys) zero z = refl
same_count entry_test test agree (x ∷ xs) (y ∷ ys) (suc i) z =
    let later = same_count entry_test test agree xs ys i z.1 in
    rw (
      count_by-cons entry_test y (take i ys),
      count_by-cons (λ (c : Call). test c.said) x (take i xs),
      agree x.said y z.0,
      later,
    ) refl

module _ (passes guard_max : ℕ) (calls ordered : List Call) (history : List Entry)
    (o : IsLegalOrder passes guard_max calls ordered history) (i : ℕ) (c : Call)
    (at : slice_get ordered i ≡ Some c) (test : Said → Bool) (entry_test : Entry → Bool)
    (agree : (s : Said) (e : Entry) → MayBe s e → entry_test e ≡ test s) where
  in_all : (q : Call → Bool) → count_by q calls ≡ count_by q ordered + count_by q o.order.left_out
  in_all q =
      sym (sum_by-IsPermutation (λ (x : Call). cond (q x) 1 0) calls (ordered ++ o.order.left_out)
      o.order.each_once)
      ∙ sum_by-append (λ (x : Call). cond (q x) 1 0) ordered o.order.left_out

  pub most_is_most : count_by entry_test (take i history) ≤ most_before test calls c
  most_is_most =
      let q : Call → Bool = λ x. test x.said && not (ends_before c.times x.times) in
      let same = same_count entry_test test agree ordered history i o.says in
      let most = front_most (λ (x : Call). test x.said) q ordered i (λ l x below is passes_test.
      rw (passes_test, o.order.keeps_times l i x c (omega (arith, below)) is at) refl) in
      let all = in_all q in
      omega (arith, same, most, all)

  not_left_out : (end : Option ℕ) (n : ℕ) → is_some end ≡ false → is_below end n ≡ true → ⊥
  not_left_out None n never ended = true≢false (sym ended)
  not_left_out (Some e) n never ended = true≢false never

  abbrev ends_first : Call → Bool
  ends_first x = test x.said && ends_before x.times c.times

  none_left_out : count_by ends_first o.order.left_out ≡ 0
  none_left_out = none_pass ends_first o.order.left_out (λ l x is does.
      not_left_out x.times.end c.times.begin
      (All-contains (λ (d : Call). is_ended d.times ≡ false) o.order.left_out x o.order.unended
      (contained o.order.left_out l x is)) (and_parts (test x.said) (ends_before x.times c.times) does).1)

  pub least_is_least : least_before test calls c ≤ count_by entry_test (take i history)
  least_is_least =
      let same = same_count entry_test test agree ordered history i o.says in
      let least = front_all (λ (x : Call). test x.said) ends_first ordered i (λ l x is does.
      let parts = and_parts (test x.said) (ends_before x.times c.times) does in
      (earlier passes guard_max calls ordered history o i l c x at is parts.1, parts.0)) in
      let none = none_left_out in
      let all = in_all ends_first in
      omega (arith, same, least, none, all)

-- the tests of entries and of calls agree
pub got_by_said : (pass key : ℕ) (s : Said) (e : Entry) → MayBe s e → is_got_by pass key e ≡ gets_by pass key s
got_by_said pass key (Known k) e is = ap (is_got_by pass key) is
got_by_said pass key (Unread p k) e is = ap (is_got_by pass key) is.1

pub got_said : (key : ℕ) (s : Said) (e : Entry) → MayBe s e → is_got_of key e ≡ gets key s
got_said key (Known k) e is = ap (is_got_of key) is
got_said key (Unread p k) e is = ap (is_got_of key) is.1

pub released_by_said : (pass key : ℕ) (s : Said) (e : Entry) → MayBe s e
    → is_release_by pass key e ≡ releases_by pass key s
released_by_said pass key (Known k) e is = ap (is_release_by pass key) is
released_by_said pass key (Unread p k) e is = ap (is_release_by pass key) is.1

pub released_said : (key : ℕ) (s : Said) (e : Entry) → MayBe s e → is_release_of key e ≡ releases key s
released_said key (Known k) e is = ap (is_release_of key) is
released_said key (Unread p k) e is = ap (is_release_of key) is.1
