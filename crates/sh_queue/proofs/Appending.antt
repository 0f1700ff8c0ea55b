-- Numbers are put into a chain ahead of the last, one after the other.
use Rattle.std.proofs.Common.{◌≡◌, ◌≢◌, ℕ, suc, ◌+◌, ◌-◌, ◌<◌, ◌≤◌, ◌⊎◌, ⊎_elim, true, false, List, [], ◌∷◌, ◌++◌, sym}
use Rattle.std.proofs.Common.{ap, ◌∙◌, arith, inl, inr}
use Rattle.std.proofs.lemmas.Bool.{cases_lt, false≢true}
use Rattle.sh_lists.specs.Numbers.{Distinct, upward}
use Rattle.sh_lists.proofs.Distincts.{upward-push, Misses-upward}
use Rattle.sh_queue.specs.Numbers.{has_number, put_before}
use Rattle.sh_queue.specs.Chain.{ChainNumbers}
use Rattle.sh_queue.proofs.PutBefore.{put_before-nil, put_before-push, has_number-put_before_other}

-- the numbers below x are put in, and those from x on are not
pub record Appending (first count x : ℕ) (old now : ChainNumbers) : Type 0 where
  pub puts : now ≡ record old { numbers = put_before 10 (upward first (x - first)) old.numbers }
  pub here : has_number 10 now.numbers ≡ true
  pub apart : (k : ℕ) → x ≤ k → k < first + count → has_number k now.numbers ≡ false
  pub distinct : Distinct now.numbers

pub appending_none
    : (first count : ℕ) (v : ChainNumbers)
    → has_number 10 v.numbers ≡ true → ((k : ℕ) → first ≤ k → k < first + count → has_number k v.numbers ≡ false)
    → Distinct v.numbers → Appending first count first v v
appending_none first count v here apart distinct =
    let none : first - first ≡ 0 = omega arith in
    let is : v.numbers ≡ put_before 10 (upward first (first - first)) v.numbers =
    sym (ap (λ n. put_before 10 (upward first n) v.numbers) none ∙ put_before-nil 10 v.numbers) in
    record { puts = λ i. record { numbers = is i; size = v.size }; here = here; apart = apart; distinct = distinct }

-- the last number is not put in
outside
    : (first count : ℕ) (numbers : List ℕ)
    → has_number 10 numbers ≡ true → ((k : ℕ) → first ≤ k → k < first + count → has_number k numbers ≡ false)
    → (10 < first) ⊎ (first + count ≤ 10)
outside first count numbers here apart = ⊎_elim
    (λ (below : 10 < first). inl below)
    (λ (from : first ≤ 10). ⊎_elim
    (λ (within : 10 < first + count). absurd (false≢true (sym (apart 10 from within) ∙ here)))
    (λ (above : first + count ≤ 10). inr above)
    (cases_lt 10 (first + count)))
    (cases_lt 10 first)

pub appending_more
    : (first count x : ℕ) (old now new : ChainNumbers)
    → first ≤ x → x < first + count
    → ((k : ℕ) → first ≤ k → k < first + count → has_number k old.numbers ≡ false) → has_number 10 old.numbers ≡ true
    → Appending first count x old now → new ≡ record now { numbers = put_before 10 (x ∷ []) now.numbers }
    → Distinct new.numbers → Appending first count (x + 1) old new
appending_more first count x old now new from below none here h is distinct =
    let n = x - first in
    let w = old.numbers in
    let next : x + 1 - first ≡ suc n = omega arith in
    let at : first + n ≡ x = omega arith in
    let other : x ≢ 10 = λ same. false≢true (sym (none x from below) ∙ (ap (λ k. has_number k w) same ∙ here)) in
    let before : (10 < first) ⊎ (first + n ≤ 10) = ⊎_elim
    (λ (less : 10 < first). inl less)
    (λ (above : first + count ≤ 10). let fits : first + n ≤ 10 = omega arith in inr fits)
    (outside first count w here none) in
    let numbers : put_before 10 (x ∷ []) now.numbers ≡ put_before 10 (upward first (x + 1 - first)) w =
    ap (λ (v : ChainNumbers). put_before 10 (x ∷ []) v.numbers) h.puts
    ∙ put_before-push 10 x (upward first n) w (Misses-upward 10 first n before)
    ∙ ap (λ k. put_before 10 (upward first n ++ k ∷ []) w) (sym at)
    ∙ ap (λ ys. put_before 10 ys w) (sym (upward-push first n))
    ∙ ap (λ k. put_before 10 (upward first k) w) (sym next) in
    let sized : now.size ≡ old.size = ap (λ (v : ChainNumbers). v.size) h.puts in
    let new_numbers : new.numbers ≡ put_before 10 (x ∷ []) now.numbers = ap (λ (v : ChainNumbers). v.numbers) is in
    record {
      puts = is ∙ (λ i. record { numbers = numbers i; size = sized i });
      here = ap (has_number 10) new_numbers ∙ has_number-put_before_other 10 10 x now.numbers other ∙ h.here;
      apart = λ k more less. ap (has_number k) new_numbers
          ∙ has_number-put_before_other k 10 x now.numbers (λ same. omega arith)
          ∙ h.apart k (omega arith) less;
      distinct = distinct;
    }
