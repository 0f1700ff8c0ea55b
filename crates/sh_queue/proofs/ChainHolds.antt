-- The numbers that the links of a chain hold, as a contract sees them, and the links of one of them.
use Rattle.std.proofs.Common.{◌≡◌, ◌≢◌, ℕ, ◌<◌, true, false, List, [], ◌∷◌, length, get_or, sym, refl, ap, ◌∙◌, subst}
use Rattle.std.proofs.Common.{arith, cond, ◌==◌, ne_eqb}
use Rattle.sh_lists.specs.Lists.{walk}
use Rattle.sh_queue.specs.Numbers.{has_number, put_after, put_before, preceding, preceding_from, following}
use Rattle.sh_queue.specs.Chain.{ChainNumbers, ChainLinked, Links}
use Rattle.sh_queue.proofs.Numbers.{has_number-rest, below_from_has}
use Rattle.sh_queue.proofs.PutBefore.{preceding_is_inner, put_after-preceding}
use Rattle.sh_queue.proofs.LinksBeside.{next_is, prev_is, next_of_prev}

-- the numbers that the links hold
abbrev pub chained : List ℕ → ℕ → ChainNumbers
chained next count = record { numbers = 0 ∷ walk next (get_or next 0 0) count; size = length next }

-- the new links hold these numbers, and keep what is true of them
pub record Holds (next prev : List ℕ) (count : ℕ) (v : ChainNumbers) : Type 0 where
  pub links : Links next prev (walk next (get_or next 0 0) count)
  pub shows : chained next count ≡ v

-- the links lead along the numbers
walk-linked : (next prev : List ℕ) (a : ℕ) (xs : List ℕ) → ChainLinked next prev a xs
    → walk next (get_or next a 0) (length xs) ≡ xs
walk-linked next prev a [] linked = refl
walk-linked next prev a (b ∷ rest) linked =
    ap (λ i. i ∷ walk next (get_or next i 0) (length rest)) linked.0
    ∙ ap (λ ys. b ∷ ys) (walk-linked next prev b rest linked.2)

pub holds
    : (next prev : List ℕ) (count size : ℕ) (rest : List ℕ)
    → length rest ≡ count → length next ≡ size → Links next prev rest
    → Holds next prev count (record { numbers = 0 ∷ rest; size = size })
holds next prev count size rest is sized h =
    let same : walk next (get_or next 0 0) count ≡ rest =
    ap (walk next (get_or next 0 0)) (sym is) ∙ walk-linked next prev 0 rest h.linked in
    record {
      links = subst (Links next prev) (sym same) h;
      shows = λ i. record { numbers = 0 ∷ same i; size = sized i };
    }

-- a number of the chain is below its size
pub inside
    : (next prev : List ℕ) (count s : ℕ) (v : ChainNumbers)
    → chained next count ≡ v → Links next prev (walk next (get_or next 0 0) count) → has_number s v.numbers ≡ true
    → (s < length next) × (s < length prev)
inside next prev count s v is h here =
    let P : ChainNumbers → Type 0 = λ v. has_number s v.numbers ≡ true → (s < length next) × (s < length prev) in
    let at : P (chained next count) = λ here.
    let small : s < length next = below_from_has (length next) s (0 ∷ walk next (get_or next 0 0) count) h.small here in
    (small, omega (arith, h.size)) in
    subst P is at here

pub follows
    : (next prev : List ℕ) (count s : ℕ) (v : ChainNumbers)
    → chained next count ≡ v → Links next prev (walk next (get_or next 0 0) count) → has_number s v.numbers ≡ true
    → s ≢ 10
    → get_or next s 0 ≡ following s v.numbers
follows next prev count s v is h here inner =
    let P : ChainNumbers → Type 0 = λ v. has_number s v.numbers ≡ true → get_or next s 0 ≡ following s v.numbers in
    let at : P (chained next count) = λ here.
    (next_is next prev s 0 10 (walk next (get_or next 0 0) count) h.linked here h.last inner).0 in
    subst P is at here

-- the number ahead of m
pub record Ahead (next prev : List ℕ) (m x : ℕ) (v : ChainNumbers) : Type 0 where
  pub is : get_or prev m 0 ≡ preceding m v.numbers
  pub here : has_number (get_or prev m 0) v.numbers ≡ true
  pub inner : get_or prev m 0 ≢ 10
  pub leads : get_or next (get_or prev m 0) 0 ≡ m
  pub puts : put_after (get_or prev m 0) x v.numbers ≡ put_before m (x ∷ []) v.numbers

pub ahead
    : (next prev : List ℕ) (count m x : ℕ) (v : ChainNumbers)
    → chained next count ≡ v → Links next prev (walk next (get_or next 0 0) count) → has_number m v.numbers ≡ true
    → m ≢ 0
    → Ahead next prev m x v
ahead next prev count m x v is h here inner =
    let rest = walk next (get_or next 0 0) count in
    let P : ChainNumbers → Type 0 = λ v. has_number m v.numbers ≡ true → Ahead next prev m x v in
    let first : (0 == m) ≡ false = ne_eqb 0 m (λ same. inner (sym same)) in
    let at : P (chained next count) = λ here.
    let there : has_number m rest ≡ true = has_number-rest m 0 rest (λ same. inner (sym same)) here in
    let leads = prev_is next prev m 0 rest h.linked there in
    record {
      is = leads.0 ∙ sym (ap (λ b. cond b 0 (preceding_from 0 m rest)) first);
      here = leads.1;
      inner = λ same. preceding_is_inner 0 m 10 rest h.distinct there h.last (sym leads.0 ∙ same);
      leads = next_of_prev next prev m 0 rest h.linked there;
      puts = ap (λ s. put_after s x (0 ∷ rest)) leads.0
          ∙ put_after-preceding 0 m x rest h.distinct there
          ∙ sym (ap (λ b. cond b (x ∷ 0 ∷ rest) (0 ∷ put_before m (x ∷ []) rest)) first);
    } in
    subst P is at here
