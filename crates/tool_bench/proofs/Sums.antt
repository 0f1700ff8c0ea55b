-- Steps of the sums of outcomes.
use Rattle.std.proofs.Common.{◌≡◌, ◌∙◌, ap, sym, ℕ, ◌+◌, ◌%◌, ◌^◌, ◌<◌, max, List, length, take, get_or, Some, Bool}
use Rattle.std.proofs.Common.{true, arith, below_more}
use Rattle.std.specs.Prelude.{sum_by, Result, Ok, Err, slice_get}
use Rattle.std.proofs.lemmas.Option.{slice_get-get_or}
use Rattle.std.proofs.lemmas.List.Sums.{sum_by_more, fold_more}
use Rattle.tool_load.specs.declared.outcome.Outcome.{Outcome}
use Rattle.tool_load.specs.declared.fault.Fault.{Fault}
use Rattle.tool_load.specs.declared.fault.Fault.TheVariants.{Late}
use Rattle.tool_load.specs.Outcomes.{saturated, time_of, longest}

-- saturating a part of a sum first does not change the saturated sum
pub saturated_more : (a b : ℕ) → saturated (saturated a + b) ≡ saturated (a + b)
saturated_more a b = omega arith

-- the same of a sum that wraps
pub wrapped_more : (a b : ℕ) → (a % 2 ^ 64 + b) % 2 ^ 64 ≡ (a + b) % 2 ^ 64
wrapped_more a b = omega arith

-- the count with one more outcome
pub count_more : (f : Result Outcome Fault → ℕ) (outcomes : List (Result Outcome Fault)) (i : ℕ)
    (d : Result Outcome Fault) (count next : ℕ) → i < length outcomes → count
    ≡ saturated (sum_by f (take i outcomes)) → next ≡ saturated (count + f (get_or outcomes i d))
    → next ≡ saturated (sum_by f (take (i + 1) outcomes))
count_more f outcomes i d count next within is more =
    more ∙ ap (λ n. saturated (n + f (get_or outcomes i d))) is
    ∙ saturated_more (sum_by f (take i outcomes)) (f (get_or outcomes i d))
    ∙ ap saturated (sym (sum_by_more f outcomes i d within))

-- the sum with one more outcome
pub sum_more : (f : Result Outcome Fault → ℕ) (outcomes : List (Result Outcome Fault)) (i : ℕ)
    (d : Result Outcome Fault) (sum next : ℕ) → i < length outcomes → sum ≡ sum_by f (take i outcomes) % 2 ^ 64
    → next ≡ (sum + f (get_or outcomes i d)) % 2 ^ 64 → next ≡ sum_by f (take (i + 1) outcomes) % 2 ^ 64
sum_more f outcomes i d sum next within is more =
    more ∙ ap (λ n. (n + f (get_or outcomes i d)) % 2 ^ 64) is
    ∙ wrapped_more (sum_by f (take i outcomes)) (f (get_or outcomes i d))
    ∙ ap (λ n. n % 2 ^ 64) (sym (sum_by_more f outcomes i d within))

-- the time with one more outcome
pub time_more : (outcomes : List (Result Outcome Fault)) (i : ℕ) (d : Result Outcome Fault) (time next : ℕ)
    → i < length outcomes → time ≡ longest (take i outcomes) → next ≡ max time (time_of (get_or outcomes i d))
    → next ≡ longest (take (i + 1) outcomes)
time_more outcomes i d time next within is more =
    more ∙ ap (λ n. max n (time_of (get_or outcomes i d))) is
    ∙ sym (fold_more (λ time outcome. max time (time_of outcome)) 0 outcomes i d within)

-- the same, if the outcome's part is known
pub count_next : (f : Result Outcome Fault → ℕ) (outcomes : List (Result Outcome Fault)) (i : ℕ)
    (d : Result Outcome Fault) (count next part : ℕ) → i < length outcomes → count
    ≡ saturated (sum_by f (take i outcomes)) → f (get_or outcomes i d) ≡ part → next ≡ saturated (count + part)
    → next ≡ saturated (sum_by f (take (i + 1) outcomes))
count_next f outcomes i d count next part within is known more =
    count_more f outcomes i d count next within is (more ∙ ap (λ n. saturated (count + n)) (sym known))

pub sum_next : (f : Result Outcome Fault → ℕ) (outcomes : List (Result Outcome Fault)) (i : ℕ)
    (d : Result Outcome Fault) (sum next part : ℕ) → i < length outcomes → sum ≡ sum_by f (take i outcomes) % 2 ^ 64
    → f (get_or outcomes i d) ≡ part → next ≡ (sum + part) % 2 ^ 64
    → next ≡ sum_by f (take (i + 1) outcomes) % 2 ^ 64
sum_next f outcomes i d sum next part within is known more =
    sum_more f outcomes i d sum next within is (more ∙ ap (λ n. (sum + n) % 2 ^ 64) (sym known))

pub time_next : (outcomes : List (Result Outcome Fault)) (i : ℕ) (d : Result Outcome Fault) (time next part : ℕ)
    → i < length outcomes → time ≡ longest (take i outcomes) → time_of (get_or outcomes i d) ≡ part
    → next ≡ max time part → next ≡ longest (take (i + 1) outcomes)
time_next outcomes i d time next part within is known more =
    time_more outcomes i d time next within is (more ∙ ap (λ n. max time n) (sym known))

-- an outcome that is `Ok` is no fault
pub no_fault : (outcomes : List (Result Outcome Fault)) (i : ℕ) (d : Result Outcome Fault) (outcome : Outcome)
    (fault : Fault) → i < length outcomes → get_or outcomes i d ≡ Ok outcome
    → slice_get outcomes i ≡ Some (Err fault) → ⊥
no_fault outcomes i d outcome fault within is got =
    let there = slice_get-get_or outcomes i d within in
    let both : Some (Ok outcome) ≡ Some (Err fault) = sym (there ∙ ap Some is) ∙ got in
    cc

pub one_fault : (outcomes : List (Result Outcome Fault)) (i : ℕ) (d : Result Outcome Fault) (one other : Fault)
    → i < length outcomes → get_or outcomes i d ≡ Err one → slice_get outcomes i ≡ Some (Err other) → other ≡ one
one_fault outcomes i d one other within is got =
    let there = slice_get-get_or outcomes i d within in
    let both : Some (Err one) ≡ Some (Err other) = sym (there ∙ ap Some is) ∙ got in
    cc

-- if all faults so far are `Late`, they are so with one more outcome, if that is no other fault
pub met_more : (outcomes : List (Result Outcome Fault)) (i : ℕ) (late next : Bool)
    → ((k : ℕ) (fault : Fault) → k < i → slice_get outcomes k ≡ Some (Err fault) → (fault ≡ Late) × (late ≡ true))
    → (late ≡ true → next ≡ true)
    → ((fault : Fault) → slice_get outcomes i ≡ Some (Err fault) → (fault ≡ Late) × (next ≡ true))
    → (k : ℕ) (fault : Fault) → k < i + 1 → slice_get outcomes k ≡ Some (Err fault) → (fault ≡ Late) × (next ≡ true)
met_more outcomes i late next met keeps here k fault below got =
    below_more (λ j. (f : Fault) → slice_get outcomes j ≡ Some (Err f) → (f ≡ Late) × (next ≡ true)) i
    (λ j less f is. let m = met j f less is in (m.0, keeps m.1)) here k below fault got
