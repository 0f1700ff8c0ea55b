-- The outcomes of threads: the sums of their counts, and the longest of their times.
use Rattle.std.specs.Prelude.{◌≡◌, ◌≢◌, ℕ, ◌+◌, ◌-◌, ◌%◌, ◌^◌, ◌<◌, min, max, List, length, fold, sum_by, Some}
use Rattle.std.specs.Prelude.{slice_get, Contains, Result, Ok, Err}
use Rattle.tool_load.specs.declared.outcome.Outcome.{Outcome}
use Rattle.tool_load.specs.declared.fault.Fault.{Fault}
use Rattle.tool_load.specs.declared.fault.Fault.TheVariants.{Late}

-- the number, or the greatest number of 64 bits if it is above that
abbrev pub saturated : ℕ → ℕ
saturated n = min n (2 ^ 64 - 1)

-- the counts of both are the sums of the counts of one and of the other
pub record CountsBoth (one other both : Outcome) : Type 0 where
  pub operations : both.operations ≡ saturated (one.operations + other.operations)
  pub sum : both.sum ≡ (one.sum + other.sum) % 2 ^ 64
  pub standing : both.standing ≡ saturated (one.standing + other.standing)

-- the number of operations of a thread, which is 0 if it met a fault; the other counts below likewise
abbrev pub operations_of : Result Outcome Fault → ℕ
operations_of (Ok outcome) = outcome.operations
operations_of (Err fault) = 0

abbrev pub answered_of : Result Outcome Fault → ℕ
answered_of (Ok outcome) = outcome.sum
answered_of (Err fault) = 0

abbrev pub standing_of : Result Outcome Fault → ℕ
standing_of (Ok outcome) = outcome.standing
standing_of (Err fault) = 0

abbrev pub time_of : Result Outcome Fault → ℕ
time_of (Ok outcome) = outcome.nanoseconds
time_of (Err fault) = 0

-- the longest time of a thread
abbrev pub longest : List (Result Outcome Fault) → ℕ
longest outcomes = fold (λ time outcome. max time (time_of outcome)) 0 outcomes

-- no thread met a fault, each count is the sum of the threads' counts, and the time is the longest
pub record AllTogether (outcomes : List (Result Outcome Fault)) (all : Outcome) : Type 0 where
  pub faultless : (k : ℕ) (fault : Fault) → k < length outcomes → slice_get outcomes k ≢ Some (Err fault)
  pub operations : all.operations ≡ saturated (sum_by operations_of outcomes)
  pub sum : all.sum ≡ sum_by answered_of outcomes % 2 ^ 64
  pub standing : all.standing ≡ saturated (sum_by standing_of outcomes)
  pub time : all.nanoseconds ≡ longest outcomes

-- a thread met the fault; if it is `Late`, no thread met another fault
pub record TellsOf (outcomes : List (Result Outcome Fault)) (fault : Fault) : Type 0 where
  pub met : Contains outcomes (Err fault)
  pub alone : fault ≡ Late
      → (k : ℕ) (other : Fault) → k < length outcomes → slice_get outcomes k ≡ Some (Err other) → other ≡ Late
