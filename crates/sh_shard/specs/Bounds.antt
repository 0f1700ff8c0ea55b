-- The number of steps that a call takes at most, whatever others do.
use Rattle.std.specs.Prelude.{ℕ, ◌+◌, ◌*◌, MatchResult, Result}
use Rattle.sh_shape.specs.Places.{pages_of}
use Rattle.sh_value.specs.declared.refusal.Refusal.{Refusal}
use Rattle.sh_pass.specs.Passes.{Caller}
use Rattle.sh_shard.specs.Shards.{Sharded}
use Rattle.sh_shard.specs.Steps.{StepsAtMost}

-- with n pages of the shard: an insert of a value of w words, an adopt, and a leave
abbrev pub insert_steps : (n w : ℕ) → ℕ
insert_steps n w = 9 * n + w + 53

abbrev pub adopt_steps : ℕ → ℕ
adopt_steps n = n + 2

abbrev pub leave_steps : ℕ → ℕ
leave_steps n = 148 * n + 4

-- an insert, whatever it returns
abbrev pub InsertIsBounded : ℕ → Sharded → Sharded → Type 0
InsertIsBounded w o n = StepsAtMost (insert_steps o.pages.count w) o.pages.owner n.pages.owner

-- a prepare takes one step, or none
abbrev pub PrepareIsBounded : Sharded → Sharded → Type 0
PrepareIsBounded o n = StepsAtMost 1 o.pages.owner n.pages.owner

-- an adopt, whether it returns the shard or the pass
abbrev pub AdoptIsBounded : Caller → Result Sharded (Caller × Refusal) → Type 0
AdoptIsBounded v r = MatchResult r
    (λ o. StepsAtMost (adopt_steps (pages_of v.view.shape)) v o.pages.owner)
    (λ e. StepsAtMost (adopt_steps (pages_of v.view.shape)) v e.0)

-- a leave, whether it returns the pass or the shard
abbrev pub LeaveIsBounded : Sharded → Result Caller (Sharded × Refusal) → Type 0
LeaveIsBounded o r = MatchResult r
    (λ v. StepsAtMost (leave_steps o.pages.count) o.pages.owner v)
    (λ e. StepsAtMost (leave_steps o.pages.count) o.pages.owner e.0.pages.owner)
