-- The duty to ring for an armed page: a unit that moves from the flag to a pass, to the bell, to the bell's chain.
use Rattle.std.specs.Prelude.{ℕ, ◌+◌, ◌%◌, ◌≡◌, ◌≤◌, ◌==◌, cond, List, Some, None}
use Rattle.sh_slots.specs.declared.hand.Hand.TheVariants.{Tying, Ringing}
use Rattle.sh_step.specs.Plans.{Plan, shard_of}
use Rattle.sh_step.specs.Collections.{total, if1}
use Rattle.sh_step.specs.declared.body.Body.{Body}
use Rattle.sh_core.specs.Lists.{PutLists, times}

abbrev pub rings : ℕ → Body → ℕ
rings q p = elim (p.hand) [ Tying y l r ↦ cond r (if1 (y.page == q)) 0 | Ringing k ↦ if1 (k == q) | _ ↦ 0 ]

abbrev pub armed_at : ℕ → Body → ℕ
armed_at q p = times q p.armed

abbrev pub owns : ℕ → Body → ℕ
owns n p = elim (p.owned) [ Some k ↦ if1 (k == n) | None ↦ 0 ]

-- the owner word counts the owners
abbrev pub Owned : (ℕ → ℕ) → List Body → Type 0
Owned owner ps = (n : ℕ) → (owner n ≡ total (owns n) ps) × (owner n ≤ 1)

abbrev pub Duty : Plan → (ℕ → ℕ) → List Body → PutLists → Type 0
Duty plan head ps l = (q : ℕ) → (total (armed_at q) ps ≡ head q % 2 + total (rings q) ps + times q
    (l.bells (shard_of plan q)) + times q (l.bell_chain (shard_of plan q))) × (total (armed_at q) ps ≤ 1)
