-- How many bytes are counted of what a walk keeps.
use Rattle.std.specs.Prelude.{ℕ, ◌+◌, ◌-◌, ◌*◌, ◌^◌, ◌==◌, nat_lt, cond, min, Option, Some, None, length, vec_items}
use Rattle.std.specs.List.{sum_by}
use Rattle.std.specs.Rc.{rc_value}
use Rattle.script_orders.specs.declared.found.Found.{Found}
use Rattle.script_orders.specs.declared.found.Limit.{Limit}
use Rattle.script_orders.specs.declared.found.Limit.TheVariants as limit
use Rattle.script_orders.specs.declared.room.Room.{Room}
use Rattle.script_orders.specs.declared.state.State.{State}
use Rattle.script_orders.specs.Lanes.{Did, did}

-- a count stops at the greatest number of its bits
abbrev pub counted : ℕ → ℕ
counted n = min n (2 ^ 64 - 1)

-- nothing of a pass that did nothing, since all states share that
abbrev pub lane_bytes : Did → ℕ
lane_bytes d = cond (length d.story == 0) 0 (16 * length d.story + length d.replies + 120)

-- what it shares with other states is counted too
abbrev pub state_bytes : State → ℕ
state_bytes s = 256 + 12 * length s.order.items + 16 * length s.changes.items
    + sum_by (λ lane. lane_bytes (did (rc_value lane)) + 8) s.lanes.items

abbrev pub found_bytes : Found → ℕ
found_bytes f = 192 + 12 * length f.witness.items + length f.pages.items
    + sum_by (λ lines. length (vec_items lines) + 40) f.replies.items

-- the limit that so many states and bytes pass
abbrev pub limit_passed : Room → (states bytes : ℕ) → Option Limit
limit_passed room states bytes = cond (nat_lt room.states states) (Some limit.States)
    (cond (nat_lt room.bytes (counted bytes)) (Some limit.Bytes) None)
