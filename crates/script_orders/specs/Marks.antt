-- A number that states with the same stories share.
use Rattle.std.specs.Prelude.{ℕ, ◌*◌, ◌%◌, ◌^◌, length, bit_xor}
use Rattle.std.specs.List.{fold}
use Rattle.script_orders.specs.declared.lane.Step.{Step}
use Rattle.script_orders.specs.declared.state.State.{State}
use Rattle.script_orders.specs.Lanes.{Did}
use Rattle.script_orders.specs.Reached.{lanes_of}

-- a number is mixed into a mark (FNV-1a)
unfoldable pub mixed : (mark number : ℕ) → ℕ
mixed mark number = (bit_xor mark number * 0x100_0000_01b3) % 2 ^ 64

abbrev pub with_step : (mark : ℕ) → Step → ℕ
with_step mark step = mixed (mixed mark step.line) step.seen

abbrev pub with_lane : (mark : ℕ) → Did → ℕ
with_lane mark d = mixed (fold with_step mark d.story) (length d.story)

-- the steps of all passes, and how many there are of each
abbrev pub mark_of : State → ℕ
mark_of s = fold with_lane 0xcbf2_9ce4_8422_2325 (lanes_of s)
