use Rattle.std.proofs.Common.{ℕ, ◌≡◌, ◌<◌, get_or, false, take}
use Rattle.sh_slots.specs.Slots.{same_slot}
use Rattle.sh_step.specs.Collections.{has}
use Rattle.sh_step.specs.Runs.{slots_in}
use Rattle.sh_step.proofs.part.runs.slots_seen.Given as goal

-- the slots of the page in the first runs are seen
abbrev pub invariant-loop-i : goal.invariant-loop-i
invariant-loop-i l = (slot : ℕ) → slot < 48 → get_or l.seen slot false
    ≡ has (same_slot (record { page = l.page; slot = slot })) (slots_in (take l.i l.runs.items))
