use Rattle.std.proofs.Common.{◌≡◌, ◌-◌}
use Rattle.sh_slots.specs.Slots.{same_slot, slot_refs}
use Rattle.sh_step.specs.Collections.{has, every}
use Rattle.sh_step.specs.Runs.{slots_in}
use Rattle.sh_step.proofs.part.runs.has_slots.Given as goal

-- the result depends on the slots from here on
abbrev pub invariant-loop-slot : goal.invariant-loop-slot
invariant-loop-slot l =
    every (λ x. has (same_slot x) (slots_in l.runs.items)) (slot_refs l.page 0 l.count)
    ≡ every (λ x. has (same_slot x) (slots_in l.runs.items)) (slot_refs l.page l.slot (l.count - l.slot))
