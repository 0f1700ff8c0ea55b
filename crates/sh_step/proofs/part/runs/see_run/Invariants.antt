use Rattle.std.proofs.Common.{ℕ, ◌≡◌, ◌<◌, ◌||◌, ◌&&◌, get_or, false}
use Rattle.std.specs.Prelude.{nat_lt}
use Rattle.sh_slots.specs.Slots.{same_slot}
use Rattle.sh_step.specs.Collections.{has}
use Rattle.sh_step.specs.Runs.{slots_of}
use Rattle.sh_step.proofs.part.runs.see_run.Given as goal

-- the run's slots before this one are seen
abbrev pub invariant-loop-slot : goal.invariant-loop-slot
invariant-loop-slot l = (x : ℕ) → x < 48 → get_or l.seen x false
    ≡ (get_or l.initial.seen x false
    || (nat_lt x l.slot && has (same_slot (record { page = l.page; slot = x })) (slots_of l.run)))
