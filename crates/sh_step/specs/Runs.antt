-- Own slots as they are kept: in runs, each of some slots of one page.
use Rattle.std.specs.Prelude.{ℕ, zero, suc, ◌+◌, ◌/◌, ◌%◌, ◌==◌, Bool, cond, List, [], ◌∷◌, ◌++◌}
use Rattle.sh_slots.specs.declared.hand.SlotRef.{SlotRef}
use Rattle.sh_step.specs.declared.part.run.Run.{Run}

-- the last binary digit is 1
abbrev pub odd : ℕ → Bool
odd b = b % 2 == 1

-- of the n slots of page q from slot s on, those whose binary digit of b is 1; the last digit is that of slot s
unfoldable pub picked : (q s n b : ℕ) → List SlotRef
picked q s zero b = []
picked q s (suc n) b = cond (odd b) (record { page = q; slot = s } ∷ picked q (s + 1) n (b / 2))
    (picked q (s + 1) n (b / 2))

-- the slots of a run, in rising order
abbrev pub slots_of : Run → List SlotRef
slots_of r = picked r.page r.first 64 r.bits

-- the slots of all runs
unfoldable pub slots_in : List Run → List SlotRef
slots_in [] = []
slots_in (r ∷ rs) = slots_of r ++ slots_in rs
