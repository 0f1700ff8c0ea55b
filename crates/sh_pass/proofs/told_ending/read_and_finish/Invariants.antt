use Rattle.std.proofs.Common.{◌≡◌, ◌+◌, length, take}
use Rattle.sh_slots.specs.declared.hand.Sight.TheVariants.{Measured}
use Rattle.sh_table.specs.Seats.{IsSeat}
use Rattle.sh_pass.specs.Telling.{IsEnding}
use Rattle.sh_pass.proofs.told_ending.read_and_finish.Given as goal

abbrev pub invariant-loop-i : goal.invariant-loop-i
invariant-loop-i g l = IsSeat g.L.KeyLayout.layout l.table l.seat
    × IsEnding g.L.KeyLayout.layout l.slot_ref l.generation (Measured l.class_word l.count (take l.i l.words)) (2 + l.i)
    l.fn.seat.me.0 l.seat.me.0
    × (length l.words ≡ 16)
