use Rattle.std.proofs.Common.{◌≡◌, ◌+◌, [], length, take}
use Rattle.sh_slots.specs.declared.hand.Sight.TheVariants.{Measured}
use Rattle.sh_table.specs.declared.view.View.{View}
use Rattle.sh_table.specs.Seats.{IsSeat}
use Rattle.sh_pass.specs.Looking.{IsLooking}
use Rattle.sh_pass.proofs.looking.look_at_words.Given as goal

abbrev pub invariant-loop-i : goal.invariant-loop-i
invariant-loop-i g l = IsSeat g.L.KeyLayout.layout l.table l.seat
    × ((v : View) → IsLooking l.key l.name (Measured l.class_word l.count []) 3 v l.fn.seat.me.0
    → IsLooking l.key l.name (Measured l.class_word l.count (take l.i l.words)) (3 + l.i) v l.seat.me.0)
    × (length l.words ≡ 16)
