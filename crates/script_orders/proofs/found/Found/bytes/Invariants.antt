use Rattle.std.proofs.Common.{◌≡◌, ◌+◌, ◌*◌, length, take}
use Rattle.std.specs.List.{sum_by}
use Rattle.std.specs.Prelude.{vec_items}
use Rattle.script_orders.specs.Bytes.{counted}
use Rattle.script_orders.proofs.found.Found.bytes.Given as goal

abbrev pub invariant-loop-lines : goal.invariant-loop-lines
invariant-loop-lines l = l.bytes ≡ counted (192 + 12 * length l.self.witness.items + length l.self.pages.items
    + sum_by (λ lines. length (vec_items lines) + 40) (take l.lines-index l.self.replies.items))
