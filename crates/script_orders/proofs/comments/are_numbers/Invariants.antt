use Rattle.std.proofs.Common.{◌≡◌, drop, map}
use Rattle.std.specs.List.{list_all}
use Rattle.script_orders.specs.Comments.{is_number}
use Rattle.script_orders.proofs.comments.are_numbers.Given as goal

abbrev pub invariant-loop-word : goal.invariant-loop-word
invariant-loop-word l = list_all is_number (map (λ w. w.now) (drop l.word-index l.words))
    ≡ list_all is_number (map (λ w. w.now) l.words)
