use Rattle.std.proofs.Common.{◌≡◌, drop}
use Rattle.script_orders.specs.Changes.{word_in}
use Rattle.script_orders.proofs.changes.word_of.Given as goal

abbrev pub invariant-loop-change : goal.invariant-loop-change
invariant-loop-change l = word_in l.changes l.number l.was ≡ word_in (drop l.change-index l.changes) l.number l.was
