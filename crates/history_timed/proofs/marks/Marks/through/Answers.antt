use Rattle.std.proofs.Common.{rules}
use Rattle.history_timed.specs.Marks.{comes_up_to}
use Rattle.history_timed.specs.declared.marks.Mark.{Mark}
use Rattle.std.proofs.lemmas.List.Sorted.{IsPartitionPoint-from_clause}
use Rattle.history_timed.proofs.MarkLemmas.{through_in_front, counted_at}
use Rattle.history_timed.proofs.marks.Marks.through.Goals as goal

pub returns : goal.returns
returns c =
    let p = λ (m : Mark). comes_up_to m c.args.mark in
    let xs = c.self.inside.sorted.items in
    rw (← c.self.view_is) (counted_at p xs c.partition_point.result (search rules)
    (IsPartitionPoint-from_clause p xs c.partition_point.result (rw c.deref.ensures.value at c.partition_point.ensures.partitioned)
    (through_in_front xs c.self.invariant c.args.mark) (λ a r q k. search rules)))
