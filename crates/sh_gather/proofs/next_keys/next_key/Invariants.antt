use Rattle.std.proofs.Common.{◌≡◌, ◌≤◌, ◌*◌}
use Rattle.sh_shape.specs.Places.{all_pages}
use Rattle.sh_gather.specs.Gathering.{NotedMore}
use Rattle.sh_gather.specs.NextKeys.{NoneLiveBetween}
use Rattle.sh_gather.proofs.next_keys.next_key.Given as goal

-- no place so far has a live key
abbrev pub invariant-loop-place : goal.invariant-loop-place
invariant-loop-place g l =
    (l.whole.heap ≡ l.fn.whole.heap) × NotedMore l.fn.whole.view l.whole.view
    × (l.end ≡ all_pages l.fn.whole.heap.shape * 48) × (l.fn.from ≤ l.place)
    × NoneLiveBetween g.L.KeyLayout.layout l.whole l.fn.from l.place
