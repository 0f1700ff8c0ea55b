use Rattle.std.proofs.Common.{◌≡◌}
use Rattle.sh_shape.specs.Places.{all_pages}
use Rattle.sh_gather.specs.Gathering.{NotedMore}
use Rattle.sh_gather.specs.PageLists.{AreFirst}
use Rattle.sh_gather.proofs.accounts_by_page.all_accounts.Given as goal

-- the pages so far
abbrev pub invariant-loop-number : goal.invariant-loop-number
invariant-loop-number g l =
    (l.whole.heap ≡ l.fn.whole.heap) × NotedMore l.fn.whole.view l.whole.view
    × (l.number-end ≡ all_pages l.fn.whole.heap.shape)
    × AreFirst g.L.KeyLayout.layout l.fn.whole l.whole l.number l.all.items
