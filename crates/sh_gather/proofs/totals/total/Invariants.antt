use Rattle.std.proofs.Common.{◌≡◌, List}
use Rattle.std.specs.Prelude.{◌*◌}
use Rattle.sh_shape.specs.Places.{all_pages}
use Rattle.sh_gather.specs.Gathering.{NotedMore}
use Rattle.sh_gather.specs.declared.accounts_by_page.PageAccounts.{PageAccounts}
use Rattle.sh_gather.specs.PageLists.{AreFirst}
use Rattle.sh_gather.specs.Sums.{AtMost, sums}
use Rattle.sh_gather.proofs.totals.total.Given as goal

-- the sums over the pages so far, each of which has at most 48 slots
abbrev pub invariant-loop-number : goal.invariant-loop-number
invariant-loop-number g l =
    (l.whole.heap ≡ l.fn.whole.heap) × NotedMore l.fn.whole.view l.whole.view
    × (l.number-end ≡ all_pages l.fn.whole.heap.shape) × AtMost (48 * l.number) l.sums
    × ((pages : List PageAccounts) × AreFirst g.L.KeyLayout.layout l.fn.whole l.whole l.number pages
    × (l.sums ≡ sums pages))
