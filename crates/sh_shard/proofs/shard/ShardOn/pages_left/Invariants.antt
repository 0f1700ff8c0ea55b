use Rattle.std.proofs.Common.{◌≡◌, ◌≤◌, ◌==◌}
use Rattle.sh_shard.specs.Pages.{page_at, count_below, seen_class}
use Rattle.sh_shard.proofs.shard.ShardOn.pages_left.Given as goal

-- the number of pages so far that have no class
abbrev pub invariant-loop-page : goal.invariant-loop-page
invariant-loop-page g l = (l.left ≡ count_below (λ p. seen_class (page_at l.self.pages p) == 0) l.page)
    × ((l.left ≤ l.page) × (l.page-end ≡ l.self.pages.count))
