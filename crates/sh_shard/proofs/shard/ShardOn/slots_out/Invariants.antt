use Rattle.std.proofs.Common.{◌≡◌, ◌≤◌, ◌*◌}
use Rattle.sh_shard.specs.Pages.{page_at, sum_below, page_out}
use Rattle.sh_shard.proofs.shard.ShardOn.slots_out.Given as goal

-- the sum over the pages so far, each of which has at most 48 slots
abbrev pub invariant-loop-page : goal.invariant-loop-page
invariant-loop-page g l = (l.out ≡ sum_below (λ p. page_out (page_at l.self.pages p)) l.page)
    × ((l.out ≤ 48 * l.page) × (l.page-end ≡ l.self.pages.count))
