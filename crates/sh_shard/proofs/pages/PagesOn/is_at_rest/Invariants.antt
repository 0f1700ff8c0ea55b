use Rattle.std.proofs.Common.{ℕ, ◌<◌}
use Rattle.sh_shard.specs.Leaving.{AtRest}
use Rattle.sh_shard.specs.Pages.{page_at}
use Rattle.sh_shard.proofs.pages.PagesOn.is_at_rest.Given as goal

abbrev pub invariant-loop-page : goal.invariant-loop-page
invariant-loop-page g l = (p : ℕ) → p < l.page → AtRest (page_at l.self p)
