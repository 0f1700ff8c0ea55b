use Rattle.std.proofs.Common.{subst}
use Rattle.sh_shard.specs.Pages.{BlankHasNothing}
use Rattle.sh_shard.proofs.Keeping.{blank_nothing}
use Rattle.sh_shard.proofs.pages.PagesOn.blank_pages.Goals as goal

pub returns : goal.returns
returns g c = subst BlankHasNothing c.self.view_is (λ p l is. blank_nothing p c.self.invariant l is)
