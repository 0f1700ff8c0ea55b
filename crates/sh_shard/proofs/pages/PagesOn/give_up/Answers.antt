use Rattle.std.proofs.Common.{ℕ, ◌<◌, sym, subst}
use Rattle.sh_pass.specs.Owners.{HasNothing}
use Rattle.sh_shard.specs.Pages.{Paged, page_at}
use Rattle.sh_shard.proofs.Keeping.{nothing_left}
use Rattle.sh_shard.proofs.pages.PagesOn.give_up.Goals as goal

pub leave-requires-clause-pages : goal.leave-requires-clause-pages
leave-requires-clause-pages g c = nothing_left c.self.invariant
    (subst (λ (z : Paged). (p : ℕ) → p < z.count → HasNothing (page_at z p)) (sym c.self.view_is) c.requires.pages)
