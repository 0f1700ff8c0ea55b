use Rattle.std.proofs.Common.{◌≡◌, ◌*◌, ◌∙◌, subst}
use Rattle.sh_shard.specs.Pages.{Paged}
use Rattle.sh_shard.specs.Places.{place_count}
use Rattle.sh_shard.proofs.pages.PagesOn.places.Goals as goal

pub returns : goal.returns
returns g c =
    let pages = c.len.ensures ∙ c.self.invariant.few in
    let each = c.from.ensures in
    subst (λ (z : Paged). c.len.result * c.from.result ≡ place_count z) c.self.view_is (λ i. pages i * each i)
