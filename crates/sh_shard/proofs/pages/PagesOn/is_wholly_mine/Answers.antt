use Rattle.std.proofs.Common.{◌<◌, MatchBool, length, sym, subst}
use Rattle.sh_shard.specs.Pages.{Paged, page_at, WhollyMine}
use Rattle.sh_shard.proofs.Wholly.{tells_whole}
use Rattle.sh_shard.proofs.pages.PagesOn.is_wholly_mine.Goals as goal

pub returns : goal.returns
returns g c =
    let l : c.args.page < length c.self.inside.states = subst (λ (z : Paged). c.args.page < z.count)
    (sym c.self.view_is) c.requires in
    let P : Paged → Type 0 = λ z. MatchBool c.is_whole.result (WhollyMine (page_at z c.args.page))
    (¬ WhollyMine (page_at z c.args.page)) in
    subst P c.self.view_is (tells_whole c.args.page c.is_whole.result c.self.invariant l c.is_whole.ensures.once
    c.is_whole.ensures.whole)
