use Rattle.std.proofs.Common.{◌<◌, ◌≤◌, MatchOption, length, sym, subst}
use Rattle.sh_shard.specs.Pages.{Paged, page_at, WhollyMine, NoneWhollyMine}
use Rattle.sh_shard.proofs.Wholly.{tells_first}
use Rattle.sh_shard.proofs.pages.PagesOn.first_whole.Goals as goal

pub returns-clause-first : goal.returns-clause-first
returns-clause-first g c =
    let l : c.args.end ≤ length c.self.inside.states = subst (λ (z : Paged). c.args.end ≤ z.count)
    (sym c.self.view_is) c.requires in
    let P : Paged → Type 0 = λ z. MatchOption c.first_whole.result (NoneWhollyMine c.args.end z)
    (λ page. (page < c.args.end) × WhollyMine (page_at z page) × NoneWhollyMine page z) in
    subst P c.self.view_is (tells_first c.args.end c.first_whole.result c.self.invariant l c.first_whole.ensures.once
    c.first_whole.ensures.first)
