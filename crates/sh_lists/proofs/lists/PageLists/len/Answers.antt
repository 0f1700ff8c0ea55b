use Rattle.sh_lists.proofs.Walks.{counts}
use Rattle.sh_lists.proofs.lists.PageLists.len.Goals as goal

pub returns-clause-both : goal.returns-clause-both
returns-clause-both c =
    let p = c.self.inside in
    counts p.next p.free.front p.free.count p.local.front p.local.count p.cursor c.args.self.now c.self.view_is
