use Rattle.std.proofs.Common.{◌<◌, arith, sym, ap, ◌∙◌, subst}
use Rattle.std.specs.Prelude.{None, IfSome}
use Rattle.std.specs.List.{last_or}
use Rattle.sh_queue.specs.Queues.{PageQueues, class_queue}
use Rattle.sh_queue.proofs.Marks.{has_number-mark}
use Rattle.sh_queue.proofs.Moves.{class_is}
use Rattle.sh_queue.proofs.Fronts.{last_of}
use Rattle.sh_queue.proofs.queues.Queues.last.Goals as goal

pub preceding-requires-clause-here : goal.preceding-requires-clause-here
preceding-requires-clause-here c = has_number-mark _ c.self.inside.chain.numbers c.self.invariant.marked (omega arith)

pub returns-clause-last : goal.returns-clause-last
returns-clause-last c =
    let q = c.self.inside in
    let w = q.chain.numbers in
    (last_of w c.args.c c.preceding.result q.chain.size q.opened q.unopened q.full.items c.page_of.result
    c.self.invariant c.requires c.preceding.ensures c.page_of.ensures).is
    ∙ ap (last_or None) (sym (class_is c.args.c w c.requires))
    ∙ ap (λ (v : PageQueues). last_or None (class_queue v c.args.c)) c.self.view_is

pub returns-clause-opened : goal.returns-clause-opened
returns-clause-opened c =
    let q = c.self.inside in
    let w = q.chain.numbers in
    let P : PageQueues → Type 0 = λ v. IfSome c.page_of.result (λ page. page < v.opened) in
    let last = last_of w c.args.c c.preceding.result q.chain.size q.opened q.unopened q.full.items c.page_of.result
    c.self.invariant c.requires c.preceding.ensures c.page_of.ensures in
    subst P c.self.view_is last.is_opened
