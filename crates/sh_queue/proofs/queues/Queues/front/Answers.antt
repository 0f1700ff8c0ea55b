use Rattle.std.proofs.Common.{◌<◌, arith, sym, ap, ◌∙◌, subst}
use Rattle.std.specs.Prelude.{slice_get, IfSome}
use Rattle.sh_queue.specs.Queues.{PageQueues, class_queue}
use Rattle.sh_queue.proofs.Marks.{has_number-mark}
use Rattle.sh_queue.proofs.Moves.{class_is}
use Rattle.sh_queue.proofs.Fronts.{front_of}
use Rattle.sh_queue.proofs.queues.Queues.front.Goals as goal

pub following-requires-clause-here : goal.following-requires-clause-here
following-requires-clause-here c = has_number-mark _ c.self.inside.chain.numbers c.self.invariant.marked (omega arith)

pub returns-clause-front : goal.returns-clause-front
returns-clause-front c =
    let q = c.self.inside in
    let w = q.chain.numbers in
    (front_of w c.args.c c.following.result q.chain.size q.opened q.unopened q.full.items c.page_of.result
    c.self.invariant c.following.ensures c.page_of.ensures).is
    ∙ ap (λ xs. slice_get xs 0) (sym (class_is c.args.c w c.requires))
    ∙ ap (λ (v : PageQueues). slice_get (class_queue v c.args.c) 0) c.self.view_is

pub returns-clause-opened : goal.returns-clause-opened
returns-clause-opened c =
    let q = c.self.inside in
    let w = q.chain.numbers in
    let P : PageQueues → Type 0 = λ v. IfSome c.page_of.result (λ page. page < v.opened) in
    let front = front_of w c.args.c c.following.result q.chain.size q.opened q.unopened q.full.items c.page_of.result
    c.self.invariant c.following.ensures c.page_of.ensures in
    subst P c.self.view_is front.is_opened
