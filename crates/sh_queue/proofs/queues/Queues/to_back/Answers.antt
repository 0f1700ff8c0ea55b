use Rattle.std.proofs.Common.{◌+◌, ◌∷◌, [], arith, ap, ◌∙◌}
use Rattle.sh_queue.specs.Numbers.{put_before}
use Rattle.sh_queue.specs.Chain.{ChainNumbers}
use Rattle.sh_queue.proofs.Moves.{mark_is_there, kept_in_back, leaves_back}
use Rattle.sh_queue.proofs.queues.Queues.to_back.Goals as goal

pub put_before-requires-clause-here : goal.put_before-requires-clause-here
put_before-requires-clause-here c =
    let q = c.self.inside in
    mark_is_there q.chain.numbers c.unlink.new.self.numbers c.args.page q.chain.size q.opened q.unopened q.full.items
    c.self.invariant
    (ap (λ (v : ChainNumbers). v.numbers) c.unlink.ensures.out) _ (omega arith)

pub invariant_of-self : goal.invariant_of-self
invariant_of-self c =
    let q = c.self.inside in
    kept_in_back q.chain.numbers c.unlink.new.self.numbers c.put_before.new.self.numbers c.args.page q.chain.size
    c.put_before.new.self.size q.opened q.unopened
    q.full.items c.args.self.now c.self.view_is c.self.invariant c.requires.opened
    (ap (λ (v : ChainNumbers). v.numbers) c.unlink.ensures.out)
    c.put_before.ensures.distinct (ap (λ (v : ChainNumbers). v.size) c.put_before.ensures.put
    ∙ ap (λ (v : ChainNumbers). v.size) c.unlink.ensures.out) _
    (ap (λ (v : ChainNumbers). v.numbers) c.put_before.ensures.put) (omega arith)

pub returns : goal.returns
returns c =
    let q = c.self.inside in
    let w = q.chain.numbers in
    (leaves_back w c.put_before.new.self.numbers c.args.c c.args.page q.chain.size c.put_before.new.self.size q.opened
    q.unopened q.full.items c.args.self.now c.self.view_is c.self.invariant c.requires.class c.requires.opened
    (ap (λ (v : ChainNumbers). v.numbers) c.put_before.ensures.put
    ∙ ap (λ (v : ChainNumbers). put_before (c.args.c + 1) ((11 + c.args.page) ∷ []) v.numbers) c.unlink.ensures.out)
    c.put_before.ensures.distinct
    (ap (λ (v : ChainNumbers). v.size) c.put_before.ensures.put ∙ ap (λ (v : ChainNumbers). v.size)
    c.unlink.ensures.out)).shows
