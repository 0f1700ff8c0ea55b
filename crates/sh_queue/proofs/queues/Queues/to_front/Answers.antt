use Rattle.std.proofs.Common.{◌+◌, arith, ap, ◌∙◌}
use Rattle.sh_queue.specs.Numbers.{put_after}
use Rattle.sh_queue.specs.Chain.{ChainNumbers}
use Rattle.sh_queue.proofs.Moves.{mark_is_there, kept_in_front, leaves_front}
use Rattle.sh_queue.proofs.queues.Queues.to_front.Goals as goal

pub put_after-requires-clause-here : goal.put_after-requires-clause-here
put_after-requires-clause-here c =
    let q = c.self.inside in
    mark_is_there q.chain.numbers c.unlink.new.self.numbers c.args.page q.chain.size q.opened q.unopened q.full.items
    c.self.invariant
    (ap (λ (v : ChainNumbers). v.numbers) c.unlink.ensures.out) _ (omega arith)

pub invariant_of-self : goal.invariant_of-self
invariant_of-self c =
    let q = c.self.inside in
    kept_in_front q.chain.numbers c.unlink.new.self.numbers c.put_after.new.self.numbers c.args.page q.chain.size
    c.put_after.new.self.size q.opened q.unopened
    q.full.items c.args.self.now c.self.view_is c.self.invariant c.requires.opened
    (ap (λ (v : ChainNumbers). v.numbers) c.unlink.ensures.out)
    c.put_after.ensures.distinct (ap (λ (v : ChainNumbers). v.size) c.put_after.ensures.put
    ∙ ap (λ (v : ChainNumbers). v.size) c.unlink.ensures.out) _
    (ap (λ (v : ChainNumbers). v.numbers) c.put_after.ensures.put) (omega arith)

pub returns : goal.returns
returns c =
    let q = c.self.inside in
    let w = q.chain.numbers in
    (leaves_front w c.put_after.new.self.numbers c.args.c c.args.page q.chain.size c.put_after.new.self.size q.opened
    q.unopened q.full.items c.args.self.now c.self.view_is c.self.invariant c.requires.class c.requires.opened
    (ap (λ (v : ChainNumbers). v.numbers) c.put_after.ensures.put ∙ ap
    (λ (v : ChainNumbers). put_after c.args.c (11 + c.args.page) v.numbers) c.unlink.ensures.out)
    c.put_after.ensures.distinct
    (ap (λ (v : ChainNumbers). v.size) c.put_after.ensures.put ∙ ap (λ (v : ChainNumbers). v.size)
    c.unlink.ensures.out)).shows
