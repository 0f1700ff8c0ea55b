use Rattle.std.proofs.Common.{◌+◌, ◌∷◌, [], arith, ap, ◌∙◌}
use Rattle.sh_queue.specs.Numbers.{has_number, put_before}
use Rattle.sh_queue.specs.Chain.{ChainNumbers}
use Rattle.sh_queue.proofs.Moves.{mark_stays, leaves_full}
use Rattle.sh_queue.proofs.queues.Queues.to_full.Goals as goal

pub put_before-requires-clause-here : goal.put_before-requires-clause-here
put_before-requires-clause-here c =
    let q = c.self.inside in
    let w = q.chain.numbers in
    ap (λ (v : ChainNumbers). has_number _ v.numbers) c.unlink.ensures.out
    ∙ mark_stays w _ c.args.page q.chain.size q.opened q.unopened q.full.items c.self.invariant (omega arith)

pub invariant_of-self : goal.invariant_of-self
invariant_of-self c =
    let q = c.self.inside in
    let w = q.chain.numbers in
    (leaves_full w c.put_before.new.self.numbers c.args.page q.chain.size c.put_before.new.self.size q.opened q.unopened
    q.full.items c.args.self.now c.self.view_is c.self.invariant c.requires
    (ap (λ (v : ChainNumbers). v.numbers) c.put_before.ensures.put
    ∙ ap (λ (v : ChainNumbers). put_before 9 ((11 + c.args.page) ∷ []) v.numbers) c.unlink.ensures.out)
    c.put_before.ensures.distinct
    (ap (λ (v : ChainNumbers). v.size) c.put_before.ensures.put ∙ ap (λ (v : ChainNumbers). v.size)
    c.unlink.ensures.out)).kept

pub returns : goal.returns
returns c =
    let q = c.self.inside in
    let w = q.chain.numbers in
    (leaves_full w c.put_before.new.self.numbers c.args.page q.chain.size c.put_before.new.self.size q.opened q.unopened
    q.full.items c.args.self.now c.self.view_is c.self.invariant c.requires
    (ap (λ (v : ChainNumbers). v.numbers) c.put_before.ensures.put
    ∙ ap (λ (v : ChainNumbers). put_before 9 ((11 + c.args.page) ∷ []) v.numbers) c.unlink.ensures.out)
    c.put_before.ensures.distinct
    (ap (λ (v : ChainNumbers). v.size) c.put_before.ensures.put ∙ ap (λ (v : ChainNumbers). v.size)
    c.unlink.ensures.out)).shows
