use Rattle.std.proofs.Common.{◌+◌, ◌∷◌, [], ap, ◌∙◌}
use Rattle.sh_queue.specs.Numbers.{put_before}
use Rattle.sh_queue.specs.Chain.{ChainNumbers}
use Rattle.sh_queue.proofs.Marks.{has_number-mark}
use Rattle.sh_queue.proofs.Filings.{leaves_filed}
use Rattle.sh_queue.proofs.filing.Filing.file.Goals as goal

pub put_before-requires-clause-here : goal.put_before-requires-clause-here
put_before-requires-clause-here c =
    has_number-mark c.mark_of.result c.self.inside.chain.numbers c.self.invariant.kept.marked c.mark_of.ensures.few

pub invariant_of-self : goal.invariant_of-self
invariant_of-self c =
    let f = c.self.inside in
    (leaves_filed f.chain.numbers c.put_before.new.self.numbers f.chain.size c.put_before.new.self.size f.filed
    f.unopened f.full.items c.args.class c.args.self.now c.self.view_is c.self.invariant c.requires.inside
    c.requires.class
    (ap (λ (v : ChainNumbers). v.numbers) c.put_before.ensures.put
    ∙ ap (λ m. put_before m ((11 + f.filed) ∷ []) f.chain.numbers) c.mark_of.ensures.is)
    c.put_before.ensures.distinct (ap (λ (v : ChainNumbers). v.size) c.put_before.ensures.put)).kept

pub returns : goal.returns
returns c =
    let f = c.self.inside in
    (leaves_filed f.chain.numbers c.put_before.new.self.numbers f.chain.size c.put_before.new.self.size f.filed
    f.unopened f.full.items c.args.class c.args.self.now c.self.view_is c.self.invariant c.requires.inside
    c.requires.class
    (ap (λ (v : ChainNumbers). v.numbers) c.put_before.ensures.put
    ∙ ap (λ m. put_before m ((11 + f.filed) ∷ []) f.chain.numbers) c.mark_of.ensures.is)
    c.put_before.ensures.distinct (ap (λ (v : ChainNumbers). v.size) c.put_before.ensures.put)).shows
