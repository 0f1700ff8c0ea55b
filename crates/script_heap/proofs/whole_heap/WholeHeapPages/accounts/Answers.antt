use Rattle.std.proofs.Common.{◌≡◌, ◌∙◌, ap, subst}
use Rattle.sh_pass.specs.Passes.{Caller}
use Rattle.sh_gather.specs.Gathering.{NotedMore}
use Rattle.script_heap.proofs.WholeLemmas.{later_whole}
use Rattle.script_heap.proofs.whole_heap.WholeHeapPages.accounts.Goals as goal

pub returns-clause-later : goal.returns-clause-later
returns-clause-later g c =
    let v : Caller = c.args.self.now in
    let w : Caller = c.accounts.new.self in
    let same : c.self.inside.whole ≡ v = c.self.view_is in
    later_whole g.L.KeyLayout.layout v w (c.accounts.ensures.heap ∙ ap (λ (u : Caller). u.heap) same)
    (subst (λ (u : Caller). NotedMore u.view w.view) same c.accounts.ensures.tale)
