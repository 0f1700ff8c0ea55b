use Rattle.std.proofs.Common.{◌≡◌, ◌∙◌, subst}
use Rattle.sh_pass.specs.Bundles.{bundle_by, bundled}
use Rattle.sh_table.specs.Together.{LeadsTogether}
use Rattle.sh_pass.specs.Passes.{Caller}
use Rattle.sh_shard.specs.Shards.{Sharded}
use Rattle.sh_quiet.proofs.leaving.leave_last.Goals as goal

pub unreachable-requires : goal.unreachable-requires
unreachable-requires g c =
    let n : Sharded = c.in-Err.waiting in
    let is : c.bind.new.bundle ≡ bundled (bundle_by n.pages.owner) n.pages.owner = c.bind.ensures.binds
    ∙ (λ i. bundled (c.bundle-bundle.ensures.opens i) (c.bundle-bundle.ensures.same i).pages.owner) in
    c.leaves_never_wait.ensures g.L.KeyLayout.layout c.args.shard n c.requires.last c.requires.holds
    c.in-Err.ensures.holds c.in-Err.ensures.serves.1
    (subst (λ (b : Caller). LeadsTogether g.L.KeyLayout.layout b.view) is c.bind.ensures.leads)
