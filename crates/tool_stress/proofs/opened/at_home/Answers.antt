use Rattle.std.proofs.Common.{◌≡◌, Some, sym, subst, rules}
use Rattle.std.specs.List.{All}
use Rattle.sh_pass.specs.Passes.{Caller}
use Rattle.tool_stress.proofs.Newcomers.{newcomers_at_home}
use Rattle.tool_stress.proofs.opened.at_home.Goals as goal

pub named-requires : goal.named-requires
named-requires g c =
    let home : g.H.Home.heap ≡ Some c.args.heap.now = search rules in
    subst (All (λ (p : Caller). g.H.Home.heap ≡ Some p.heap)) (sym c.in-Ok.ensures.all)
    (newcomers_at_home g.H.Home.heap c.args.heap.now c.args.heap.now.shape.passes home)
