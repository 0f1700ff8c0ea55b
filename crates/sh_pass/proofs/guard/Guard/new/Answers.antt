use Rattle.std.proofs.Common.{◌∙◌}
use Rattle.sh_pass.proofs.HeldPlaces.{placed_by_pages}
use Rattle.sh_pass.proofs.guard.Guard.new.Goals as goal

pub invariant_of-result : goal.invariant_of-result
invariant_of-result g c = λ s same there. placed_by_pages g.L.KeyLayout.layout c.args.shape.now c.args.key c.args.name
    c.requires s (same ∙ c.pages.ensures.pages) there
