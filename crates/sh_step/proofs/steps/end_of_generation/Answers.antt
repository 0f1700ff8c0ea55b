use Rattle.sh_step.specs.Plans.{plan_of}
use Rattle.sh_step.proofs.WordLaws.{next_generation_fits}
use Rattle.sh_step.proofs.steps.end_of_generation.Goals as goal

pub finished_word-requires : goal.finished_word-requires
finished_word-requires g c =
    let plan = plan_of g.L.KeyLayout.layout c.args.shape.now in
    λ other. next_generation_fits c.args.generation plan.keys.gen_max c.gen_max.result c.requires
    (c.gen_max.ensures plan.shards plan.pages) other
