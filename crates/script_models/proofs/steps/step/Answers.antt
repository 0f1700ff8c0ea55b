use Rattle.sh_core.specs.Worlds.{run}
use Rattle.sh_step.specs.Plans.{plan_of}
use Rattle.script_models.proofs.StepKeys.{keys_within}
use Rattle.script_models.proofs.steps.step.Goals as goal

pub returns-in-Ok-clause-keys : goal.returns-in-Ok-clause-keys
returns-in-Ok-clause-keys g c = λ es stands.
    let layout = g.L.KeyLayout.layout in
    let shape = c.args.world.now.shape in
    let laws = c.packing_laws.ensures in
    let fills = c.refines_map.ensures.fills layout shape laws.lawful c.requires.shape c.requires.fits es in
    let looks = c.refines_map.ensures.looks layout shape laws.lawful c.requires.shape c.requires.fits es in
    keys_within layout shape (run (plan_of layout shape) es) c.args.event.now c.in-Ok.outcome laws.consecutive fills
    looks
    (c.in-Ok.ensures.ok.outcome_is (run (plan_of layout shape) es) stands)
