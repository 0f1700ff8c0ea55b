use Rattle.sh_step.specs.Plans.{plan_of}
use Rattle.sh_table.specs.Ended.{HasEnded, ended_in}
use Rattle.sh_table.proofs.OrderLaws.{each_in}
use Rattle.sh_table.proofs.laws.ended_keys_are_true.Goals as goal

pub returns : goal.returns
returns c = λ layout v stands e there.
    let plan = plan_of layout v.shape in
    (stands.history, stands.tale, each_in (HasEnded plan stands.history) (ended_in plan v.own.trail) e there stands.ended)
