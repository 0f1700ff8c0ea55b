use Rattle.std.proofs.Common.{◌∙◌, ap}
use Rattle.sh_step.specs.Runs.{picked}
use Rattle.sh_step.proofs.RunLaws.{in_place, run_less, run_worth}
use Rattle.sh_step.proofs.part.run.run_without.Goals as goal

pub overflow_sub-slot_ref : goal.overflow_sub-slot_ref
overflow_sub-slot_ref c = (in_place c.args.slot_ref c.args.run c.requires).first

pub without_bit-requires-clause-small : goal.without_bit-requires-clause-small
without_bit-requires-clause-small c = (in_place c.args.slot_ref c.args.run c.requires).within

pub without_bit-requires-clause-set : goal.without_bit-requires-clause-set
without_bit-requires-clause-set c = run_worth c.args.slot_ref c.args.run c.requires

pub returns-clause-slots : goal.returns-clause-slots
returns-clause-slots c = ap (λ b. picked c.args.run.page c.args.run.first 64 b) c.without_bit.ensures
    ∙ run_less c.args.slot_ref c.args.run c.requires
