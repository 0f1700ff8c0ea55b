use Rattle.sh_shard.proofs.BellEmptying.{collecting_more, collecting_takes, bell_steps, bell_steps_taken}
use Rattle.sh_shard.proofs.pages.PagesOn.empty_bell.Goals as goal

pub returns-clause-through : goal.returns-clause-through
returns-clause-through g c = collecting_more c.args.self.now c.take_bell.new.self c.follow_rings-2.new.self
    (collecting_more c.args.self.now c.follow_rings.new.self c.take_bell.new.self c.follow_rings.ensures.collects
    (collecting_takes c.follow_rings.new.self c.take_bell.new.self c.take_bell.ensures))
    c.follow_rings-2.ensures.collects

pub returns-then-has_rings-clause-steps : goal.returns-then-has_rings-clause-steps
returns-then-has_rings-clause-steps g c = bell_steps c.args.self.now c.follow_rings.new.self c.follow_rings.ensures

pub returns-clause-steps : goal.returns-clause-steps
returns-clause-steps g c = bell_steps_taken c.args.self.now c.follow_rings.new.self c.take_bell.new.self
    c.follow_rings-2.new.self c.follow_rings.ensures c.take_bell.ensures c.follow_rings-2.ensures
