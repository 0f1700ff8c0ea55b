use Rattle.sh_shard.proofs.LeavingLaws.{waiting, waits_in, leaves_in}
use Rattle.sh_shard.proofs.pages.PagesOn.leave.Goals as goal

pub returns-then-not-is_at_rest-clause-does : goal.returns-then-not-is_at_rest-clause-does
returns-then-not-is_at_rest-clause-does g c = waiting c.args.self c.empty_bell.new.self c.empty_pages.new.self
    c.empty_bell.ensures.through c.empty_bell.ensures.bell c.empty_pages.ensures c.if-not-is_at_rest.ensures

pub returns-then-not-is_at_rest-clause-steps : goal.returns-then-not-is_at_rest-clause-steps
returns-then-not-is_at_rest-clause-steps g c = waits_in c.args.self c.empty_bell.new.self c.empty_pages.new.self
    c.empty_bell.ensures.through c.empty_bell.ensures.steps c.empty_pages.ensures

pub returns-clause-steps : goal.returns-clause-steps
returns-clause-steps g c = leaves_in c.args.self c.empty_bell.new.self c.empty_pages.new.self
    c.put_all_back.new.self c.give_up.result c.empty_bell.ensures.through c.empty_bell.ensures.steps
    c.empty_pages.ensures c.put_all_back.ensures c.give_up.ensures.steps
