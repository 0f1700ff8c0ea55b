use Rattle.std.proofs.Common.{inl, inr}
use Rattle.sh_shard.proofs.Working.{works_more}
use Rattle.sh_shard.proofs.PageTries.{slot_found, slot_collected, slot_guarded, slot_lists}
use Rattle.sh_shard.proofs.Slots.{same_none}
use Rattle.sh_shard.proofs.pages.PagesOn.find_slot.Goals as goal

pub returns-then-has_slot-2-clause-steps : goal.returns-then-has_slot-2-clause-steps
returns-then-has_slot-2-clause-steps g c = slot_collected c.args.page c.args.self.now c.collect.new.self
    c.collect.ensures

pub returns-clause-found : goal.returns-clause-found
returns-clause-found g c = slot_found c.args.page c.has_slot-3.result c.args.self.now c.collect.new.self
    c.arm_and_follow.new.self c.collect.ensures c.arm_and_follow.ensures c.has_slot-3.ensures.mine

pub returns-clause-steps : goal.returns-clause-steps
returns-clause-steps g c = slot_guarded c.args.page c.args.self.now c.collect.new.self c.arm_and_follow.new.self
    c.collect.ensures c.arm_and_follow.ensures

pub returns-clause-works : goal.returns-clause-works
returns-clause-works g c = works_more c.args.page c.args.self.now c.collect.new.self c.arm_and_follow.new.self
    c.collect.ensures.works c.arm_and_follow.ensures.works

pub returns-then-has_slot-clause-lists : goal.returns-then-has_slot-clause-lists
returns-then-has_slot-clause-lists g c = inl (same_none _)

pub returns-then-has_slot-2-clause-lists : goal.returns-then-has_slot-2-clause-lists
returns-then-has_slot-2-clause-lists g c = inr c.if-has_slot.ensures.none

pub returns-clause-lists : goal.returns-clause-lists
returns-clause-lists g c = slot_lists c.args.page c.has_slot-3.result c.args.self.now c.arm_and_follow.new.self
    c.if-has_slot.ensures.none c.has_slot-3.ensures.none
