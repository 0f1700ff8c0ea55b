use Rattle.std.proofs.Common.{length}
use Rattle.sh_shard.proofs.Bounding.{slots_gone}
use Rattle.sh_shard.proofs.PageTries.{tried, tried_steps, tried_first, used_in}
use Rattle.sh_shard.proofs.Slots.{lists_of}
use Rattle.sh_shard.proofs.pages.PagesOn.try_page.Goals as goal

pub returns-then-not-find_slot-clause-steps : goal.returns-then-not-find_slot-clause-steps
returns-then-not-find_slot-clause-steps g c = slots_gone 4 c.args.page c.args.self.now c.find_slot.new.self
    c.find_slot.ensures.steps c.if-not-find_slot.ensures.found.mine

pub returns-clause-tried : goal.returns-clause-tried
returns-clause-tried g c = tried c.args.page c.args.value.now c.use_slot.result c.args.self.now c.find_slot.new.self
    c.use_slot.new.self c.find_slot.ensures.works c.if-not-find_slot.ensures.found c.use_slot.ensures.used

pub returns-clause-steps : goal.returns-clause-steps
returns-clause-steps g c = tried_steps c.args.page (length c.args.value.now) c.use_slot.result c.args.self.now
    c.find_slot.new.self c.use_slot.new.self c.find_slot.ensures.steps c.if-not-find_slot.ensures.found
    (used_in _ c.args.page (length c.args.value.now) c.find_slot.new.self c.use_slot.new.self c.use_slot.result
    c.use_slot.ensures.used c.use_slot.ensures.steps)

pub returns-then-not-find_slot-clause-first : goal.returns-then-not-find_slot-clause-first
returns-then-not-find_slot-clause-first g c = lists_of c.args.page c.args.self.now c.find_slot.new.self
    c.if-not-find_slot.ensures.lists c.find_slot.ensures.works.beside

pub returns-clause-first : goal.returns-clause-first
returns-clause-first g c = tried_first g.L.KeyLayout.layout c.args.page _ c.use_slot.result c.args.self.now
    c.find_slot.new.self c.use_slot.new.self c.find_slot.ensures.works c.if-not-find_slot.ensures.lists
    c.if-not-find_slot.ensures.found c.use_slot.ensures.used c.use_slot.ensures.first
