use Rattle.std.proofs.lemmas.List.{get_or-set_other, length-set}
use Rattle.std.proofs.Common.{None}
use Rattle.sh_grown.proofs.Keeping.{one_kept, place_found}
use Rattle.sh_grown.proofs.LeftChunks.{left_here, waits_here}
use Rattle.sh_grown.proofs.OfChunks.{keeps_of}
use Rattle.sh_grown.proofs.caller.Caller.leave_in.Goals as goal

pub returns-clause-left : goal.returns-clause-left
returns-clause-left c =
    left_here c.args.self.now.met.items c.args.chunk c.leave_at.new.place c.leave_at.result c.requires
    c.leave_at.ensures.left

pub returns-clause-waits : goal.returns-clause-waits
returns-clause-waits c =
    waits_here c.args.self.now.met.items c.args.chunk c.index_mut.result.now c.leave_at.new.place c.leave_at.result
    c.requires c.index_mut.ensures.value c.leave_at.ensures.waits

pub returns-clause-others : goal.returns-clause-others
returns-clause-others c other apart =
    get_or-set_other c.args.self.now.met.items c.args.chunk other c.leave_at.new.place None apart

pub returns-clause-count : goal.returns-clause-count
returns-clause-count c = length-set c.args.self.now.met.items c.args.chunk c.leave_at.new.place

pub returns-clause-keeps : goal.returns-clause-keeps
returns-clause-keeps c =
    let items = c.args.self.now.met.items in
    one_kept items c.args.chunk c.leave_at.new.place
    (place_found items c.args.chunk c.index_mut.result.now c.leave_at.new.place c.index_mut.ensures.value
    c.leave_at.ensures.keeps)

pub invariant_of-self : goal.invariant_of-self
invariant_of-self c = record {
  of_chunks = keeps_of c.args.self.now.growing c.args.self.now.met.items c.args.chunk c.index_mut.result.now
      c.leave_at.new.place c.args.self.now.of_chunks c.index_mut.ensures.value c.leave_at.ensures.unmet
      c.leave_at.ensures.keeps;
}
