use Rattle.std.proofs.Common.{◌<◌, arith, length}
use Rattle.sh_grown.specs.Steps.{steps_of}
use Rattle.sh_grown.proofs.Full.{met_within, owns_after, place_is_met, refused_in}
use Rattle.sh_grown.proofs.Keeping.{one_kept, place_found}
use Rattle.sh_grown.proofs.CallSteps.{one_set}
use Rattle.sh_grown.proofs.OfChunks.{keeps_of}
use Rattle.sh_grown.proofs.caller.Caller.move_in.Goals as goal

pub index_mut-requires : goal.index_mut-requires
index_mut-requires c =
    let items = c.args.self.now.met.items in
    let within : c.args.chunk < length items = met_within items c.args.chunk c.requires in omega arith

pub move_to-requires : goal.move_to-requires
move_to-requires c =
    place_is_met c.args.self.now.met.items c.args.chunk c.index_mut.result.now c.requires c.index_mut.ensures.value

pub returns-clause-owns : goal.returns-clause-owns
returns-clause-owns c =
    owns_after c.args.shard c.args.self.now.met.items c.args.chunk c.move_to.new.place c.move_to.result c.requires
    c.move_to.ensures.owns

pub returns-clause-refused : goal.returns-clause-refused
returns-clause-refused c =
    refused_in c.args.shard c.args.self.now.met.items c.args.chunk c.index_mut.result.now c.move_to.new.place
    c.move_to.result c.requires c.index_mut.ensures.value c.move_to.ensures.refused

pub returns-clause-steps : goal.returns-clause-steps
returns-clause-steps c =
    let was = c.args.self.now in
    one_set was.growing was.number (steps_of 0 0 1 0) was.met.items c.args.chunk c.index_mut.result.now
    c.move_to.new.place was.of_chunks c.index_mut.ensures.value c.move_to.ensures.steps

pub returns-clause-keeps : goal.returns-clause-keeps
returns-clause-keeps c =
    let items = c.args.self.now.met.items in
    one_kept items c.args.chunk c.move_to.new.place
    (place_found items c.args.chunk c.index_mut.result.now c.move_to.new.place c.index_mut.ensures.value
    c.move_to.ensures.keeps)

pub invariant_of-self : goal.invariant_of-self
invariant_of-self c =
    let items = c.args.self.now.met.items in
    record {
      of_chunks = keeps_of c.args.self.now.growing items c.args.chunk c.index_mut.result.now c.move_to.new.place
          c.args.self.now.of_chunks c.index_mut.ensures.value
          (λ some. place_is_met items c.args.chunk c.index_mut.result.now c.requires c.index_mut.ensures.value)
          c.move_to.ensures.keeps;
    }
