use Rattle.std.proofs.Common.{length}
use Rattle.std.specs.Prelude.{◌==◌}
use Rattle.sh_grown.specs.Steps.{steps_of}
use Rattle.sh_grown.proofs.Full.{insert_leaves, none_left}
use Rattle.sh_grown.proofs.CallSteps.{insert_took, one_set}
use Rattle.sh_grown.proofs.Stepping.{takes_none}
use Rattle.sh_grown.proofs.OfChunks.{inserts_of}
use Rattle.sh_grown.proofs.caller.Caller.insert_in.Goals as goal

pub returns-then-not-has_met-clause-steps : goal.returns-then-not-has_met-clause-steps
returns-then-not-has_met-clause-steps c =
    takes_none (λ other. other == c.args.chunk) (λ s. steps_of 1 0 0 (length c.args.value.now)) c.args.self.now

pub returns-clause-steps : goal.returns-clause-steps
returns-clause-steps c =
    let was = c.args.self.now in
    one_set was.growing was.number (steps_of 1 0 0 (length c.args.value.now)) was.met.items c.args.chunk
    c.index_mut.result.now c.insert_at.new.place was.of_chunks c.index_mut.ensures.value
    (insert_took c.args.value.now c.index_mut.result.now c.insert_at.new.place c.insert_at.result
    c.insert_at.ensures.inserts c.insert_at.ensures.bounded)

pub invariant_of-self : goal.invariant_of-self
invariant_of-self c = record {
  of_chunks = inserts_of c.args.value.now c.args.self.now.growing c.args.self.now.met.items c.args.chunk
      c.index_mut.result.now c.insert_at.new.place c.insert_at.result c.args.self.now.of_chunks
      c.index_mut.ensures.value c.insert_at.ensures.inserts;
}

pub returns-then-not-has_met-clause-leaves : goal.returns-then-not-has_met-clause-leaves
returns-then-not-has_met-clause-leaves c = none_left c.args.self.now.met.items

pub returns-clause-leaves : goal.returns-clause-leaves
returns-clause-leaves c =
    insert_leaves c.args.value.now c.args.self.now.met.items c.args.chunk c.index_mut.result.now
    c.insert_at.new.place c.insert_at.result c.index_mut.ensures.value c.insert_at.ensures.inserts
