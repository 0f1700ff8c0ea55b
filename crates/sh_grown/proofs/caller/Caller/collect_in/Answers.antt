use Rattle.std.specs.Prelude.{◌==◌}
use Rattle.sh_grown.specs.Steps.{steps_of}
use Rattle.sh_grown.proofs.CallSteps.{collect_took, one_set}
use Rattle.sh_grown.proofs.Stepping.{takes_none}
use Rattle.sh_chunk.specs.Chunks.{chunked}
use Rattle.sh_member.specs.Sides.{SideCollects}
use Rattle.sh_grown.proofs.OfChunks.{keeps_of, member_there}
use Rattle.sh_grown.proofs.caller.Caller.collect_in.Goals as goal

pub returns-then-not-has_met-clause-steps : goal.returns-then-not-has_met-clause-steps
returns-then-not-has_met-clause-steps c =
    takes_none (λ other. other == c.args.chunk) (λ s. steps_of 0 1 0 0) c.args.self.now

pub returns-clause-steps : goal.returns-clause-steps
returns-clause-steps c =
    let was = c.args.self.now in
    one_set was.growing was.number (steps_of 0 1 0 0) was.met.items c.args.chunk c.index_mut.result.now
    c.collect_at.new.place was.of_chunks c.index_mut.ensures.value
    (collect_took c.index_mut.result.now c.collect_at.new.place c.collect_at.result c.collect_at.ensures.collects)

pub invariant_of-self : goal.invariant_of-self
invariant_of-self c = record {
  of_chunks = keeps_of c.args.self.now.growing c.args.self.now.met.items c.args.chunk c.index_mut.result.now
      c.collect_at.new.place c.args.self.now.of_chunks c.index_mut.ensures.value
      (λ some. member_there (SideCollects chunked) c.index_mut.result.now c.collect_at.new.place c.collect_at.result
      c.collect_at.ensures.collects)
      c.collect_at.ensures.keeps;
}
