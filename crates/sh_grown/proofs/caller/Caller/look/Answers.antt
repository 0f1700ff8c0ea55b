use Rattle.std.proofs.Common.{inl, refl}
use Rattle.sh_pass.specs.Fetching.{FetchDoes}
use Rattle.sh_chunk.specs.Chunks.{chunked, chunk_of, key_within}
use Rattle.sh_member.specs.Sides.{SideDoes}
use Rattle.sh_grown.proofs.Places.{chunk_does}
use Rattle.sh_grown.proofs.OfChunks.{does_of}
use Rattle.sh_grown.proofs.caller.Caller.look.Goals as goal

pub returns-clause-does : goal.returns-clause-does
returns-clause-does c =
    inl (chunk_does (SideDoes chunked (FetchDoes chunked (key_within c.args.key)))
    c.args.self.now.growing c.args.self.now.number c.chunk_of-chunk.result (chunk_of c.args.key)
    c.args.self.now.met.items c.meet.new.self.met.items _ _ c.look_at.new.place _ c.look_at.result
    c.chunk_of-chunk.ensures.is c.in_ok-meet.ensures.there.0 c.in_ok-meet.ensures.met
    c.index_mut.ensures.value c.look_at.ensures refl)

pub invariant_of-self : goal.invariant_of-self
invariant_of-self c =
    let met = c.meet.new.self in
    record {
      of_chunks = does_of (FetchDoes chunked (key_within c.args.key)) met.growing met.met.items
          c.chunk_of-chunk.result c.index_mut.result.now c.look_at.new.place c.look_at.result met.of_chunks
          c.index_mut.ensures.value c.look_at.ensures;
    }
