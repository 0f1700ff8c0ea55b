use Rattle.std.proofs.Common.{inl, refl}
use Rattle.sh_chunk.specs.Chunks.{chunked, chunk_of}
use Rattle.sh_member.specs.Sides.{SideDoes}
use Rattle.sh_grown.specs.Ended.{ReleaseTellsIn}
use Rattle.sh_grown.proofs.Places.{chunk_does}
use Rattle.sh_grown.proofs.OfChunks.{does_of}
use Rattle.sh_grown.proofs.caller.Caller.release_ended.Goals as goal

pub returns-clause-does : goal.returns-clause-does
returns-clause-does g c =
    let r = c.release_ended_at in
    inl (chunk_does (SideDoes chunked (λ v a w. ReleaseTellsIn g.M.EndRoom.asks g.M.EndRoom.takes c.args.hold.key
    r.result.1 c.args.room.now v a r.new.room w)) c.args.self.now.growing c.args.self.now.number c.chunk_of-chunk.result
    (chunk_of c.args.hold.key) c.args.self.now.met.items c.meet.new.self.met.items _ _ r.new.place _ r.result.0
    c.chunk_of-chunk.ensures.is c.in_default.ensures.there.0 c.in_default.ensures.met c.index_mut.ensures.value
    r.ensures refl)

pub invariant_of-self : goal.invariant_of-self
invariant_of-self g c =
    let r = c.release_ended_at in
    let met = c.meet.new.self in
    record {
      of_chunks = does_of (λ v a w. ReleaseTellsIn g.M.EndRoom.asks g.M.EndRoom.takes c.args.hold.key r.result.1
          c.args.room.now v a r.new.room w) met.growing met.met.items c.chunk_of-chunk.result c.index_mut.result.now
          r.new.place r.result.0 met.of_chunks c.index_mut.ensures.value r.ensures;
    }
