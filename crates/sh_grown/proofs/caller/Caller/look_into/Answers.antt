use Rattle.std.proofs.Common.{ℕ, List, Option, Result, inl, refl}
use Rattle.std.specs.Prelude.{slice_set}
use Rattle.sh_chunk.specs.Chunks.{chunked, chunk_of, key_within}
use Rattle.sh_value.specs.declared.refusal.Refusal.{Refusal}
use Rattle.sh_pass.specs.Fetching.{FetchDoes}
use Rattle.sh_pass.proofs.Fetched.{fills_as, it_did}
use Rattle.sh_member.specs.Sides.{SeenSide, SideDoes}
use Rattle.sh_grown.specs.declared.chunk_member.ChunkMember.{ChunkMember}
use Rattle.sh_grown.specs.Callers.{GrownDoes, MemberDoes}
use Rattle.sh_grown.proofs.Places.{chunk_does}
use Rattle.sh_grown.proofs.OfChunks.{does_of}
use Rattle.sh_grown.proofs.caller.Caller.look_into.Goals as goal

pub returns-clause-does : goal.returns-clause-does
returns-clause-does g c =
    let old = c.args.self.now in
    let met = c.meet.new.self.met.items in
    let chunk = c.chunk_of-chunk.result in
    let place = c.index_mut.result.now in
    let after = c.look_into_at.new.place in
    let new : List (Option ChunkMember) = slice_set met chunk after in
    let looks : SeenSide → Result (List ℕ) Refusal → SeenSide → Type 0 =
    SideDoes chunked (FetchDoes chunked (key_within c.args.key)) in
    fills_as g.M.Room.takes (λ r. MemberDoes looks place r after)
    (λ r. GrownDoes looks old.growing old.number (chunk_of c.args.key) old.met.items r new) c.args.room.now
    c.look_into_at.new.room c.look_into_at.result
    (λ r did. inl (chunk_does looks old.growing old.number chunk (chunk_of c.args.key) old.met.items met new place
    after place r c.chunk_of-chunk.ensures.is c.in_ok-meet.ensures.there.0 c.in_ok-meet.ensures.met
    c.index_mut.ensures.value did refl)) c.look_into_at.ensures

pub invariant_of-self : goal.invariant_of-self
invariant_of-self g c =
    let met = c.meet.new.self in
    let place = c.index_mut.result.now in
    let after = c.look_into_at.new.place in
    let fetches = FetchDoes chunked (key_within c.args.key) in
    let did = it_did g.M.Room.takes (λ r. MemberDoes (SideDoes chunked fetches) place r after) c.args.room.now
    c.look_into_at.new.room c.look_into_at.result c.look_into_at.ensures in
    record {
      of_chunks = does_of fetches met.growing met.met.items c.chunk_of-chunk.result place after did.0 met.of_chunks
          c.index_mut.ensures.value did.1;
    }
