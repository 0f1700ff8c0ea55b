use Rattle.std.proofs.Common.{ap, ◌∙◌, inl, refl}
use Rattle.sh_pass.specs.Passes.{ReadIntoDoes}
use Rattle.sh_chunk.specs.Chunks.{chunked, chunk_of, key_within}
use Rattle.sh_member.specs.Sides.{SideDoes}
use Rattle.sh_grown.proofs.Places.{chunk_does}
use Rattle.sh_grown.proofs.OfChunks.{does_of}
use Rattle.sh_grown.proofs.caller.Caller.read_guard.Goals as goal

pub returns-clause-does : goal.returns-clause-does
returns-clause-does c =
    inl (chunk_does (SideDoes chunked
    (λ v a w. ReadIntoDoes (key_within c.args.guard.now.key) v c.args.value.now a c.read_guard_at.new.value w))
    c.args.self.now.growing c.args.self.now.number c.chunk_of-chunk.result (chunk_of c.args.guard.now.key)
    c.args.self.now.met.items c.meet.new.self.met.items _ _ c.read_guard_at.new.place _ c.read_guard_at.result
    (c.chunk_of-chunk.ensures.is ∙ ap chunk_of c.key-key.ensures) c.in_ok-meet.ensures.there.0 c.in_ok-meet.ensures.met
    c.index_mut.ensures.value c.read_guard_at.ensures refl)

pub invariant_of-self : goal.invariant_of-self
invariant_of-self c =
    let met = c.meet.new.self in
    record {
      of_chunks = does_of
          (λ v a w. ReadIntoDoes (key_within c.args.guard.now.key) v c.args.value.now a c.read_guard_at.new.value w)
          met.growing met.met.items c.chunk_of-chunk.result c.index_mut.result.now c.read_guard_at.new.place
          c.read_guard_at.result met.of_chunks c.index_mut.ensures.value c.read_guard_at.ensures;
    }
