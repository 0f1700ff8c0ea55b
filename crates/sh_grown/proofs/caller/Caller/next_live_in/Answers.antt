use Rattle.std.proofs.Common.{Option, inl, refl}
use Rattle.std.specs.Prelude.{Ok}
use Rattle.sh_chunk.specs.Chunks.{chunked}
use Rattle.sh_member.specs.Sides.{SideDoes}
use Rattle.sh_member.specs.declared.walking.NextLive.{NextLive}
use Rattle.sh_member.proofs.PlaceWalks.{it_met, puts_as}
use Rattle.sh_grown.specs.Callers.{MemberDoes}
use Rattle.sh_grown.specs.Walks.{LiveIn, LooksIn}
use Rattle.sh_grown.proofs.Places.{chunk_does}
use Rattle.sh_grown.proofs.OfChunks.{does_of}
use Rattle.sh_grown.proofs.caller.Caller.next_live_in.Goals as goal

pub returns-in-Ok-clause-looks : goal.returns-in-Ok-clause-looks
returns-in-Ok-clause-looks c =
    let old = c.args.self.now in
    let met = c.meet.new.self.met.items in
    let chunk = c.args.chunk in
    let after = c.next_live_at.new.place in
    let finds : Option NextLive → Type 0 = λ o. MemberDoes (SideDoes chunked (LiveIn c.args.from c.args.before chunk))
    c.index_mut.result.now (Ok o) after in
    puts_as finds (λ o. LooksIn (LiveIn c.args.from c.args.before) old.growing old.number chunk old.met.items (Ok o) _)
    c.args.value.now c.next_live_at.new.value c.next_live_at.result
    (λ o did. inl (chunk_does (SideDoes chunked (LiveIn c.args.from c.args.before chunk)) old.growing old.number chunk
    chunk old.met.items met _ _ after _ (Ok o) refl c.in-Ok.ensures.there.0 c.in-Ok.ensures.met
    c.index_mut.ensures.value did refl)) c.next_live_at.ensures

pub invariant_of-self : goal.invariant_of-self
invariant_of-self c =
    let met = c.meet.new.self in
    let chunk = c.args.chunk in
    let after = c.next_live_at.new.place in
    let found = it_met (λ o. MemberDoes (SideDoes chunked (LiveIn c.args.from c.args.before chunk))
    c.index_mut.result.now (Ok o) after) c.args.value.now c.next_live_at.new.value c.next_live_at.result
    c.next_live_at.ensures in
    record {
      of_chunks = does_of (LiveIn c.args.from c.args.before chunk) met.growing met.met.items chunk
          c.index_mut.result.now after (Ok found.0) met.of_chunks c.index_mut.ensures.value found.1;
    }
