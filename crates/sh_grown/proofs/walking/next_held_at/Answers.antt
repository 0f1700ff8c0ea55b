use Rattle.std.proofs.Common.{Ok, Option, subst}
use Rattle.sh_chunk.specs.Chunks.{chunked}
use Rattle.sh_member.specs.Sides.{SideDoes}
use Rattle.sh_member.specs.Walks.{NextHeldDoes}
use Rattle.sh_member.specs.declared.walking.NextHeld.{NextHeld}
use Rattle.sh_grown.proofs.ChunkWalks.{held_fits}
use Rattle.sh_grown.proofs.walking.next_held_at.Goals as goal

pub chunk_key-key-requires : goal.chunk_key-key-requires
chunk_key-key-requires c =
    let from = c.place_in-from.result in
    let before = c.place_in-before.result in
    (held_fits from before c.in-Some-2.next c.in-Some.met.member c.next_held.new.self c.chunked_keys_fit.ensures
    c.place_in-before.ensures.few
    (subst (λ (o : Option NextHeld). SideDoes chunked (NextHeldDoes chunked from before) c.in-Some.met.member (Ok o)
    c.next_held.new.self) c.in-Some-2.is c.in_ok-next-in-Some.ensures)).0
