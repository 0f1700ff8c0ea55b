use Rattle.sh_member.specs.Walks.{with_value}
use Rattle.sh_grown.proofs.ChunkWalks.{live_fits}
use Rattle.sh_grown.proofs.walking.next_live_at.Goals as goal

pub chunk_key-requires : goal.chunk_key-requires
chunk_key-requires c =
    (live_fits c.place_in-from.result c.place_in-before.result
    (with_value c.in_ok-key-in-Some.field-0 c.next_live_into.new.value) c.in-Some.met.member
    c.next_live_into.new.self c.chunked_keys_fit.ensures c.place_in-before.ensures.few
    c.in_ok-key-in-Some.ensures).0
