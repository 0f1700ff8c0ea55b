use Rattle.sh_grown.proofs.Places.{inserted_fits}
use Rattle.sh_grown.proofs.chunk_member.insert_at.Goals as goal

pub chunk_key-requires : goal.chunk_key-requires
chunk_key-requires c =
    inserted_fits c.args.value.now c.in-Some.met.member c.insert.new.self c.in_ok-key-in-Some.key
    c.chunked_keys_fit.ensures c.in_ok-key-in-Some.ensures.serves
