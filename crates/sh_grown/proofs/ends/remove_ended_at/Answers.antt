use Rattle.sh_chunk.specs.Chunks.{chunked}
use Rattle.sh_pass.specs.Telling.{RemoveTells}
use Rattle.sh_grown.proofs.EndedKeys.{told_fits}
use Rattle.sh_grown.proofs.ends.remove_ended_at.Goals as goal

pub ended_in-requires : goal.ended_in-requires
ended_in-requires g c =
    let r = c.remove_ended-answer in
    told_fits g.M.EndRoom.asks g.M.EndRoom.takes r.result.1 c.args.room.now r.new.room
    (λ v a w. RemoveTells g.M.EndRoom.asks g.M.EndRoom.takes chunked c.split-chunk.result.1 c.args.room.now v a
    r.new.room w)
    r.result c.in-Some.met.member r.new.self c.chunked_keys_fit.ensures (λ v w h. h.1) r.ensures
