use Rattle.std.proofs.lemmas.Result.{err_from_is_err_and}
use Rattle.sh_chunk.specs.Chunks.{chunked, chunk_of, key_within}
use Rattle.sh_member.specs.Sides.{SideDoes}
use Rattle.sh_pass.specs.Fetching.{FetchDoes}
use Rattle.sh_grown.specs.Callers.{ChunkDoes, GrownDoes}
use Rattle.sh_grown.specs.ToldKeys.{LooksTold}
use Rattle.sh_grown.proofs.Telling.{by_same, heed_refused, heeded_then, told_looks, told_value}
use Rattle.sh_grown.proofs.caller.Caller.fetch_told.Goals as goal

pub returns-in_err-heed-clause-does : goal.returns-in_err-heed-clause-does
returns-in_err-heed-clause-does c =
    let p = err_from_is_err_and c.from_residual.result c.from_residual.ensures.1 in
    rw (p.1, p.2) (heed_refused c.args.receipt.chunks.items
    (λ growing number. GrownDoes (SideDoes chunked (FetchDoes chunked (key_within c.args.key))) growing number
    (chunk_of c.args.key)) c.args.self.now c.heed.new.self _ c.in_err-heed.ensures.heeds)

pub returns-in_err-heed-clause-told : goal.returns-in_err-heed-clause-told
returns-in_err-heed-clause-told c tells =
    let p = err_from_is_err_and c.from_residual.result c.from_residual.ensures.1 in
    rw (p.1, p.2) (heed_refused c.args.receipt.chunks.items
    (λ growing number. ChunkDoes (SideDoes chunked (LooksTold (key_within c.args.key))) growing number
    (chunk_of c.args.key)) c.args.self.now c.heed.new.self _ c.in_err-heed.ensures.heeds)

pub returns-clause-does : goal.returns-clause-does
returns-clause-does c =
    let mid = c.heed.new.self in
    let new = c.look.new.self in
    heeded_then c.args.receipt.chunks.items
    (λ growing number. GrownDoes (SideDoes chunked (FetchDoes chunked (key_within c.args.key))) growing number
    (chunk_of c.args.key)) c.args.self.now new mid.met.items c.look.result c.in_ok-heed.ensures.heeds
    (by_same (λ growing number. GrownDoes (SideDoes chunked (FetchDoes chunked (key_within c.args.key))) growing number
    (chunk_of c.args.key)) c.args.self.now mid new.met.items c.look.result c.heed.ensures.stays c.look.ensures.does)

pub returns-clause-told : goal.returns-clause-told
returns-clause-told c tells =
    let was = c.args.self.now in
    let mid = c.heed.new.self in
    let new = c.look.new.self in
    let law = c.heard_comes_first.ensures in
    let heeds = c.in_ok-heed.ensures.heeds in
    heeded_then c.args.receipt.chunks.items
    (λ growing number. ChunkDoes (SideDoes chunked (LooksTold (key_within c.args.key))) growing number
    (chunk_of c.args.key)) was new mid.met.items c.look.result heeds
    (told_looks law.gone law.got law.seen was.growing was.number c.args.key c.args.receipt.chunks.items was.met.items
    mid.met.items new.met.items c.look.result heeds
    (by_same (λ growing number. GrownDoes (SideDoes chunked (FetchDoes chunked (key_within c.args.key))) growing number
    (chunk_of c.args.key)) was mid new.met.items c.look.result c.heed.ensures.stays c.look.ensures.does) tells)

pub returns-clause-value : goal.returns-clause-value
returns-clause-value c =
    let was = c.args.self.now in
    let mid = c.heed.new.self in
    let new = c.look.new.self in
    let law = c.heard_comes_first.ensures in
    let heeds = c.in_ok-heed.ensures.heeds in
    told_value law.gone law.got law.seen was.growing was.number c.args.key c.args.receipt.chunks.items was.met.items
    mid.met.items new.met.items c.look.result heeds
    (by_same (λ growing number. GrownDoes (SideDoes chunked (FetchDoes chunked (key_within c.args.key))) growing number
    (chunk_of c.args.key)) was mid new.met.items c.look.result c.heed.ensures.stays c.look.ensures.does)
