use Rattle.sh_key.proofs.Packing.{keys_are_consecutive}
use Rattle.sh_chunk.specs.Chunks.{chunked}
use Rattle.sh_chunk.proofs.laws.chunked_keys_fit.Goals as goal

pub returns : goal.returns
returns c = λ k some. ((keys_are_consecutive chunked k).0 some).1
