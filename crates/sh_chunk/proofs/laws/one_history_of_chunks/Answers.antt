use Rattle.sh_chunk.proofs.Histories as lemmas
use Rattle.sh_chunk.proofs.laws.one_history_of_chunks.Goals as goal

pub returns : goal.returns
returns c = lemmas.one_history_of_chunks
