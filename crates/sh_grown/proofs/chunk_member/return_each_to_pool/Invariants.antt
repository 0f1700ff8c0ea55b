use Rattle.std.proofs.Common.{◌≡◌, length}
use Rattle.sh_grown.proofs.chunk_member.return_each_to_pool.Given as goal

abbrev pub invariant-loop-chunk : goal.invariant-loop-chunk
invariant-loop-chunk l = length l.places.items ≡ length l.initial.places.items
