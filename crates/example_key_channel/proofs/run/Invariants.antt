use Rattle.std.proofs.Common.{Some}
use Rattle.example_key_channel.proofs.run.Given as goal

abbrev pub ghosts-share : goal.ghosts-share
ghosts-share g a = record { heap = Some a.heap.now }
