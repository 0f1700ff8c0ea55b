-- What dice show.
use Rattle.rand_core.specs.Steps.{steps_u64_high, stream_of}
use Rattle.rand_core.specs.Stream.{Stream}
use Rattle.rand_xoshiro.specs.Xoshiro256.{plus_plus}
use Rattle.tool_judge.specs.declared.dice.Dice.{Dice}

-- all that the dice will show from now on
abbrev pub shown : Dice → Stream
shown dice = stream_of (steps_u64_high plus_plus) dice.rng
