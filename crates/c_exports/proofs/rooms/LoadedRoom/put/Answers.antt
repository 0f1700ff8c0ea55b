use Rattle.std.proofs.Common.{refl}
use Rattle.c_exports.proofs.rooms.LoadedRoom.put.Goals as goal

pub returns : goal.returns
returns c = record { key = refl; told = (c.write_words-self.ensures.count, c.write_words-self.ensures.words) }
