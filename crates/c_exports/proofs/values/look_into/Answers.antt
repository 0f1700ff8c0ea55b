use Rattle.std.proofs.Common.{Ok, Err, ap}
use Rattle.c_exports.specs.declared.rooms.WordsRoom.{WordsRoom}
use Rattle.c_exports.proofs.values.look_into.Goals as goal

pub returns-in-Err-clause-looks : goal.returns-in-Err-clause-looks
returns-in-Err-clause-looks c =
    let f = c.in-Err.ensures in (
      Err c.in-Err.refusal,
      (c.number-room.ensures, ap (λ (r : WordsRoom). r.words.now) f.1, ap (λ (r : WordsRoom). r.count.now) f.1),
      f.0,
    )

pub returns-in_default-clause-looks : goal.returns-in_default-clause-looks
returns-in_default-clause-looks c = let f = c.in_default.ensures in (Ok f.0, f.2.told, f.1)
