-- What a room of C's is once a value was put there.
use Rattle.std.specs.Prelude.{◌≡◌, ℕ, List, Ok}
use Rattle.c_exports.specs.declared.batches.Loaded.{Loaded}
use Rattle.c_exports.specs.declared.rooms.WordsRoom.{WordsRoom}
use Rattle.c_exports.specs.Told.{ReadBy}

-- the caller's words have the value's at their front, if they have room for them, and the code says so; they are the
-- same words of the caller's as before
pub record WordsTake (before : WordsRoom) (value : List ℕ) (after : WordsRoom) : Type 0 where
  pub words : after.words.ghost_name ≡ before.words.ghost_name
  pub count : after.count.ghost_name ≡ before.count.ghost_name
  pub told : ReadBy after.code before.words.now after.words.now before.count.now after.count.now (Ok value)

-- one of several loads has the words at its front, and the code says so; its key stays
pub record LoadedTakes (before : Loaded) (value : List ℕ) (after : Loaded) : Type 0 where
  pub key : after.key ≡ before.key
  pub told : ReadBy after.code before.words after.words before.length after.length (Ok value)
