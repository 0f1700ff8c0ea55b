-- What a slot's state word says, and the word that says it.
use Rattle.std.specs.Prelude.{ℕ, ◌+◌, ◌*◌, ◌/◌, ◌%◌, ◌^◌, ◌<◌, ◌==◌, Bool}
use Rattle.std.specs.Int.{bit_at, from_bool}

-- The fields of a state word, as plain data.
pub record Fields : Type 0 where
  pub generation : ℕ
  pub marked : Bool
  pub present : Bool
  pub count : ℕ

-- A word of 64 bits has room for the fields.
abbrev pub FitsWord : Fields → Type 0
FitsWord f = (f.generation < 2 ^ 32) × (f.count < 2 ^ 30)

-- The fields packed into one number: the count lowest, then the two flags, then the generation.
unfoldable pub word_of : Fields → ℕ
word_of f = f.generation * 2 ^ 32 + from_bool f.marked * 2 ^ 31 + from_bool f.present * 2 ^ 30 + f.count

-- The fields that are packed in a word.
unfoldable pub fields_of : ℕ → Fields
fields_of w = record {
  generation = w / 2 ^ 32;
  marked = bit_at w 31 == 1;
  present = bit_at w 30
      == 1;
  count = w % 2 ^ 30;
}
