-- The laws of kinds: kind, generation and count say all that a state word says.
use Rattle.std.proofs.Common.{◌≡◌, ℕ, ◌+◌, ◌*◌, ◌^◌, ◌<◌, Bool, true, false, refl, arith}
use Rattle.sh_word.specs.Fields.{Fields, fields_of, word_of}
use Rattle.sh_word.specs.Kinds.{fields_at, kind_by, kind_of}
use Rattle.sh_word.specs.declared.slot_state.Kind.{Kind}
use Rattle.sh_word.specs.declared.slot_state.Kind.TheVariants.{Empty, Live, Marked, Retired}
use Rattle.sh_word.proofs.Words.{fields_of-word_of}

pub kind_of-fields_at : (k : Kind) (g n : ℕ) → kind_of (fields_at k g n) ≡ k
kind_of-fields_at Empty g n = refl
kind_of-fields_at Live g n = refl
kind_of-fields_at Marked g n = refl
kind_of-fields_at Retired g n = refl

pub fields_at-kind_of : (f : Fields) → fields_at (kind_of f) f.generation f.count ≡ f
fields_at-kind_of f = go f.marked f.present where
  go : (m p : Bool) → fields_at (kind_by m p) f.generation f.count
      ≡ record { generation = f.generation; marked = m; present = p; count = f.count }
  go false false = refl
  go false true = refl
  go true true = refl
  go true false = refl

-- ---- the words of each kind, with their counts

pub word_of-empty : (g n : ℕ) → word_of (fields_at Empty g n) ≡ g * 2 ^ 32 + n
unfolding word_of
word_of-empty g n = omega arith

pub word_of-live : (g n : ℕ) → word_of (fields_at Live g n) ≡ g * 2 ^ 32 + 2 ^ 30 + n
unfolding word_of
word_of-live g n = omega arith

pub word_of-marked : (g n : ℕ) → word_of (fields_at Marked g n) ≡ g * 2 ^ 32 + 2 ^ 31 + 2 ^ 30 + n
unfolding word_of
word_of-marked g n = omega arith

pub word_of-retired : (g n : ℕ) → word_of (fields_at Retired g n) ≡ g * 2 ^ 32 + 2 ^ 31 + n
unfolding word_of
word_of-retired g n = omega arith

-- The fields of a word that has this kind, generation and count.
pub fields_of-fields_at : (k : Kind) (g n : ℕ) → n < 2 ^ 30 → fields_of (word_of (fields_at k g n)) ≡ fields_at k g n
fields_of-fields_at Empty g n room = fields_of-word_of (fields_at Empty g n) room
fields_of-fields_at Live g n room = fields_of-word_of (fields_at Live g n) room
fields_of-fields_at Marked g n room = fields_of-word_of (fields_at Marked g n) room
fields_of-fields_at Retired g n room = fields_of-word_of (fields_at Retired g n) room
