-- The classes of slots: how many words a slot of each class has, and how many slots a page of each class has.
use Rattle.std.specs.Prelude.{ℕ, ◌+◌, ◌*◌, ◌<◌, ◌≤◌, nat_le, List, [], ◌∷◌, get_or, position, Option}
use Rattle.sh_shape.specs.Places.{payload_words}

-- how many classes there are
abbrev pub class_count : ℕ
class_count = 8

-- the width of a slot of each class, in words
abbrev pub widths : List ℕ
widths = 1 ∷ 2 ∷ 3 ∷ 4 ∷ 6 ∷ 8 ∷ 12 ∷ 16 ∷ []

-- how many slots a page of each class has
abbrev pub slot_counts : List ℕ
slot_counts = 48 ∷ 24 ∷ 16 ∷ 12 ∷ 8 ∷ 6 ∷ 4 ∷ 3 ∷ []

abbrev pub width : ℕ → ℕ
width class = get_or widths class 0

abbrev pub slots : ℕ → ℕ
slots class = get_or slot_counts class 0

-- the first class that is wide enough for the length
abbrev pub class_of : ℕ → Option ℕ
class_of len = position (λ words. nat_le len words) widths

-- it is wide enough for the length, and each class below it is not
pub record IsClassOf (len class : ℕ) : Type 0 where
  pub is_class : class < class_count
  pub wide_enough : len ≤ width class
  pub least : (c : ℕ) → c < class → width c < len

-- the slots of a page of a class fit its payload words
abbrev pub SlotsFitPage : Type 0
SlotsFitPage = (class : ℕ) → slots class * width class ≤ payload_words

-- each word of each slot fits the page too: the words of slot s are those from s * width on
abbrev pub SlotWordsFitPage : Type 0
SlotWordsFitPage =
    (class slot i : ℕ) → slot < slots class → i < width class → slot * width class + i < payload_words

-- a slot has no more words than a value may have
abbrev pub WidthsAreFew : Type 0
WidthsAreFew = (class : ℕ) → width class ≤ 16
