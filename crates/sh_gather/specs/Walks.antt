-- What is noted on the way down a page's stack.
use Rattle.std.specs.Prelude.{◌≡◌, ℕ, ◌+◌, ◌/◌, List, [], ◌∷◌, Some, slice_get}
use Rattle.sh_shape.specs.declared.places.Place.{Place}
use Rattle.sh_shape.specs.declared.places.Place.TheVariants.{Head, Link}
use Rattle.sh_table.specs.declared.view.View.{View}

-- the word of the place was noted, and is this one
abbrev pub IsNoted : View → Place → ℕ → Type 0
IsNoted v place n = (i : ℕ) × (slice_get v.noted i ≡ Some (place, n))

-- The slots from the one that `from` names down to before the one that `to` names. The name of a slot is its number
-- plus one, and 0 names none. The link of each was noted, and is one more than the name of the next
abbrev pub WalksDown : View → (q from : ℕ) → List ℕ → ℕ → Type 0
WalksDown v q from [] to = from ≡ to
WalksDown v q from (s ∷ rest) to =
    (from ≡ s + 1) × ((next : ℕ) × IsNoted v (Link q s) (next + 1) × WalksDown v q next rest to)

-- they are the whole stack of page q: the head word, which was noted, names the first, and the link of the last is 1
abbrev pub IsWholeStack : View → ℕ → List ℕ → Type 0
IsWholeStack v q slots = (head : ℕ) × IsNoted v (Head q) head × WalksDown v q (head / 2) slots 0
