-- Where the table has the word of each place: words that a call looks at together lie side by side.
--
-- First come 192 words of each page: 48 states, 48 lengths, 48 payload words and 48 links. Behind these words of all
-- pages come the classes of all pages, then a head and a link for each page, and at the end the
-- words of shards, which have the numbers of the core's list.
use Rattle.std.specs.Prelude.{ℕ, ◌≡◌, ◌+◌, ◌*◌, List, length, get_or}
use Rattle.sh_shape.specs.declared.places.Place.{Place}
use Rattle.sh_shape.specs.declared.places.Place.TheVariants.{Class, Head, PageLink, State, Link, Length, Payload, Owner}
use Rattle.sh_shape.specs.declared.places.Place.TheVariants.{Bell}
use Rattle.sh_shape.specs.Shape.{Numbers}
use Rattle.sh_shape.specs.Places.{IsPlace, number, words_of, all_pages}
use Rattle.sh_core.specs.Words.{Words, read}

-- one of a page's 192 words for its slots
abbrev pub in_page : (page offset : ℕ) → ℕ
in_page page offset = 192 * page + offset

-- the number of the table's word at a place
abbrev pub table_number : Numbers → Place → ℕ
table_number shape (Class page) = 192 * all_pages shape + page
table_number shape (Head page) = 193 * all_pages shape + 2 * page
table_number shape (PageLink page) = 193 * all_pages shape + (2 * page + 1)
table_number shape (State page slot) = in_page page slot
table_number shape (Length page slot) = in_page page (48 + slot)
table_number shape (Payload page i) = in_page page (96 + i)
table_number shape (Link page slot) = in_page page (144 + slot)
table_number shape (Owner shard) = number shape (Owner shard)
table_number shape (Bell shard) = number shape (Bell shard)

-- each place of the shape has its word in the list, at the place's number in the table
pub record HoldsInTable (shape : Numbers) (list : List ℕ) (words : Words) : Type 0 where
  pub count : length list ≡ words_of shape
  pub at : (p : Place) → IsPlace shape p → get_or list (table_number shape p) 0 ≡ read words p
