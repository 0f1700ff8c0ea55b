-- The places of a heap's words, and the number of each place among the words.
--
-- A page has 195 words: its class, its head and its page link; for each of 48 slots a state, a link and a length; and
-- 48 payload words. After all pages each shard has two: its owner word and its bell.
use Rattle.std.specs.Prelude.{◌≡◌, ℕ, ◌+◌, ◌*◌, ◌<◌}
use Rattle.sh_shape.specs.declared.places.Place.{Place}
use Rattle.sh_shape.specs.declared.places.Place.TheVariants.{Class, Head, PageLink, State, Link, Length, Payload, Owner}
use Rattle.sh_shape.specs.declared.places.Place.TheVariants.{Bell}
use Rattle.sh_shape.specs.Shape.{Numbers, segment_pages}

-- the number of slots for which a page has places, and of its payload words
abbrev pub slot_places : ℕ
slot_places = 48

abbrev pub payload_words : ℕ
payload_words = 48

-- The offset in a page's words at which each kind of word begins. The states come after the class, the head and the
-- page link, and each other kind after the kind before it
abbrev pub first_state : ℕ
first_state = 3

abbrev pub first_link : ℕ
first_link = first_state + slot_places

abbrev pub first_length : ℕ
first_length = first_link + slot_places

abbrev pub first_payload : ℕ
first_payload = first_length + slot_places

-- how many words a page has
abbrev pub page_words : ℕ
page_words = first_payload + payload_words

-- how many pages a shard has
abbrev pub pages_of : Numbers → ℕ
pages_of shape = segment_pages * shape.segments

-- how many pages all shards have together
abbrev pub all_pages : Numbers → ℕ
all_pages shape = shape.shards * pages_of shape

-- the number of a shard's page over the whole heap
abbrev pub page_number : Numbers → (shard page : ℕ) → ℕ
page_number shape shard page = shard * pages_of shape + page

-- two shards, or two pages of a shard, have two page numbers
abbrev pub PagesDiffer : Type 0
PagesDiffer =
    (shape : Numbers) (shard page other_shard other_page : ℕ) → page < pages_of shape → other_page < pages_of shape
    → page_number shape shard page ≡ page_number shape other_shard other_page → (shard ≡ other_shard)
    × (page ≡ other_page)

-- each page of the heap is one of a shard
abbrev pub PagesHaveShards : Type 0
PagesHaveShards =
    (shape : Numbers) (n : ℕ) → n < all_pages shape
    → (shard : ℕ) × (page : ℕ) × (shard < shape.shards) × (page < pages_of shape) × (page_number shape shard page ≡ n)

-- the place is one of the heap; a page is given by its number over the whole heap
abbrev pub IsPlace : Numbers → Place → Type 0
IsPlace shape (Class page) = page < all_pages shape
IsPlace shape (Head page) = page < all_pages shape
IsPlace shape (PageLink page) = page < all_pages shape
IsPlace shape (State page slot) = (page < all_pages shape) × (slot < slot_places)
IsPlace shape (Link page slot) = (page < all_pages shape) × (slot < slot_places)
IsPlace shape (Length page slot) = (page < all_pages shape) × (slot < slot_places)
IsPlace shape (Payload page i) = (page < all_pages shape) × (i < payload_words)
IsPlace shape (Owner shard) = shard < shape.shards
IsPlace shape (Bell shard) = shard < shape.shards

-- the number of the word at a place
abbrev pub number : Numbers → Place → ℕ
number shape (Class page) = page_words * page
number shape (Head page) = page_words * page + 1
number shape (PageLink page) = page_words * page + 2
number shape (State page slot) = page_words * page + (first_state + slot)
number shape (Link page slot) = page_words * page + (first_link + slot)
number shape (Length page slot) = page_words * page + (first_length + slot)
number shape (Payload page i) = page_words * page + (first_payload + i)
number shape (Owner shard) = page_words * all_pages shape + 2 * shard
number shape (Bell shard) = page_words * all_pages shape + 2 * shard + 1

-- how many words the heap has
abbrev pub words_of : Numbers → ℕ
words_of shape = page_words * all_pages shape + 2 * shape.shards

-- no two places have the same number
abbrev pub PlacesDiffer : Type 0
PlacesDiffer =
    (shape : Numbers) (a b : Place) → IsPlace shape a → IsPlace shape b → number shape a ≡ number shape b → a ≡ b

-- each place is one of the words
abbrev pub PlacesAreWords : Type 0
PlacesAreWords = (shape : Numbers) (a : Place) → IsPlace shape a → number shape a < words_of shape

-- each word is at a place
abbrev pub WordsHavePlaces : Type 0
WordsHavePlaces =
    (shape : Numbers) (n : ℕ) → n < words_of shape → (a : Place) × IsPlace shape a × (number shape a ≡ n)
