-- What a trace sees of a world.
use Rattle.std.specs.Prelude.{◌≡◌, ℕ, ◌+◌, ◌-◌, ◌*◌, ◌^◌, ◌==◌, ◌&&◌, nat_lt, min, Bool, false, Option, Some, None}
use Rattle.std.specs.Prelude.{slice_get, unwrap_or, if◌then◌else◌}
use Rattle.sh_shape.specs.declared.places.Place.{Place}
use Rattle.sh_shape.specs.declared.places.Place.TheVariants.{Class, Head, PageLink, State, Link, Length, Payload, Owner}
use Rattle.sh_shape.specs.declared.places.Place.TheVariants.{Bell}
use Rattle.sh_shape.specs.Shape.{Numbers}
use Rattle.sh_shape.specs.Places.{number, all_pages, pages_of, slot_places, payload_words}
use Rattle.sh_key.specs.Tag.{with_tag}
use Rattle.sh_step.specs.declared.body.Body.{Body}
use Rattle.sh_core.specs.Kept.{KeptWorld}
use Rattle.script_show.specs.declared.view.View.{View}

-- the view is on this world, whose keys are written with this tag
pub record IsViewOf (world : KeptWorld) (tag : Option ℕ) (view : View) : Type 0 where
  pub shape_is : view.shape ≡ world.shape
  pub parts_are : view.parts.now ≡ world.parts
  pub log_is : view.log.now ≡ world.log
  pub tag_is : view.tag ≡ tag
  pub words_are : view.words.now ≡ world.words

-- the heap has the place
abbrev pub has_place : Numbers → Place → Bool
has_place shape (Class page) = nat_lt page (all_pages shape)
has_place shape (Head page) = nat_lt page (all_pages shape)
has_place shape (PageLink page) = nat_lt page (all_pages shape)
has_place shape (State page slot) = nat_lt page (all_pages shape) && nat_lt slot slot_places
has_place shape (Link page slot) = nat_lt page (all_pages shape) && nat_lt slot slot_places
has_place shape (Length page slot) = nat_lt page (all_pages shape) && nat_lt slot slot_places
has_place shape (Payload page i) = nat_lt page (all_pages shape) && nat_lt i payload_words
has_place shape (Owner shard) = nat_lt shard shape.shards
has_place shape (Bell shard) = nat_lt shard shape.shards

-- the word at a place; 0 if the heap has no such place
abbrev pub word_seen : View → Place → ℕ
word_seen view place =
    if has_place view.shape place then unwrap_or (slice_get view.words.now (number view.shape place)) 0 else 0

-- a number that stops at the greatest one of 64 bits
abbrev pub saturated : ℕ → ℕ
saturated n = min n (2 ^ 64 - 1)

-- the number of a payload word in its page, for a slot's word in slots of this width
abbrev pub payload_at : (slot width number : ℕ) → ℕ
payload_at slot width n = saturated (saturated (slot * width) + n)

-- the number of a shard's page over the whole heap
abbrev pub page_over_heap : Numbers → (shard page : ℕ) → ℕ
page_over_heap shape shard page = saturated (saturated (shard * pages_of shape) + page)

-- the pass with this part owns the shard
abbrev pub is_shard : ℕ → Option ℕ → Bool
is_shard shard None = false
is_shard shard (Some owned) = owned == shard

abbrev pub owns : ℕ → Body → Bool
owns shard part = is_shard shard part.owned

-- a key as a script writes it: with the tag, if there is one and the key leaves room for it
abbrev pub key_written : Option ℕ → ℕ → ℕ
key_written None key = key
key_written (Some tag) key = if nat_lt key (2 ^ 52) then with_tag key tag else key
