-- The places of a shard's slots: 48 for each page, in the order of its pages.
use Rattle.std.specs.Prelude.{ℕ, ◌*◌}
use Rattle.sh_shape.specs.Places.{pages_of, slot_places}
use Rattle.sh_shard.specs.Pages.{Paged}

-- how many places the shard has
abbrev pub place_count : Paged → ℕ
place_count v = pages_of v.owner.view.shape * slot_places

-- the first of them among the places of the heap: each shard before it has as many pages
abbrev pub first_place : Paged → ℕ
first_place v = v.shard * pages_of v.owner.view.shape * slot_places
