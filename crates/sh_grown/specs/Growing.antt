-- How a growing heap is opened, which shape each of its chunks has, and why a further chunk is not opened.
use Rattle.std.specs.Prelude.{◌≡◌, ◌==◌, ℕ, ◌≤◌, ◌⊎◌, if◌then◌else◌, Option, None, Result, Ok, Err, length}
use Rattle.sh_table.specs.Seats.{Heap}
use Rattle.sh_shape.specs.Rooms.{IsLeastRoomy, NoneRoomy}
use Rattle.sh_shape.specs.Shape.{Numbers}
use Rattle.sh_chunk.specs.Chunks.{chunked}
use Rattle.sh_value.specs.declared.refusal.Refusal.{Refusal}
use Rattle.sh_value.specs.declared.refusal.Refusal.TheVariants as refusal
use Rattle.sh_grown.specs.ChunkShapes.{shape_of}
use Rattle.sh_grown.specs.declared.growing.Growing.{Growing}

-- the numbers of passes and chunks that a growing heap may have
pub record IsGrowing (passes chunks : ℕ) : Type 0 where
  pub some_pass : 1 ≤ passes
  pub few_passes : passes ≤ 64
  pub some_chunk : 1 ≤ chunks
  pub few_chunks : chunks ≤ 256

-- the shape of the chunk of this number: the first one has its own, each other one that of its number
abbrev pub shape_in : Growing → ℕ → Numbers
shape_in growing number = if number == 0 then growing.first else shape_of number growing.passes

-- a growing heap with these numbers is opened, unless a number is outside its limits or memory is refused
abbrev pub OpensGrowing : (passes chunks : ℕ) → Result Growing Refusal → Type 0
OpensGrowing passes chunks (Ok growing) = IsGrowing passes chunks × (growing.passes ≡ passes)
    × (length growing.cells.items ≡ chunks) × (growing.first ≡ shape_of 0 passes)
OpensGrowing passes chunks (Err refusal.BadShape) = ¬ IsGrowing passes chunks
OpensGrowing passes chunks (Err refusal.Memory) = IsGrowing passes chunks
OpensGrowing passes chunks (Err _) = ⊥

-- the same with the least first chunk that has this room, unless no shape of a chunk has it
abbrev pub OpensGrowingFor : (owners values words passes chunks : ℕ) → Result Growing Refusal → Type 0
OpensGrowingFor owners values words passes chunks (Ok growing) = IsGrowing passes chunks × (growing.passes ≡ passes)
    × (length growing.cells.items ≡ chunks) × IsLeastRoomy chunked owners values words passes growing.first
OpensGrowingFor owners values words passes chunks (Err refusal.BadShape) =
    (¬ IsGrowing passes chunks) ⊎ NoneRoomy chunked owners values words passes
OpensGrowingFor owners values words passes chunks (Err refusal.Memory) = IsGrowing passes chunks
OpensGrowingFor owners values words passes chunks (Err _) = ⊥

-- why a chunk is not opened: memory was refused to one of which nothing was known, or it is not a chunk of this heap
abbrev pub WhyUnopened : (known : Option Heap) → Refusal → Type 0
WhyUnopened known refusal.Memory = known ≡ None
WhyUnopened known refusal.BadKey = Unit {0}
WhyUnopened known _ = ⊥
