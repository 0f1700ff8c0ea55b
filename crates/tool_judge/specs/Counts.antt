-- What is counted, and the number of each.
use Rattle.std.specs.Prelude.{◌≡◌, ℕ, ◌+◌, ◌-◌, ◌^◌, min, slice_index, slice_set}
use Rattle.tool_judge.specs.declared.counts.Count.{Count}
use Rattle.tool_judge.specs.declared.counts.Count.TheVariants as count
use Rattle.tool_judge.specs.declared.counts.Counts.{Counts}

-- the place of the number of each
abbrev pub place_of : Count → ℕ
place_of count.Inserts = 0
place_of count.Fulls = 1
place_of count.Gets = 2
place_of count.BadKeys = 3
place_of count.Gones = 4
place_of count.Crowdeds = 5
place_of count.HoldsFulls = 6
place_of count.Reads = 7
place_of count.Looks = 8
place_of count.Removes = 9
place_of count.Releases = 10
place_of count.Adoptions = 11
place_of count.Takens = 12
place_of count.Leaves = 13
place_of count.Waitings = 14
place_of count.Begun = 15
place_of count.Acts = 16
place_of count.Stands = 17
place_of count.Marks = 18
place_of count.Keys = 19
place_of count.Entries = 20
place_of count.Pages = 21
place_of count.Live = 22
place_of count.Marked = 23
place_of count.Retired = 24
place_of count.Queued = 25
place_of count.Ends = 26

-- how often this was counted
abbrev pub number_of : Counts → Count → ℕ
number_of counts count = slice_index counts.numbers (place_of count)

-- the number, or the greatest number of 64 bits if it is above that
abbrev pub saturated : ℕ → ℕ
saturated n = min n (2 ^ 64 - 1)

-- the counts after this was counted `more` times, and nothing besides
abbrev pub counted : Count → ℕ → Counts → Counts
counted count more counts =
    record counts { numbers = slice_set counts.numbers (place_of count) (saturated (number_of counts count + more)) }

-- of each thing the count is the sum of both
abbrev pub CountsBoth : (one other both : Counts) → Type 0
CountsBoth one other both =
    (count : Count) → number_of both count ≡ saturated (number_of one count + number_of other count)
