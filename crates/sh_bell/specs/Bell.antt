-- The head words of pages, which say whether a page is armed, and the bells of shards, which name pages.
use Rattle.std.specs.Prelude.{ℕ, ◌+◌, ◌-◌, ◌*◌, ◌/◌, ◌%◌, ◌==◌, nat_lt, Bool, cond}

-- a head word is its top doubled, plus 1 if the page is armed
abbrev pub is_armed : ℕ → Bool
is_armed head = head % 2 == 1

abbrev pub top_of : ℕ → ℕ
top_of head = head / 2

abbrev pub head_word : ℕ → ℕ
head_word top = top * 2

-- the shard of a page, and the page's number there, given the number of pages of a shard
abbrev pub shard_of_page : (pages page : ℕ) → ℕ
shard_of_page pages page = page / pages

abbrev pub local_of : (pages page : ℕ) → ℕ
local_of pages page = page % pages

-- A word of shard n that names its page p as p + k, and none below k: the same with the page's number over the whole
-- heap
abbrev pub named_over_heap : (pages n k word : ℕ) → ℕ
named_over_heap pages n k word = cond (nat_lt word k) word (n * pages + (word - k) + k)
