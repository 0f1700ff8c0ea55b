-- The live keys of a heap of which all passes met, one after the other.
use Rattle.std.specs.Prelude.{◌≡◌, ◌+◌, ◌<◌, ◌≤◌, ℕ, Option, Some, None}
use Rattle.sh_key.specs.Layout.{Layout}
use Rattle.sh_pass.specs.Passes.{Caller}
use Rattle.sh_gather.specs.LiveKeys.{IsLiveAt, NoneLiveAt, all_places}
use Rattle.sh_pass.specs.declared.next_key.NextKey.{NextKey}

-- from this place on and before that one no key is live
abbrev pub NoneLiveBetween : Layout → Caller → (from before : ℕ) → Type 0
NoneLiveBetween layout c from before = (n : ℕ) → from ≤ n → n < before → NoneLiveAt layout c.view n

-- the key is live, at the first such place from this one on; the returned number is that of the next place
pub record IsFirstKey (layout : Layout) (c : Caller) (from : ℕ) (next : NextKey) : Type 0 where
  pub place : ℕ
  pub behind : next.behind ≡ place + 1
  pub from_there : from ≤ place
  pub inside : place < all_places c.heap.shape
  pub live : IsLiveAt layout c.view place next.key
  pub before : NoneLiveBetween layout c from place

-- the first live key from this place on, or there is none
abbrev pub IsNextKey : Layout → Caller → (from : ℕ) → Option NextKey → Type 0
IsNextKey layout c from (Some next) = IsFirstKey layout c from next
IsNextKey layout c from None = NoneLiveBetween layout c from (all_places c.heap.shape)
