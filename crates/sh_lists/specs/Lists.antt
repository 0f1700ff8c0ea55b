-- The two lists of free slots of a page.
use Rattle.std.specs.Prelude.{◌≡◌, ℕ, zero, suc, ◌<◌, List, [], ◌∷◌, ◌++◌, get_or, Option, IfSome}
use Rattle.sh_shape.specs.Places.{slot_places}
use Rattle.sh_lists.specs.Numbers.{Distinct, AllBelow}

-- the slots that allocation takes, the owner's own frees, each list from its front, and the slot at which reading the
-- page's stack continues
pub record Lists : Type 0 where
  pub free : List ℕ
  pub local : List ℕ
  pub cursor : Option ℕ

-- a slot is in at most one of the lists, and there once; it is one that a page has a place for, and so is the cursor
pub record SlotsOnce (l : Lists) : Type 0 where
  pub distinct : Distinct (l.free ++ l.local)
  pub small : AllBelow slot_places (l.free ++ l.local)
  pub cursor : IfSome l.cursor (λ slot. slot < slot_places)

-- `local` has become `free` if that was empty
abbrev pub refilled_by : List ℕ → Lists → Lists
refilled_by [] l = record l { free = l.local; local = [] }
refilled_by (_ ∷ _) l = l

abbrev pub refilled : Lists → Lists
refilled l = refilled_by l.free l

-- n places from i on, each of which leads to the next
abbrev pub walk : List ℕ → ℕ → ℕ → List ℕ
walk next i zero = []
walk next i (suc n) = i ∷ walk next (get_or next i 0) n

-- the last of the numbers, or x if there is none, is e
abbrev pub LastFrom : ℕ → List ℕ → ℕ → Type 0
LastFrom x [] e = x ≡ e
LastFrom x (y ∷ ys) e = LastFrom y ys e

-- the last of the numbers, if there is one, is e
abbrev pub EndsIn : List ℕ → ℕ → Type 0
EndsIn [] e = Unit {0}
EndsIn (x ∷ xs) e = LastFrom x xs e

-- the slots of the two lists differ, and each list has this end
pub record Threaded (free : List ℕ) (free_end : ℕ) (local : List ℕ) (local_end : ℕ) : Type 0 where
  pub distinct : Distinct (free ++ local)
  pub small : AllBelow slot_places (free ++ local)
  pub free_ends : EndsIn free free_end
  pub local_ends : EndsIn local local_end
