-- What is kept of the pages of a shard.
use Rattle.std.specs.Prelude.{◌≡◌, ℕ, suc, ◌+◌, ◌-◌, ◌<◌, ◌≤◌, false, List, [], ◌∷◌, ◌++◌, length, replicate, get_or}
use Rattle.std.specs.Prelude.{slice_set, Option, None}
use Rattle.sh_lists.specs.Lists.{Lists, refilled}
use Rattle.sh_lists.specs.Numbers.{Misses}
use Rattle.sh_shape.specs.Classes.{slots}
use Rattle.sh_states.specs.declared.states.PageState.{PageState}

-- no slot is the owner's, and there is no cursor
abbrev pub bare_lists : Lists
bare_lists = record { free = []; local = []; cursor = None }

-- the state of a blank page: it has no class, and none of its slots is the owner's
abbrev pub blank_state : PageState
blank_state = record { lists = bare_lists; class_word = 0; armed = false }

-- what is kept of page p
abbrev pub state_at : List PageState → ℕ → PageState
state_at states p = get_or states p blank_state

-- the number of the page's slots that are its owner's
abbrev pub kept_slots : PageState → ℕ
kept_slots st = length st.lists.free + length st.lists.local

-- the page has a class, and all its slots are its owner's
pub record WholeState (st : PageState) : Type 0 where
  pub class : ℕ
  pub classed : st.class_word ≡ suc class
  pub all : slots class ≤ kept_slots st

-- none of the pages below n is whole
abbrev pub NoneWholeBelow : ℕ → List PageState → Type 0
NoneWholeBelow n states = (p : ℕ) → p < n → ¬ WholeState (state_at states p)

-- page p is the first that is whole
pub record FirstWhole (p : ℕ) (states : List PageState) : Type 0 where
  pub whole : WholeState (state_at states p)
  pub none : NoneWholeBelow p states

-- ---- what the calls leave of a page

-- its lists are these
abbrev pub with_lists : PageState → Lists → PageState
with_lists st lists = record { lists = lists; class_word = st.class_word; armed = st.armed }

-- a slot is put in front of `local`
abbrev pub with_local : PageState → ℕ → PageState
with_local st s = with_lists st (record st.lists { local = s ∷ st.lists.local })

-- a slot that was read is put behind `free`, and reading continues at the cursor
abbrev pub with_read : PageState → ℕ → Option ℕ → PageState
with_read st s cursor = with_lists st
    (record { free = st.lists.free ++ s ∷ []; local = st.lists.local; cursor = cursor })

-- the next slot of page p is used: the front of `free`, or of `local` if that was empty
pub record UsesNext (p slot : ℕ) (old new : List PageState) : Type 0 where
  pub lists : Lists
  pub front : refilled (state_at old p).lists ≡ record lists { free = slot ∷ lists.free }
  pub apart : Misses slot (lists.free ++ lists.local)
  pub left : new ≡ slice_set old p (with_lists (state_at old p) lists)

-- ---- how they are kept

-- the states of n pages: these are written, and the others are blank
abbrev pub padded : ℕ → List PageState → List PageState
padded n states = states ++ replicate (n - length states) blank_state

-- what is true of the written states: they are for at most this many pages, each class is one of 8, and no page below
-- the bound is whole
pub record KeepsStates (states : List PageState) (count bound : ℕ) : Type 0 where
  pub few : length states ≤ count
  pub classes : (p : ℕ) → (state_at states p).class_word ≤ 8
  pub none_whole : NoneWholeBelow bound states
