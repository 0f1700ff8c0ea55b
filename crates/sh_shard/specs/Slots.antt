-- The slots of a page that are its owner's, in the order of its two lists, and which of them an insert takes.
use Rattle.std.specs.Prelude.{◌≡◌, ℕ, [], ◌⊎◌}
use Rattle.sh_lists.specs.Lists.{Lists}
use Rattle.sh_lists.specs.Numbers.{upward}
use Rattle.sh_shape.specs.Classes.{slots}

-- the same slots, in the same lists and the same order
pub record SameSlots (g h : Lists) : Type 0 where
  pub free : h.free ≡ g.free
  pub local : h.local ≡ g.local

-- no slot is the owner's
pub record NoSlots (g : Lists) : Type 0 where
  pub free : g.free ≡ []
  pub local : g.local ≡ []

-- a page that had a slot has the same slots: what others freed is read only if it had none
abbrev pub OwnFirst : Lists → Lists → Type 0
OwnFirst g h = SameSlots g h ⊎ NoSlots g

-- all slots of class c are in `free`, 0 first
pub record AllFree (c : ℕ) (g : Lists) : Type 0 where
  pub free : g.free ≡ upward 0 (slots c)
  pub local : g.local ≡ []
