-- The places of states by their marks.
use Rattle.std.specs.Prelude.{ℕ, ◌≡◌, ◌==◌, cond, true, List, [], ◌∷◌, ◌++◌, Option, Some, None, Vec, nat_eq, slice_get}
use Rattle.std.specs.HashMap.{HashMap, get}
use Rattle.std.specs.List.{list_any}
use Rattle.script_orders.specs.declared.state.State.{State}
use Rattle.script_orders.specs.Marks.{mark_of}

abbrev pub items_in : {Z : Type 0} → Option (Vec ℕ Z) → List ℕ
items_in (Some places) = places.items
items_in None = []

-- the places with this mark
abbrev pub places_of : {Z S : Type 0} → HashMap ℕ (Vec ℕ Z) S → (mark : ℕ) → List ℕ
places_of map mark = items_in (get nat_eq map mark)

-- each state has its place there with its mark
abbrev pub AllFiled : {Z S : Type 0} → HashMap ℕ (Vec ℕ Z) S → List State → Type 0
AllFiled map states = (place : ℕ) (s : State) → slice_get states place ≡ Some s
    → list_any (nat_eq place) (places_of map (mark_of s)) ≡ true

-- the place comes last to those with the mark
abbrev pub Files : {Z S : Type 0} → HashMap ℕ (Vec ℕ Z) S → (mark place : ℕ) → HashMap ℕ (Vec ℕ Z) S → Type 0
Files old mark place new =
    (m : ℕ) → places_of new m ≡ cond (mark == m) (places_of old m ++ place ∷ []) (places_of old m)
