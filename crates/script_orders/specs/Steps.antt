-- Orders of steps, and how many of them lead to an outcome.
use Rattle.std.specs.Prelude.{ℕ, zero, suc, ◌≡◌, ◌+◌, ◌-◌, ◌^◌, ◌&&◌, min, cond, Bool, true, false, List, [], ◌∷◌}
use Rattle.std.specs.Prelude.{◌++◌, Some}
use Rattle.std.specs.Prelude.{length, map, slice_get, take, vec_items}
use Rattle.std.specs.List.{count_by, filter, flat_map, fold, range_with_len, sum_by}
use Rattle.std.specs.Cmp.Lexicographic.{pointwise}
use Rattle.std.specs.Str.{bytes_eq}
use Rattle.sh_key.specs.Layout.{Layout}
use Rattle.sh_step.specs.declared.action.Event.{Event}
use Rattle.script_orders.specs.declared.found.Program.{Program}
use Rattle.script_orders.specs.declared.found.Found.{Found}
use Rattle.script_orders.specs.declared.found.Explored.{Explored}
use Rattle.script_orders.specs.declared.found.Explored.TheVariants.{Whole, Cut}
use Rattle.script_orders.specs.Orders.{is_of}
use Rattle.script_orders.specs.Reached.{plan_in, world_by, is_due, all_replies_by, pages_asked}

-- ---- orders of steps: lists of the lines that are done, one after the other

-- where the pass goes on after these steps: behind the last line that it did
abbrev pub behind_by : List Event → (steps : List ℕ) → (pass : ℕ) → ℕ
behind_by lines steps pass = fold (λ (behind n : ℕ). cond (is_of lines pass n) (n + 1) behind) 0 steps

-- the next step of the pass, if it has one: the first line there whose condition holds
unfoldable pub next_step : Layout → Program → (steps : List ℕ) → (pass : ℕ) → List ℕ
next_step layout p steps pass =
    take 1 (filter (is_due (plan_in layout p) (world_by layout p steps).parts p.lines.now pass)
    (range_with_len (behind_by p.lines.now steps pass)
    (length p.lines.now - behind_by p.lines.now steps pass)))

-- the steps that may follow: the next one of each pass
abbrev pub may_follow : Layout → Program → (steps : List ℕ) → List ℕ
may_follow layout p steps = flat_map (next_step layout p steps) (range_with_len 0 p.shape.passes)

-- these steps with one more, in each way
abbrev pub longer_by : Layout → Program → (steps : List ℕ) → List (List ℕ)
longer_by layout p steps = map (λ n. steps ++ n ∷ []) (may_follow layout p steps)

-- all orders of so many steps
unfoldable pub orders_of : Layout → Program → (count : ℕ) → List (List ℕ)
orders_of layout p zero = [] ∷ []
orders_of layout p (suc n) = flat_map (longer_by layout p) (orders_of layout p n)

-- ---- how many there are

abbrev pub is_empty : List ℕ → Bool
is_empty [] = true
is_empty (n ∷ ns) = false

-- no step may follow
abbrev pub is_end : Layout → Program → (steps : List ℕ) → Bool
is_end layout p steps = is_empty (may_follow layout p steps)

abbrev pub is_outcome : Layout → Program → (replies : List (List ℕ)) → (pages : List ℕ) → (steps : List ℕ) → Bool
is_outcome layout p replies pages steps =
    pointwise bytes_eq replies (all_replies_by layout p steps) && bytes_eq pages (pages_asked layout p steps)

-- of the orders of fewer than `most` steps, how many end with these replies and pages
unfoldable pub number_below : Layout → Program → (replies : List (List ℕ)) → (pages : List ℕ) → (most : ℕ) → ℕ
number_below layout p replies pages most =
    sum_by (λ n. count_by (λ steps. is_end layout p steps && is_outcome layout p replies pages steps)
    (orders_of layout p n)) (range_with_len 0 most)

-- So many orders end with these replies and pages, or more if it is the greatest number of 128 bits. No order has
-- `most` steps
pub record IsNumber (layout : Layout) (p : Program) (replies : List (List ℕ)) (pages : List ℕ) (count : ℕ) : Type
    0 where
  pub most : ℕ
  pub none : orders_of layout p most ≡ []
  pub is : count ≡ min (number_below layout p replies pages most) (2 ^ 128 - 1)

-- the number of orders of each outcome
abbrev pub AreCounted : Layout → Program → Explored → Type 0
AreCounted layout p (Whole whole) = (place : ℕ) (f : Found) → slice_get whole.found.items place ≡ Some f
    → IsNumber layout p (map vec_items f.replies.items) f.pages.items f.orders.count
AreCounted layout p (Cut cut) = Unit {0}

-- no outcome is there twice
abbrev pub AllOnce : List Found → Type 0
AllOnce found = (i j : ℕ) (f g : Found) → slice_get found i ≡ Some f → slice_get found j ≡ Some g
    → map vec_items f.replies.items ≡ map vec_items g.replies.items → f.pages.items ≡ g.pages.items → i ≡ j

abbrev pub AreOnce : Explored → Type 0
AreOnce (Whole whole) = AllOnce whole.found.items
AreOnce (Cut cut) = Unit {0}
