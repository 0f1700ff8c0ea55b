-- What is printed of an exploration.
use Rattle.std.specs.Prelude.{ℕ, ◌-◌, ◌^◌, ◌==◌, cond, List, ◌++◌, codes, decimal, take, drop}
use Rattle.std.specs.Prelude.{slice_get, vec_items}
use Rattle.std.specs.List.{flat_map, filter_map}
use Rattle.script_output.specs.Numbers.{words_text}
use Rattle.script_orders.specs.declared.found.Cut.{Cut}
use Rattle.script_orders.specs.declared.found.Found.{Found}
use Rattle.script_orders.specs.declared.found.Limit.{Limit}
use Rattle.script_orders.specs.declared.found.Limit.TheVariants as limit
use Rattle.script_orders.specs.declared.orders.Orders.{Orders}
use Rattle.script_orders.specs.declared.found.Program.{Program}
use Rattle.script_orders.specs.declared.found.Whole.{Whole}

-- the greatest number of 128 bits means that there may be more
abbrev pub orders_text : Orders → List ℕ
orders_text orders = cond (orders.count == 2 ^ 128 - 1) (codes "2^128 - 1 or more") (decimal orders.count)

-- the pass of each step
abbrev pub passes_text : List ℕ → List ℕ
passes_text passes = codes "; order" ++ (words_text passes ++ codes "\n")

-- what the passes were replied, what the pages have, and one order that leads there
abbrev pub end_text : Found → List ℕ
end_text f = flat_map vec_items f.replies.items ++ (f.pages.items ++ passes_text f.passes.items)

-- an outcome, by its number
abbrev pub found_text : (number : ℕ) → Found → List ℕ
found_text number f = codes "\noutcome " ++ decimal number ++ (codes " orders " ++ orders_text f.orders)
    ++ codes "\n" ++ end_text f

-- how many states, ends and orders there are
abbrev pub counts_text : Whole → List ℕ
counts_text w = codes "; states " ++ decimal w.states ++ (codes "\n; ends " ++ decimal w.ends)
    ++ (codes "\norders " ++ orders_text w.orders) ++ codes "\n"

-- the limit that was passed
abbrev pub limit_text : Limit → Program → List ℕ
limit_text limit.States p = codes "more than " ++ decimal p.limit ++ codes " states: "
limit_text limit.Bytes p = codes "more than " ++ decimal p.bytes ++ codes " bytes: states "

-- how far an exploration came that passed a limit
abbrev pub cut_text : Cut → Program → List ℕ
cut_text cut p = limit_text cut.limit p ++ decimal cut.states
    ++ (codes " after fewer than " ++ decimal cut.steps)
    ++ (codes " steps, and too many after " ++ decimal cut.steps)

-- ---- the script of a witness

abbrev pub line_text : List ℕ → List ℕ
line_text line = line ++ codes "\n"

-- The first lines, the comment, and then those of the lines after them that have these numbers, from 0. Each line has
-- this text.
abbrev pub witness_text : {L : Type 0} (text : L → List ℕ) (lines : List L) (first : ℕ) (order : List ℕ) → List ℕ
witness_text text lines first order =
    flat_map (λ l. line_text (text l)) (take first lines) ++ (line_text (codes "; explore")
    ++ flat_map (λ l. line_text (text l)) (filter_map (slice_get (drop first lines)) order))
