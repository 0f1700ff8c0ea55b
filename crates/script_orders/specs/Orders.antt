-- Orders of a script's lines, and what an order leads to.
use Rattle.std.specs.Prelude.{ℕ, ◌≡◌, ◌-◌, ◌<◌, ◌==◌, cond, Bool, true, false, List, [], ◌∷◌, ◌++◌, Some, None, length}
use Rattle.std.specs.Prelude.{slice_get}
use Rattle.std.specs.List.{All, filter, filter_map, range_with_len}
use Rattle.sh_step.specs.declared.action.Event.{Event}
use Rattle.sh_step.specs.Kinds.{kind_of_action}
use Rattle.sh_step.specs.Plans.{Plan}
use Rattle.sh_core.specs.declared.outcome.Outcome.{Outcome}
use Rattle.sh_core.specs.declared.outcome.Outcome.TheVariants.{Replied}
use Rattle.sh_core.specs.Outcomes.{outcome_of}
use Rattle.sh_core.specs.Worlds.{World, step}
use Rattle.script_models.specs.StepsOutput.{event_line}

-- ---- orders: lists of the numbers of lines, from 0

-- the line of this number is one of the pass's
abbrev pub is_of : List Event → (pass number : ℕ) → Bool
is_of lines pass number = elim (slice_get lines number) [ Some e ↦ e.pass == pass | None ↦ false ]

-- the pass's lines from one number on and before another, in their order
abbrev pub lines_within : List Event → (pass from to : ℕ) → List ℕ
lines_within lines pass from to = filter (is_of lines pass) (range_with_len from (to - from))

-- the line of this number is one of these passes'
abbrev pub IsOfSome : List Event → (passes number : ℕ) → Type 0
IsOfSome lines passes number = (a : ℕ) × (a < passes) × (is_of lines a number ≡ true)

-- it has all lines of these passes and no others, those of each pass in the script's order
pub record IsOrder (lines : List Event) (passes : ℕ) (order : List ℕ) : Type 0 where
  pub all : (a : ℕ) → a < passes → filter (is_of lines a) order ≡ lines_within lines a 0 (length lines)
  pub only : All (IsOfSome lines passes) order

-- ---- what an order leads to

-- the events of these lines
abbrev pub events_of : List Event → List ℕ → List Event
events_of lines order = filter_map (slice_get lines) order

-- the line of an event by its outcome, if it is a reply
abbrev pub reply_line : Event → Outcome → List ℕ
reply_line e (Replied entry) = event_line None e.pass (kind_of_action e.action) (Replied entry)
reply_line e _ = []

-- the reply lines of a pass, as events are done one after the other
unfoldable pub replies_from : Plan → World → List Event → (pass : ℕ) → List ℕ
replies_from plan w [] a = []
replies_from plan w (e ∷ es) a =
    cond (e.pass == a) (reply_line e (outcome_of plan w e)) [] ++ replies_from plan (step plan w e) es a
