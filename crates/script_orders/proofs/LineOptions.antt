-- What is said of a line, or of what a pass did, that a list may lack.
use Rattle.std.proofs.Common.{◌≡◌, ℕ, ◌==◌, ◌&&◌, ◌≤◌, Bool, true, false, List, [], length, sym, ap, ◌∙◌, Option, Some}
use Rattle.std.proofs.Common.{None, slice_get}
use Rattle.std.proofs.lemmas.Bool.{eqb-true}
use Rattle.std.proofs.lemmas.Option.{slice_get_past}
use Rattle.sh_step.specs.declared.action.Event.{Event}
use Rattle.sh_step.specs.declared.body.Body.{Body}
use Rattle.sh_step.specs.Moves.{is_enabled}
use Rattle.sh_step.specs.Plans.{Plan}
use Rattle.sh_step.proofs.Truths.{and2}
use Rattle.script_orders.specs.Lanes.{Did}
use Rattle.script_orders.specs.Orders.{is_of, lines_within}
use Rattle.script_orders.specs.Reached.{is_due}

-- it is the pass's
abbrev pub pass_is : ℕ → Option Event → Bool
pass_is a o = elim o [ Some e ↦ e.pass == a | None ↦ false ]

abbrev pub may_do : Plan → List Body → ℕ → Event → Bool
may_do plan parts a e = elim (slice_get parts a) [ Some part ↦ is_enabled plan part e.action | None ↦ false ]

-- it is due
abbrev pub due : Plan → List Body → ℕ → Option Event → Bool
due plan parts a o = elim o [ Some e ↦ (e.pass == a) && may_do plan parts a e | None ↦ false ]

-- what the pass has left
abbrev pub left : List Event → ℕ → Option Did → List ℕ
left lines a o = elim o [ Some d ↦ lines_within lines a d.behind (length lines) | None ↦ [] ]

pub is_of_at : (lines : List Event) (a n : ℕ) (o : Option Event) → slice_get lines n ≡ o → is_of lines a n ≡ pass_is a o
is_of_at lines a n o at = ap (pass_is a) at

pub due_at : (plan : Plan) (parts : List Body) (lines : List Event) (a n : ℕ) (o : Option Event) → slice_get lines n ≡ o
    → is_due plan parts lines a n ≡ due plan parts a o
due_at plan parts lines a n o at = ap (due plan parts a) at

-- a line that is due is the pass's, and the pass may do it
pub due_event : (plan : Plan) (parts : List Body) (lines : List Event) (a n : ℕ) (e : Event)
    → slice_get lines n ≡ Some e
    → is_due plan parts lines a n ≡ true → (e.pass ≡ a) × (may_do plan parts a e ≡ true)
due_event plan parts lines a n e at h =
    let own = and2 (e.pass == a) (may_do plan parts a e) (sym (due_at plan parts lines a n (Some e) at) ∙ h) in
    (eqb-true e.pass a own.0, own.1)

-- a line of another pass is not due, and none is past the last one
pub other_not_due : (plan : Plan) (parts : List Body) (lines : List Event) (a n : ℕ) → is_of lines a n ≡ false
    → is_due plan parts lines a n ≡ false
other_not_due plan parts lines a n h = go (slice_get lines n) h where
  go : (o : Option Event) → pass_is a o ≡ false → due plan parts a o ≡ false
  go (Some e) k = ap (λ (b : Bool). b && may_do plan parts a e) k
  go None k = k

pub past_not_due : (plan : Plan) (parts : List Body) (lines : List Event) (a n : ℕ) → length lines ≤ n
    → is_due plan parts lines a n ≡ false
past_not_due plan parts lines a n past = due_at plan parts lines a n None (slice_get_past lines n past)

-- only the pass's own part matters
pub due_by_part : (plan : Plan) (parts others : List Body) (lines : List Event) (a n : ℕ)
    → slice_get parts a ≡ slice_get others a → is_due plan parts lines a n ≡ is_due plan others lines a n
due_by_part plan parts others lines a n same =
    ap (λ (o : Option Body). elim (slice_get lines n) as (λ _. Bool) [
      | Some e ↦ (e.pass == a) && (elim o as (λ _. Bool) [ Some part ↦ is_enabled plan part e.action | None ↦ false ])
      | None ↦ false
    ]) same
