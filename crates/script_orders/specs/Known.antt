-- What a pass does next, by what it did and the word that it finds.
use Rattle.std.specs.Prelude.{ℕ, ◌≡◌, ◌<◌, Bool, true, false, List, Option, Some, None, slice_get}
use Rattle.std.specs.Rc.{rc_value}
use Rattle.sh_key.specs.Layout.{Layout}
use Rattle.sh_history.specs.declared.entry.Entry.TheVariants.{Got}
use Rattle.sh_shape.specs.Places.{words_of}
use Rattle.sh_step.specs.declared.action.Event.{Event}
use Rattle.sh_step.specs.Moves.{row_of}
use Rattle.sh_core.specs.declared.outcome.Outcome.{Outcome}
use Rattle.sh_core.specs.declared.outcome.Outcome.TheVariants.{Replied}
use Rattle.sh_core.specs.Outcomes.{outcome_of, done}
use Rattle.sh_core.specs.Worlds.{World, entry_of}
use Rattle.script_orders.specs.declared.changes.Change.{Change}
use Rattle.script_orders.specs.declared.found.Program.{Program}
use Rattle.script_orders.specs.declared.known.Known.{Known}
use Rattle.script_orders.specs.declared.known.NextStep.{NextStep}
use Rattle.script_orders.specs.declared.state.State.{State}
use Rattle.script_orders.specs.Changes.{word_in}
use Rattle.script_orders.specs.Lanes.{Did, did, and_then}
use Rattle.script_orders.specs.Orders.{reply_line}
use Rattle.script_orders.specs.Reached.{plan_in, world_by, lanes_of, IsNext, IsReached, Rests}
use Rattle.script_orders.specs.Seen.{Touches}

-- the reply has the value of a slot
abbrev pub shows_value : Outcome → Bool
shows_value (Replied (Got a k v)) = true
shows_value _ = false

-- In the world the pass, which did d, does this step next. If its reply has no value, no other word matters to the reply
pub record TakesStep (layout : Layout) (p : Program) (w : World) (pass : ℕ) (d : Did) (next : NextStep) : Type 0 where
  pub line : ℕ
  pub event : Event
  pub seen : ℕ
  pub is_next : IsNext (plan_in layout p) w.parts p.lines.now pass d.behind line
  pub there : slice_get p.lines.now line ≡ Some event
  pub touches : Touches p.shape (plan_in layout p) w event next.number next.found seen next.left
  pub inside : next.number < words_of p.shape
  pub then_did : did (rc_value next.lane)
      ≡ and_then d line seen (reply_line event (outcome_of (plan_in layout p) w event))
  pub alike : next.has_value ≡ false → (v : List ℕ) → outcome_of (plan_in layout p) w event
      ≡ done (entry_of event.pass v ((row_of (plan_in layout p) touches.part touches.the_move).reply next.found))

-- in the state the pass does this step next; if there is none, it rests
abbrev pub DoesNext : Layout → Program → State → (pass : ℕ) → Option NextStep → Type 0
DoesNext layout p s pass (Some next) = (d : Did) × (slice_get (lanes_of s) pass ≡ Some d)
    × TakesStep layout p (world_by layout p s.order.items) pass d next
DoesNext layout p s pass None = Rests layout p s pass

-- in some state in which the pass did this, it does so next
pub record IsKnown (layout : Layout) (p : Program) (it : Known) : Type 0 where
  pub state : State
  pub reached : IsReached layout p state
  pub at : slice_get (lanes_of state) it.pass ≡ Some (did (rc_value it.lane))
  pub is : DoesNext layout p state it.pass it.next

-- the step finds the same word, and that is all that matters
abbrev pub FindsSame : (opening : List ℕ) → List Change → Option NextStep → Type 0
FindsSame opening changes (Some next) = (next.has_value ≡ false) × (was : ℕ)
    × (slice_get opening next.number ≡ Some was) × (word_in changes next.number was ≡ next.found)
FindsSame opening changes None = Unit {0}

-- it is known of this pass once it did d, and it finds the same
pub record IsSo (opening : List ℕ) (changes : List Change) (pass : ℕ) (d : Did) (it : Known) : Type 0 where
  pub same_pass : it.pass ≡ pass
  pub same_lane : did (rc_value it.lane) ≡ d
  pub finds : FindsSame opening changes it.next
