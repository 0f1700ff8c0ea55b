-- What a step finds, as far as what its pass has depends on it.
use Rattle.std.specs.Prelude.{ℕ, ◌≡◌, ◌+◌, Bool, true, false, cond, List, [], ◌∷◌, Some, slice_get}
use Rattle.sh_slots.specs.declared.enter.GetAnswer.{GetAnswer}
use Rattle.sh_slots.specs.declared.enter.GetAnswer.TheVariants.{Got, Crowded, Gone}
use Rattle.sh_slots.specs.declared.hand.Hand.{Hand}
use Rattle.sh_slots.specs.declared.hand.Hand.TheVariants.{Finishing}
use Rattle.sh_slots.specs.Slots.{live_at, past_at, answer_to_get, after_drop, is_reusable_after}
use Rattle.sh_step.specs.declared.action.Event.{Event}
use Rattle.sh_step.specs.declared.body.Body.{Body}
use Rattle.sh_step.specs.declared.moves.Move.{Move}
use Rattle.sh_step.specs.declared.moves.Move.TheVariants as move
use Rattle.sh_shape.specs.Places.{IsPlace, number}
use Rattle.sh_shape.specs.Shape.{Numbers}
use Rattle.sh_step.specs.Moves.{move_of, row_of}
use Rattle.sh_step.specs.Operations.{operate}
use Rattle.sh_step.specs.Plans.{Plan}
use Rattle.sh_core.specs.Words.{read}
use Rattle.sh_core.specs.Worlds.{World}
use Rattle.script_orders.specs.declared.lane.Step.{Step}

abbrev pub is_got : GetAnswer → Bool
is_got Got = true
is_got Crowded = false
is_got Gone = false

-- the generation that is left to be ended, plus 1; 0 if there is none
abbrev pub ended_by : Hand → ℕ
ended_by (Finishing x g s) = g + 1
ended_by _ = 0

abbrev pub bit : Bool → ℕ
bit b = cond b 1 0

-- 1 if the value of this generation is there, 2 if it was removed, and 0 if it was not there yet
abbrev pub seen_by_look : (g found : ℕ) → ℕ
seen_by_look g n = cond (live_at g n) 1 (cond (past_at g n) 2 0)

-- The word that a move's step found, as far as what it leaves of the part depends on it. A look also has what it is
-- replied, and a peek the word itself
abbrev pub seen_in : Plan → Move → (found : ℕ) → ℕ
seen_in plan (move.EnterGet k x) n = bit (is_got (answer_to_get x.generation plan.keys.guard_max n))
seen_in plan (move.EnterRemove k x) n = bit (live_at x.generation n)
seen_in plan (move.Look k x) n = seen_by_look x.generation n
seen_in plan (move.LookAgain k x s) n = bit (live_at x.generation n)
seen_in plan (move.Drop x) n = ended_by (after_drop (record { page = 0; slot = 0 }) n)
seen_in plan (move.DropHold k x) n = ended_by (after_drop (record { page = 0; slot = 0 }) n)
seen_in plan (move.Finish x g) n = bit (is_reusable_after g plan.keys.gen_max n)
seen_in plan (move.Mark k x) n = 0
seen_in plan (move.Publish x v) n = 0
seen_in plan (move.FillSlot x v) n = 0
seen_in plan (move.Fill x v i c) n = 0
seen_in plan (move.SetClass q c) n = 0
seen_in plan (move.Tie x l r) n = 0
seen_in plan (move.Leave k) n = 0
seen_in plan (move.RingTie q l) n = 0
seen_in plan _ n = n

-- the event's step sees this in the world
pub record Sees (plan : Plan) (w : World) (e : Event) (seen : ℕ) : Type 0 where
  pub part : Body
  pub the_move : Move
  pub at : slice_get w.parts e.pass ≡ Some part
  pub is : move_of plan part e.action ≡ Some the_move
  pub seen_is : seen ≡ seen_in plan the_move (read w.words (row_of plan part the_move).place)

-- The event's step touches the word of this number. It finds this word, which is seen so, and leaves that one
pub record Touches (shape : Numbers) (plan : Plan) (w : World) (e : Event) (touched found seen left : ℕ) : Type 0 where
  pub part : Body
  pub the_move : Move
  pub at : slice_get w.parts e.pass ≡ Some part
  pub is : move_of plan part e.action ≡ Some the_move
  pub within : IsPlace shape (row_of plan part the_move).place
  pub number_is : number shape (row_of plan part the_move).place ≡ touched
  pub finds : read w.words (row_of plan part the_move).place ≡ found
  pub seen_is : seen ≡ seen_in plan the_move found
  pub leaves : left ≡ operate (row_of plan part the_move).operation found

-- the step is done on a word that is seen so, and leads from one part to the other
pub record DoesStep (plan : Plan) (lines : List Event) (step : Step) (before after : Body) : Type 0 where
  pub event : Event
  pub the_move : Move
  pub found : ℕ
  pub there : slice_get lines step.line ≡ Some event
  pub is : move_of plan before event.action ≡ Some the_move
  pub seen_is : step.seen ≡ seen_in plan the_move found
  pub leaves : after ≡ (row_of plan before the_move).part found

-- the steps lead from one part to the other
unfoldable pub DoesSteps : Plan → List Event → List Step → (before after : Body) → Type 0
DoesSteps plan lines [] before after = before ≡ after
DoesSteps plan lines (x ∷ xs) before after =
    (part : Body) × DoesStep plan lines x before part × DoesSteps plan lines xs part after
