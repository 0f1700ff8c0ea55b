-- What an event's step sees and leaves is what the code looks up.
use Rattle.std.proofs.Common.{◌≡◌, ℕ, ◌<◌, ◌^◌, true, false, List, get_or, Option, Some, None}
use Rattle.std.proofs.Common.{slice_get, refl, sym, ap, ◌∙◌, subst}
use Rattle.std.specs.Prelude.{option_map, is_some}
use Rattle.sh_key.specs.Layout.{Layout}
use Rattle.sh_shape.specs.Places.{IsPlace, number}
use Rattle.sh_slots.specs.declared.reply.Reply.{Reply}
use Rattle.sh_step.specs.declared.action.Event.{Event}
use Rattle.sh_step.specs.declared.body.Body.{Body}
use Rattle.sh_step.specs.declared.moves.Move.{Move}
use Rattle.sh_step.specs.declared.step.Step.{Step}
use Rattle.sh_step.specs.Moves.{row, row_of, move_of, step_at}
use Rattle.sh_step.specs.Operations.{StoresWord, HasRoom, operate}
use Rattle.sh_step.specs.Plans.{Plan, plan_of}
use Rattle.sh_step.proofs.StepLaws.{steps_same}
use Rattle.sh_core.specs.declared.outcome.Outcome.TheVariants.{Moved}
use Rattle.sh_core.specs.Kept.{KeptWorld, Represents, FromEvents, IsReady, word_at}
use Rattle.sh_core.specs.Outcomes.{row_of_event, outcome_of, done}
use Rattle.sh_core.specs.Words.{read}
use Rattle.sh_core.specs.Worlds.{World, step, entry_of, value_at_place}
use Rattle.sh_core.proofs.Words.Operating.{operation_has_room}
use Rattle.sh_core.proofs.Words.Ready.{ready}
use Rattle.sh_core.proofs.Words.Stepping.{outcome_done}
use Rattle.sh_core.proofs.Words.Steps.{row_of_at}
use Rattle.script_orders.specs.Seen.{seen_in, Sees, Touches}

no_entry : (a : ℕ) (v : List ℕ) (o : Option Reply) → is_some o ≡ false → done (entry_of a v o) ≡ Moved
no_entry a v None h = refl
no_entry a v (Some r) h = absurd (let z : true ≡ false = h in cc)

module _ (layout : Layout) (k : KeptWorld) (e : Event) (part : Body) (m : Move) (from : FromEvents layout k)
    (at : slice_get k.parts e.pass ≡ Some part) (is : move_of (plan_of layout k.shape) part e.action ≡ Some m) where
  abbrev kept_plan : Plan
  kept_plan = plan_of layout k.shape

  ready_row : IsReady layout k.shape k.words (row_of kept_plan part m)
  unfolding row
  ready_row = ready layout k e.pass part e.action (row_of kept_plan part m) from at
      (ap (option_map (row_of kept_plan part)) is)

  pub step_has_place : IsPlace k.shape (step_at kept_plan m).place
  step_has_place = subst (λ (s : Step). IsPlace k.shape s.place) (steps_same kept_plan part m) ready_row.row.place

  pub step_stores : StoresWord (step_at kept_plan m).operation
  step_stores = subst (λ (s : Step). StoresWord s.operation) (steps_same kept_plan part m) ready_row.row.stores

  pub sees : (found seen : ℕ) → found ≡ get_or k.words (number k.shape (step_at kept_plan m).place) 0
      → seen ≡ seen_in kept_plan m found → (w : World) → Represents k w → Sees kept_plan w e seen
  sees found seen looked is_seen w stands =
      let row = row_of kept_plan part m in
      let word : found ≡ read w.words row.place =
      looked ∙ ap (λ (s : Step). get_or k.words (number k.shape s.place) 0) (sym (steps_same kept_plan part m))
      ∙ stands.words.at row.place ready_row.row.place in
      record {
        part = part;
        the_move = m;
        at = subst (λ (bs : List Body). slice_get bs e.pass ≡ Some part) stands.parts at;
        is = is;
        seen_is = is_seen ∙ ap (seen_in kept_plan m) word;
      }

  made_here : (w : World) → Represents k w → slice_get w.parts e.pass ≡ Some part
  made_here w stands = subst (λ (bs : List Body). slice_get bs e.pass ≡ Some part) stands.parts at

  at_place : (touched : ℕ) → touched ≡ number k.shape (step_at kept_plan m).place
      → touched ≡ number k.shape (row_of kept_plan part m).place
  at_place touched is_number = is_number ∙ ap (λ (s : Step). number k.shape s.place) (sym (steps_same kept_plan part m))

  word_found : (touched found : ℕ) → touched ≡ number k.shape (step_at kept_plan m).place
      → found ≡ get_or k.words touched 0 → (w : World) → Represents k w
      → found ≡ read w.words (row_of kept_plan part m).place
  word_found touched found is_number looked w stands =
      looked ∙ ap (λ (n : ℕ). get_or k.words n 0) (at_place touched is_number)
      ∙ stands.words.at (row_of kept_plan part m).place ready_row.row.place

  -- what it touches, finds and leaves
  pub touches : (touched found seen left : ℕ) → touched ≡ number k.shape (step_at kept_plan m).place
      → found ≡ get_or k.words touched 0 → seen ≡ seen_in kept_plan m found
      → left ≡ operate (step_at kept_plan m).operation found → (w : World) → Represents k w
      → Touches k.shape kept_plan w e touched found seen left
  touches touched found seen left is_number looked is_seen is_left w stands = record {
    part = part;
    the_move = m;
    at = made_here w stands;
    is = is;
    within = ready_row.row.place;
    number_is = sym (at_place touched is_number);
    finds = sym (word_found touched found is_number looked w stands);
    seen_is = is_seen;
    leaves = is_left ∙ ap (λ (s : Step). operate s.operation found) (sym (steps_same kept_plan part m));
  }

  -- it leaves a word, since what it found has room
  pub step_has_room : (touched found : ℕ) → touched ≡ number k.shape (step_at kept_plan m).place
      → found ≡ get_or k.words touched 0 → found < 2 ^ 64 → HasRoom (step_at kept_plan m).operation found
  step_has_room touched found is_number looked small =
      operation_has_room (step_at kept_plan m).operation (row_of kept_plan part m).operation found
      (word_at k.shape k.words (row_of kept_plan part m).place)
      (ap (λ (s : Step). s.operation) (sym (steps_same kept_plan part m)))
      (looked ∙ ap (λ (n : ℕ). get_or k.words n 0) (at_place touched is_number)) small ready_row.counts

  -- a move that decides no reply
  pub quiet : (touched found : ℕ) → touched ≡ number k.shape (step_at kept_plan m).place
      → found ≡ get_or k.words touched 0 → is_some ((row_of kept_plan part m).reply found) ≡ false
      → (w : World) → Represents k w → outcome_of kept_plan w e ≡ Moved
  unfolding row
  quiet touched found is_number looked none w stands =
      let made = row_of kept_plan part m in
      outcome_done kept_plan w e made (row_of_at kept_plan w e part (made_here w stands)
      ∙ ap (option_map (row_of kept_plan part)) is)
      ∙ no_entry e.pass (value_at_place w.words made.place) (made.reply (read w.words made.place))
      (subst (λ (n : ℕ). is_some (made.reply n) ≡ false) (word_found touched found is_number looked w stands) none)

-- no move of the pass's part, or no part
pub no_move_no_row : (layout : Layout) (k : KeptWorld) (e : Event) (part : Body) → slice_get k.parts e.pass ≡ Some part
    → move_of (plan_of layout k.shape) part e.action ≡ None → (w : World) → Represents k w
    → row_of_event (plan_of layout k.shape) w e ≡ None
unfolding row
no_move_no_row layout k e part at is w stands =
    let plan = plan_of layout k.shape in
    let here : slice_get w.parts e.pass ≡ Some part =
    subst (λ (bs : List Body). slice_get bs e.pass ≡ Some part) stands.parts at in
    row_of_at plan w e part here ∙ ap (option_map (row_of plan part)) is
