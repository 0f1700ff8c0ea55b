-- Lines of events: one more line.
use Rattle.std.proofs.Common.{◌≡◌, ℕ, List, [], ◌∷◌, ◌++◌, refl, sym, ap, subst, ◌∙◌, append_assoc, append-nil, Option}
use Rattle.std.proofs.Common.{Some, None}
use Rattle.std.proofs.lemmas.List.Elements.{filter_map-append}
use Rattle.sh_key.specs.Layout.{Layout}
use Rattle.sh_shape.specs.Shape.{Numbers}
use Rattle.sh_step.specs.declared.action.Event.{Event}
use Rattle.sh_step.specs.Kinds.{kind_of_action}
use Rattle.sh_step.specs.Plans.{Plan, plan_of}
use Rattle.sh_core.specs.declared.outcome.Outcome.{Outcome}
use Rattle.sh_core.specs.declared.outcome.Outcome.TheVariants.{Skipped}
use Rattle.sh_core.specs.Kept.{KeptWorld, Represents}
use Rattle.sh_core.specs.Outcomes.{outcome_of, outcomes_from, outcomes}
use Rattle.sh_core.specs.Worlds.{World, step, run, run_from, open_world}
use Rattle.sh_core.proofs.Words.Steps.{run_snoc}
use Rattle.script_models.specs.StepsKeys.{DoesEvent}
use Rattle.script_models.specs.StepsOutput.{event_shown, events_shown, event_line, event_lines}

-- the outcome of a line, and the world after it
abbrev outcome_at : Plan → World → Option Event → Outcome
outcome_at plan w (Some e) = outcome_of plan w e
outcome_at plan w None = Skipped

abbrev one : Option Event → List Event
one (Some e) = e ∷ []
one None = []

abbrev before : Option Event → List Event → List Event
before (Some e) es = e ∷ es
before None es = es

before_is : (tag : Option ℕ) (e : Event) (es : List Event) → events_shown tag (e ∷ es)
    ≡ before (event_shown tag e) (events_shown tag es)
before_is tag e es = go (event_shown tag e) refl where
  go : (s : Option Event) → event_shown tag e ≡ s → events_shown tag (e ∷ es)
      ≡ before (event_shown tag e) (events_shown tag es)
  go (Some m) is = rw is refl
  go None is = rw is refl

abbrev line_of : Option ℕ → Event → Outcome → List ℕ
line_of tag e o = event_line tag e.pass (kind_of_action e.action) o

-- the lines of an event and of those after it
abbrev line_at : Option ℕ → Event → Option Event → List Event → List Outcome → List ℕ
line_at tag e s lines outcomes = elim s as (λ _. List ℕ) [
  | Some _ ↦ elim outcomes as (λ _. List ℕ)
      [ o ∷ rest ↦ line_of tag e o ++ event_lines tag lines rest | [] ↦ [] ]
  | None ↦ line_of tag e Skipped
      ++ event_lines tag lines outcomes
]

lines_are : (tag : Option ℕ) (e : Event) (lines : List Event) (os : List Outcome) → event_lines tag (e ∷ lines) os
    ≡ line_at tag e (event_shown tag e) lines os
unfolding event_lines
lines_are tag e lines os = refl

last_line : (plan : Plan) (w : World) (tag : Option ℕ) (e : Event) (s : Option Event)
    → line_at tag e s [] (outcomes_from plan w (before s [])) ≡ line_of tag e (outcome_at plan w s)
unfolding event_lines outcomes_from
last_line plan w tag e (Some m) = append-nil (line_of tag e (outcome_of plan w m))
last_line plan w tag e None = append-nil (line_of tag e Skipped)

-- one more line
lines_more : (plan : Plan) (w : World) (tag : Option ℕ) (es : List Event) (e : Event)
    → event_lines tag (es ++ e ∷ []) (outcomes_from plan w (events_shown tag (es ++ e ∷ [])))
    ≡ event_lines tag es (outcomes_from plan w (events_shown tag es))
    ++ line_of tag e (outcome_at plan (run_from plan w (events_shown tag es)) (event_shown tag e))
unfolding event_lines outcomes_from run_from
lines_more plan w tag [] e =
    lines_are tag e [] (outcomes_from plan w (events_shown tag (e ∷ [])))
    ∙ ap (λ (es : List Event). line_at tag e (event_shown tag e) [] (outcomes_from plan w es)) (before_is tag e [])
    ∙ last_line plan w tag e (event_shown tag e)
lines_more plan w tag (d ∷ ds) e =
    lines_are tag d (ds ++ e ∷ []) (outcomes_from plan w (events_shown tag (d ∷ ds ++ e ∷ [])))
    ∙ ap (λ (es : List Event). line_at tag d (event_shown tag d) (ds ++ e ∷ []) (outcomes_from plan w es))
    (before_is tag d (ds ++ e ∷ []))
    ∙ go (event_shown tag d) (λ u. lines_more plan u tag ds e)
    ∙ sym (ap (λ (es : List Event). line_at tag d (event_shown tag d) ds (outcomes_from plan w es)
    ++ line_of tag e (outcome_at plan (run_from plan w es) (event_shown tag e))) (before_is tag d ds))
  where
    go : (s : Option Event) → ((u : World) → event_lines tag (ds ++ e ∷ [])
        (outcomes_from plan u (events_shown tag (ds ++ e ∷ []))) ≡ event_lines tag ds
        (outcomes_from plan u (events_shown tag ds)) ++ line_of tag e
        (outcome_at plan (run_from plan u (events_shown tag ds)) (event_shown tag e)))
        → line_at tag d s (ds ++ e ∷ []) (outcomes_from plan w (before s (events_shown tag (ds ++ e ∷ []))))
        ≡ line_at tag d s ds (outcomes_from plan w (before s (events_shown tag ds)))
        ++ line_of tag e (outcome_at plan (run_from plan w (before s (events_shown tag ds))) (event_shown tag e))
    go (Some m) rest =
        ap (λ l. line_of tag d (outcome_of plan w m) ++ l) (rest (step plan w m))
        ∙ sym (append_assoc (line_of tag d (outcome_of plan w m))
        (event_lines tag ds (outcomes_from plan (step plan w m) (events_shown tag ds)))
        (line_of tag e (outcome_at plan (run_from plan (step plan w m) (events_shown tag ds)) (event_shown tag e))))
    go None rest =
        ap (λ l. line_of tag d Skipped ++ l) (rest w)
        ∙ sym (append_assoc (line_of tag d Skipped) (event_lines tag ds (outcomes_from plan w (events_shown tag ds)))
        (line_of tag e (outcome_at plan (run_from plan w (events_shown tag ds)) (event_shown tag e))))

shown_more : (tag : Option ℕ) (es : List Event) (e : Event) → events_shown tag (es ++ e ∷ []) ≡ events_shown tag es
    ++ one (event_shown tag e)
shown_more tag es e = filter_map-append (event_shown tag) es (e ∷ [])
    ∙ ap (λ l. events_shown tag es ++ l) (before_is tag e [] ∙ go (event_shown tag e)) where
      go : (s : Option Event) → before s [] ≡ one s
      go (Some m) = refl
      go None = refl

-- what is kept after one more line
stands_more : (layout : Layout) (k next : KeptWorld) (es : List Event) (s : Option Event) (o : Outcome)
    → let plan = plan_of layout k.shape in Represents k (run plan es) → DoesEvent layout k s o next
    → (next.shape ≡ k.shape) × Represents next (run plan (es ++ one s)) × (o ≡ outcome_at plan (run plan es) s)
stands_more layout k next es (Some m) o stands does =
    let plan : Plan = plan_of layout k.shape in (
      does.shape,
      subst (λ (w : World). Represents next w) (sym (run_snoc plan (open_world plan) es m))
          (does.world (run plan es) stands),
      does.outcome_is (run plan es) stands,
    )
stands_more layout k next es None o stands does =
    let plan : Plan = plan_of layout k.shape in
    let all : es ++ [] ≡ es = append-nil es in
    let kept : Represents next (run plan es) = subst (λ (n : KeptWorld). Represents n (run plan es)) (sym does.1) stands
    in (
      ap (λ (n : KeptWorld). n.shape) does.1,
      subst (λ (xs : List Event). Represents next (run plan xs)) (sym all) kept,
      does.0,
    )

-- a run so far: which world, and which lines
pub record EventsRan (layout : Layout) (shape : Numbers) (tag : Option ℕ) (es : List Event) (k : KeptWorld)
    (text : List ℕ) : Type 0 where
  pub shape_is : k.shape ≡ shape
  pub stands : Represents k (run (plan_of layout shape) (events_shown tag es))
  pub is : text ≡ event_lines tag es (outcomes (plan_of layout shape) (events_shown tag es))

pub ran_none : (layout : Layout) (shape : Numbers) (tag : Option ℕ) (k : KeptWorld) (text : List ℕ) → k.shape ≡ shape
    → Represents k (open_world (plan_of layout shape)) → text ≡ [] → EventsRan layout shape tag [] k text
unfolding event_lines run_from
ran_none layout shape tag k text same stands none = record { shape_is = same; stands = stands; is = none }

pub ran_more : (layout : Layout) (shape : Numbers) (tag : Option ℕ) (es : List Event) (e : Event) (k next : KeptWorld)
    (o : Outcome) (old new : List ℕ) → EventsRan layout shape tag es k old
    → DoesEvent layout k (event_shown tag e) o next
    → new ≡ old ++ event_line tag e.pass (kind_of_action e.action) o
    → EventsRan layout shape tag (es ++ e ∷ []) next new
ran_more layout shape tag es e k next o old new ran does is =
    let plan : Plan = plan_of layout shape in
    let stands : Represents k (run (plan_of layout k.shape) (events_shown tag es)) = subst
    (λ n. Represents k (run (plan_of layout n) (events_shown tag es))) (sym ran.shape_is) ran.stands in
    let more = stands_more layout k next (events_shown tag es) (event_shown tag e) o stands does in
    let kept : Represents next (run plan (events_shown tag es ++ one (event_shown tag e))) = subst
    (λ n. Represents next (run (plan_of layout n) (events_shown tag es ++ one (event_shown tag e)))) ran.shape_is
    more.1 in
    let came : o ≡ outcome_at plan (run plan (events_shown tag es)) (event_shown tag e) = subst
    (λ n. o ≡ outcome_at (plan_of layout n) (run (plan_of layout n) (events_shown tag es)) (event_shown tag e))
    ran.shape_is more.2 in
    record {
      shape_is = more.0 ∙ ran.shape_is;
      stands = subst (λ (xs : List Event). Represents next (run plan xs)) (sym (shown_more tag es e)) kept;
      is = is ∙ ap (λ t. t ++ line_of tag e o) ran.is ∙ ap (λ (x : Outcome). event_lines tag es
          (outcomes plan (events_shown tag es)) ++ line_of tag e x) came
          ∙ sym (lines_more plan (open_world plan) tag es e);
    }
