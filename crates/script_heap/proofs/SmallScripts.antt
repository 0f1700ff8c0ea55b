-- Scripts of two lines: which answers no run in one thread gives.
use Rattle.std.proofs.Common.{◌≡◌, ℕ, ◌<◌, List, [], ◌∷◌, refl, ap}
use Rattle.std.proofs.Common.{sym, ◌∙◌, subst, arith, Option, Some, Result, Ok, Err}
use Rattle.std.specs.List.{All}
use Rattle.std.proofs.lemmas.List.Elements.{All-cons}
use Rattle.sh_value.specs.declared.refusal.Refusal.{Refusal}
use Rattle.sh_value.specs.declared.refusal.Refusal.TheVariants as refusal
use Rattle.sh_key.specs.Layout.{Layout}
use Rattle.sh_shape.specs.Shape.{Numbers}
use Rattle.sh_step.specs.declared.action.Event.{Event}
use Rattle.sh_step.specs.Plans.{Plan, plan_of}
use Rattle.sh_member.specs.declared.member.Side.TheVariants.{Pass, Shard}
use Rattle.sh_member.specs.Sides.{SeenSide, SideAdopts}
use Rattle.sh_script.specs.declared.calls.CallLine.{CallLine}
use Rattle.script_output.specs.declared.answer.Answer.{Answer}
use Rattle.script_output.specs.declared.answer.Answer.TheVariants as answer
use Rattle.script_output.specs.Results.{done_answer}
use Rattle.script_calls.specs.Parts.{RunTerms, PassPart, heap_terms, shard_owned}
use Rattle.script_calls.specs.Runs.{CallsRun, LineAnswered, opening_calls}
use Rattle.script_calls.proofs.LineLemmas.{part_here}
use Rattle.script_heap.specs.ByLine.{RunsByLine}
use Rattle.script_heap.specs.Owners.{OwnersAreExact}
use Rattle.script_heap.specs.OwnSteps.{adopt_line, leave_line, TwoAdoptsAreNotDone}
use Rattle.script_heap.specs.OwnSteps.{LeaveIsNotWaiting}
use Rattle.script_heap.proofs.LoneAdopt.{not_done}
use Rattle.script_heap.proofs.OwnerLaws.{lines_keep_owners_apart}

-- ---- an adopt that is ok

owns_then : (k : ℕ) (s t : SeenSide) (r : Result (Unit {0}) Refusal) → answer.Done ≡ done_answer r
    → SideAdopts k s r t → shard_owned t ≡ Some k
owns_then k (Pass v) (Shard n) (Ok x) is h = ap (λ (j : ℕ). Some j) h.1.shard
owns_then k (Pass v) (Pass w) (Ok x) is h = absurd h
owns_then k (Pass v) t (Err why) is h = absurd (not_done why is)
owns_then k (Shard o) t r is h = absurd (not_done refusal.Taken
    (is ∙ ap (λ (z : Result (Unit {0}) Refusal). done_answer z) h.0))

both_inside : (shape : Numbers) (l m : CallLine) → l.pass < shape.passes → m.pass < shape.passes
    → All (λ (z : CallLine). z.pass < shape.passes) (l ∷ m ∷ [])
both_inside shape l m first second = All-cons (λ (z : CallLine). z.pass < shape.passes) l (m ∷ []) first
    (All-cons (λ (z : CallLine). z.pass < shape.passes) m [] second (λ i d lt. absurd (omega (arith, lt))))

-- ---- two adopts of one shard, and a leave

module _ (layout : Layout) (shape : Numbers) (tag : Option ℕ) where
  abbrev its_plan : Plan
  its_plan = plan_of layout shape

  abbrev its_terms : RunTerms
  its_terms = heap_terms layout shape

  two_done : (p q k : ℕ) → p < shape.passes → (early late : List Event) (before after : CallsRun)
      (by : RunsByLine its_plan early late its_terms tag before (adopt_line p k ∷ adopt_line q k ∷ [])
      (answer.Done ∷ answer.Done ∷ []) after)
      → OwnersAreExact its_plan early late its_terms tag before (adopt_line p k ∷ adopt_line q k ∷ [])
      (answer.Done ∷ answer.Done ∷ []) after by → ⊥
  two_done p q k lt early late before after by exact =
      let line : LineAnswered its_terms tag before (adopt_line p k) answer.Done by.1 = by.2 in
      let part : by.1.parts p ≡ line.part = ap (λ (r : CallsRun). r.parts p) line.next_is
      ∙ part_here before.parts p p line.part refl in
      let has : shard_owned line.part.stands ≡ Some k = owns_then k line.begins.stands line.part.stands
      line.does.result line.does.is line.does.does.1 in
      exact.2.1.1.1 p lt (ap (λ (v : PassPart). shard_owned v.stands) part ∙ has)

  waits_then : (p k : ℕ) (early late : List Event) (before after : CallsRun)
      (by : RunsByLine its_plan early late its_terms tag before (adopt_line p k ∷ leave_line p ∷ [])
      (answer.Done ∷ answer.Refused refusal.Waiting ∷ []) after)
      → OwnersAreExact its_plan early late its_terms tag before (adopt_line p k ∷ leave_line p ∷ [])
      (answer.Done ∷ answer.Refused refusal.Waiting ∷ []) after by → ⊥
  waits_then p k early late before after by exact = exact.2.1

pub two_adopts_are_not_done : TwoAdoptsAreNotDone
two_adopts_are_not_done asked layout shape tag p q k output la ls lf lp lq h told =
    let P : List Answer → Type 0 = λ answers. (by : RunsByLine (plan_of layout shape) [] h.events
    (heap_terms layout shape) tag (opening_calls (Some h.heap)) (adopt_line p k ∷ adopt_line q k ∷ []) answers
    h.told.replies.after)
    → OwnersAreExact (plan_of layout shape) [] h.events (heap_terms layout shape) tag (opening_calls (Some h.heap))
    (adopt_line p k ∷ adopt_line q k ∷ []) answers h.told.replies.after by → ⊥ in
    subst P (sym told) (two_done layout shape tag p q k lp [] h.events (opening_calls (Some h.heap))
    h.told.replies.after) (h.by_line refl)
    (lines_keep_owners_apart asked layout shape tag (adopt_line p k ∷ adopt_line q k ∷ []) output la ls lf
    (both_inside shape (adopt_line p k) (adopt_line q k) lp lq) h)

pub leave_is_not_waiting : LeaveIsNotWaiting
leave_is_not_waiting asked layout shape tag p k output la ls lf lp h told =
    let P : List Answer → Type 0 = λ answers. (by : RunsByLine (plan_of layout shape) [] h.events
    (heap_terms layout shape) tag (opening_calls (Some h.heap)) (adopt_line p k ∷ leave_line p ∷ []) answers
    h.told.replies.after)
    → OwnersAreExact (plan_of layout shape) [] h.events (heap_terms layout shape) tag (opening_calls (Some h.heap))
    (adopt_line p k ∷ leave_line p ∷ []) answers h.told.replies.after by → ⊥ in
    subst P (sym told) (waits_then layout shape tag p k [] h.events (opening_calls (Some h.heap))
    h.told.replies.after) (h.by_line refl)
    (lines_keep_owners_apart asked layout shape tag (adopt_line p k ∷ leave_line p ∷ []) output la ls lf
    (both_inside shape (adopt_line p k) (leave_line p) lp lp) h)
