-- A script that consists of one adopt: only the pass of the line does a step.
use Rattle.std.proofs.Common.{◌≡◌, ◌≢◌, ℕ, ◌+◌, ◌<◌, Bool, cond, List, [], ◌∷◌, length, refl, ap}
use Rattle.std.proofs.Common.{sym, ◌∙◌, subst, arith, eq-eqb, ne_eqb, ⊎_elim, Some, Result, Ok, Err}
use Rattle.sh_key.specs.Layout.{Layout}
use Rattle.sh_shape.specs.Shape.{Numbers}
use Rattle.sh_value.specs.declared.refusal.Refusal.{Refusal}
use Rattle.sh_value.specs.declared.refusal.Refusal.TheVariants as refusal
use Rattle.sh_step.specs.declared.action.Event.{Event}
use Rattle.sh_step.specs.Footsteps.{owner_met}
use Rattle.sh_step.specs.Plans.{plan_of}
use Rattle.sh_core.specs.Trails.{trail_of}
use Rattle.sh_table.specs.declared.view.Own.{Own}
use Rattle.sh_table.specs.Seats.{Heap}
use Rattle.sh_table.specs.Views.{fresh, newly}
use Rattle.sh_pass.specs.Passes.{Caller}
use Rattle.sh_pass.specs.Receipts.{heeded}
use Rattle.script_output.specs.declared.answer.Answer.{Answer}
use Rattle.script_output.specs.declared.answer.Answer.TheVariants as answer
use Rattle.script_output.specs.Results.{done_answer}
use Rattle.sh_member.specs.declared.member.Side.TheVariants.{Pass, Shard}
use Rattle.sh_member.specs.Sides.{SeenSide, SideAdopts}
use Rattle.script_calls.specs.OwnParts.{EndsWith}
use Rattle.script_calls.specs.Parts.{RunTerms, PassPart, new_part, heap_terms}
use Rattle.script_calls.specs.Receipts.{HeedsTwice, MayHeed, PartHeeds, SideHeeded}
use Rattle.script_calls.specs.Calls.{AdoptAnswers}
use Rattle.script_calls.specs.Runs.{CallsRun, LinesAnswered, opening_calls, with_part}
use Rattle.script_heap.specs.HeapOutput.{EndsInRun}
use Rattle.script_heap.specs.OwnSteps.{LoneAdoptIsNotTaken, adopt_line}
use Rattle.script_heap.proofs.FirstSteps.{only_step_meets_none}

-- ---- the pass before its first call

-- it owns no shard, and has done nothing
pub record IsNew (v : PassPart) : Type 0 where
  pub caller : Caller
  pub stands : v.stands ≡ Pass caller
  pub own : caller.view.own ≡ fresh

abbrev pub new_caller : Heap → ℕ → Caller
new_caller heap pass = record { heap = heap; view = newly heap.shape pass }

pub begins_new : (heap : Heap) (pass : ℕ) (v : PassPart) → MayHeed (new_part (Some heap) pass) v → IsNew v
begins_new heap pass v h = ⊎_elim as_new heeds h
  where
    as_new : v ≡ new_part (Some heap) pass → IsNew v
    as_new e = record {
      caller = new_caller heap pass;
      stands = ap (λ (u : PassPart). u.stands) e;
      own = refl;
    }

    heeds : (r : Caller) × PartHeeds r (new_part (Some heap) pass) v → IsNew v
    heeds k = record { caller = heeded (new_caller heap pass) k.0; stands = k.1.stands; own = refl }

-- ---- an adopt that is Taken

-- it owns no shard, and did one step, which met an owner
record MetOwner (shard : ℕ) (w : PassPart) : Type 0 where
  pub caller : Caller
  pub stands : w.stands ≡ Pass caller
  pub one : length caller.view.own.trail ≡ 1
  pub met : owner_met shard caller.view.own.trail ≡ 1

met_owner : (terms : RunTerms) (shard : ℕ) (v w : PassPart) → IsNew v
    → AdoptAnswers terms v shard (Err refusal.Taken) w → MetOwner shard w
met_owner terms shard v w new does = stepped w.stands refl
    (subst (λ (s : SeenSide). SideAdopts shard s (Err refusal.Taken) w.stands) new.stands does.1)
  where
    stepped : (s : SeenSide) → w.stands ≡ s → SideAdopts shard (Pass new.caller) (Err refusal.Taken) s
        → MetOwner shard w
    stepped (Pass x) e h =
        let trail : new.caller.view.own.trail ≡ [] = ap (λ (o : Own). o.trail) new.own in
        record {
          caller = x;
          stands = e;
          one = h.2 ∙ ap (λ t. length t + 1) trail;
          met = h.3 ∙ ap (λ t. owner_met shard t + 1) trail;
        }
    stepped (Shard o) e h = absurd h

pub not_done : (why : Refusal) → answer.Done ≡ answer.Refused why → ⊥
not_done why e = cc

same_refusal : (e : Refusal) → answer.Refused refusal.Taken ≡ answer.Refused e → e ≡ refusal.Taken
same_refusal e h = cc

taken_so : (terms : RunTerms) (shard : ℕ) (v w : PassPart) (r : Result (Unit {0}) Refusal)
    → answer.Refused refusal.Taken ≡ done_answer r → IsNew v → AdoptAnswers terms v shard r w → MetOwner shard w
taken_so terms shard v w (Ok x) is new does = absurd (let e : answer.Refused refusal.Taken ≡ answer.Done = is in cc)
taken_so terms shard v w (Err e) is new does = met_owner terms shard v w new
    (subst (λ (z : Refusal). AdoptAnswers terms v shard (Err z) w) (same_refusal e is) does)

-- ---- the run

-- a pass that owns no shard, once it may have heeded a receipt, still owns none and has the part that it had
heeded_pass : (v w : PassPart) (c : Caller) → v.stands ≡ Pass c → MayHeed v w → (d : Caller) × (w.stands ≡ Pass d)
    × (d.view.own ≡ c.view.own)
heeded_pass v w c stands heeds = ⊎_elim
    (λ (e : w ≡ v). (c, ap (λ (u : PassPart). u.stands) e ∙ stands, refl))
    (λ (k : (r : Caller) × PartHeeds r v w).
    (heeded c k.0, subst (λ (s : SeenSide). SideHeeded k.0 s w.stands) stands k.1.stands, refl)) heeds

-- so it ends with its own part, whether it heeded receipts before or not
ends_as_pass : (v begins : PassPart) (c : Caller) (own : Own) → v.stands ≡ Pass c → HeedsTwice v begins
    → EndsWith begins.stands own → own ≡ c.view.own
ends_as_pass v begins c own stands heeds ends =
    let mid = heeded_pass v heeds.0 c stands heeds.1 in
    let last = heeded_pass heeds.0 begins mid.0 mid.1 heeds.2 in
    let its : own ≡ last.0.view.own = subst (λ (s : SeenSide). EndsWith s own) last.1 ends in
    its ∙ (last.2 ∙ mid.2)

-- the trail of a pass that owns no shard in the end
pub trail_is : (layout : Layout) (shape : Numbers) (events : List Event) (p : ℕ) (v : PassPart) (c : Caller)
    → v.stands ≡ Pass c → EndsInRun (plan_of layout shape) events p v
    → trail_of (plan_of layout shape) events p ≡ c.view.own.trail
trail_is layout shape events p v c stands ends =
    let with_own : ends.2 ≡ c.view.own = ends_as_pass v ends.0 c ends.2 stands ends.1 ends.3 in
    sym ends.4.trail ∙ ap (λ (o : Own). o.trail) with_own

pub lone_adopt : LoneAdoptIsNotTaken
lone_adopt alone asked layout shape tag pass shard output few h taken =
    let terms : RunTerms = heap_terms layout shape in
    let plan = plan_of layout shape in
    let ran = subst (λ (answers : List Answer). LinesAnswered terms tag (opening_calls (Some h.heap))
    (adopt_line pass shard ∷ []) answers h.told.replies.after) taken h.told.replies.ran in
    let line = ran.1 in
    let met : MetOwner shard line.part = taken_so terms shard line.begins line.part line.does.result line.does.is
    (begins_new h.heap pass line.begins line.heeds) line.does.does in
    let parts : h.told.replies.after.parts ≡ with_part (new_part (Some h.heap)) pass line.part =
    ap (λ (r : CallsRun). r.parts) (ran.2 ∙ line.next_is) in
    let at : (p : ℕ) → p < shape.passes
    → EndsInRun plan h.events p (with_part (new_part (Some h.heap)) pass line.part p) = λ p less.
    subst (λ (f : ℕ → PassPart). EndsInRun plan h.events p (f p)) parts (h.steps p less) in
    let own : EndsInRun plan h.events pass line.part =
    subst (λ (b : Bool). EndsInRun plan h.events pass (cond b line.part (new_part (Some h.heap) pass)))
    (eq-eqb pass pass refl) (at pass few) in
    let others : (q : ℕ) → q < shape.passes → q ≢ pass → trail_of plan h.events q ≡ [] = λ q less other.
    trail_is layout shape h.events q (new_part (Some h.heap) q) (new_caller h.heap q) refl
    (subst (λ (b : Bool). EndsInRun plan h.events q (cond b line.part (new_part (Some h.heap) q)))
    (ne_eqb q pass other) (at q less)) in
    let trail = trail_is layout shape h.events pass line.part met.caller met.stands own in
    let none = only_step_meets_none plan shard pass h.events (ap length trail ∙ met.one) others in
    absurd (let e : 1 ≡ 0 = sym met.met ∙ (ap (owner_met shard) (sym trail) ∙ none) in omega (arith, e))
