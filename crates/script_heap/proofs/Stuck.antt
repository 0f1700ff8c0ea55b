-- No pass is refused when it leaves its shard at the end of a run. If one was, all passes ended in one bundle, so one
-- run of the core leads to the parts of all. The refused pass had heard of all steps of the others, so they come before
-- a cut of that run. No pass has begun anything there, and behind it the refused one goes on alone.
use Rattle.std.proofs.Common.{◌≡◌, ◌≢◌, ℕ, ◌<◌, ◌≤◌, ◌⊎◌, ◌==◌, cond, List, [], ◌++◌, length, slice_get, Option, Some}
use Rattle.std.proofs.Common.{Bool, None, Err, refl, ap, sym, ◌∙◌, subst, arith, append-nil, eq-eqb, ne_eqb, ⊎_elim}
use Rattle.std.specs.Prelude.{IfNone}
use Rattle.std.specs.List.{All, Contains}
use Rattle.std.proofs.lemmas.List.{length-append}
use Rattle.std.proofs.lemmas.Option.{none-some, same_Some, slice_get_within}
use mathlib.Core.Logic.{dite}
use native.Mathlib.Decide.{ℕ_discrete}
use Rattle.sh_value.specs.declared.refusal.Refusal.TheVariants as refusal
use Rattle.sh_key.specs.Layout.{Layout}
use Rattle.sh_shape.specs.Shape.{Numbers, IsShape}
use Rattle.sh_slots.specs.declared.hand.Hand.TheVariants.{Idle}
use Rattle.sh_step.specs.declared.action.Event.{Event}
use Rattle.sh_step.specs.declared.body.Body.{Body}
use Rattle.sh_step.specs.declared.footstep.Footstep.{Footstep}
use Rattle.sh_step.specs.Parts.{newcomer}
use Rattle.sh_step.specs.Plans.{Plan, plan_of}
use Rattle.sh_core.specs.Quiet.{Quiet}
use Rattle.sh_core.specs.Trails.{trail_of, body_by}
use Rattle.sh_core.specs.Worlds.{run}
use Rattle.sh_core.proofs.Clauses.RunTheorem.{theorem}
use Rattle.sh_core.proofs.Replays.{steps_make_parts}
use Rattle.sh_core.proofs.Words.Trails.{trail_goes_on}
use Rattle.sh_table.specs.declared.view.Order.{Order}
use Rattle.sh_table.specs.Reached.{HasOwn}
use Rattle.sh_table.specs.Seats.{Heap}
use Rattle.sh_table.specs.Together.{LeadsTogether}
use Rattle.sh_table.specs.declared.view.Told.{Told}
use Rattle.sh_table.specs.declared.view.View.{View}
use Rattle.sh_table.proofs.OrderLaws.{each_in}
use Rattle.sh_shard.specs.Shards.{Sharded}
use Rattle.sh_member.specs.declared.member.Side.TheVariants.{Pass, Shard}
use Rattle.sh_member.specs.Sides.{SeenSide, SideLeaves}
use Rattle.sh_quiet.proofs.Cuts.{CutBefore, same_front}
use Rattle.sh_quiet.proofs.Exact.{Goes}
use Rattle.sh_quiet.proofs.Leaves.{never_waits}
use Rattle.sh_quiet.proofs.Working.{SeesBell}
use Rattle.sh_script.specs.declared.calls.CallLine.{CallLine}
use Rattle.script_calls.specs.Finished.{AllAreStuck, LinesRan}
use Rattle.script_calls.specs.Leaving.{AreAlike, AreStuck, AreTogether, HeardStepsOf, IsBundledIn, IsRefused}
use Rattle.script_calls.specs.OwnParts.{own_part, steps_of}
use Rattle.script_calls.specs.Parts.{RunTerms, SeenPass, shard_owned}
use Rattle.script_calls.proofs.EndLaws.{at_all}
use Rattle.script_calls.proofs.ListLemmas.{get_some}
use Rattle.script_calls.proofs.PartsGoOn.{leave_follows}
use Rattle.script_heap.specs.ByLine.{KnowsBell}
use Rattle.script_heap.specs.Owners.{NoPassIsStuck}
use Rattle.script_heap.proofs.LineCuts.{heard_cut}
use Rattle.script_heap.proofs.LineRuns.{Settled, settled_so}

-- how many steps it did, if there is such a pass
abbrev steps_at : Option SeenPass → ℕ
steps_at None = 0
steps_at (Some t) = steps_of t.part.stands

module _ (terms : RunTerms) (ts : List SeenPass) (many : length ts ≡ terms.shape.passes)
    (numbers : (p : ℕ) (s : SeenPass) → slice_get ts p ≡ Some s → s.pass ≡ p) (refused : IsRefused terms ts) (v : View)
    (same : v.shape ≡ terms.shape) (leads : LeadsTogether terms.layout v) (parts : All (IsBundledIn terms v) ts) where
  abbrev end_layout : Layout
  end_layout = terms.layout

  abbrev end_plan : Plan
  end_plan = plan_of terms.layout v.shape

  abbrev last_place : ℕ
  last_place = refused.place

  abbrev before : SeenPass
  before = refused.begins

  abbrev now : SeenPass
  now = refused.now

  -- there are as many passes
  as_many : length ts ≡ end_plan.passes
  as_many = many ∙ sym (ap (λ (s : Numbers). s.passes) same)

  -- ---- what is known of each pass

  part_at : (q : ℕ) (t : SeenPass) → slice_get ts q ≡ Some t → IsBundledIn terms v t
  part_at q t e = at_all (IsBundledIn terms v) ts q t e parts

  own_at : (q : ℕ) (t : SeenPass) → slice_get ts q ≡ Some t → HasOwn end_plan leads.events q (own_part t.part.stands)
  own_at q t e =
      let told : Told = record { pass = t.pass; own = own_part t.part.stands } in
      let has : HasOwn end_plan leads.events t.pass (own_part t.part.stands) =
      each_in (λ (x : Told). HasOwn end_plan leads.events x.pass x.own) v.told told (part_at q t e).own leads.own in
      subst (λ (z : ℕ). HasOwn end_plan leads.events z (own_part t.part.stands)) (numbers q t e) has

  settled_at : (q : ℕ) (t : SeenPass) → slice_get ts q ≡ Some t → Settled end_layout v.shape t.part.stands
  settled_at q t e =
      let b = (part_at q t e).stands in settled_so end_layout v.shape t.part.stands b.0.0 (b.1 ∙ sym same)

  settled_before : Settled end_layout v.shape before.part.stands
  settled_before =
      let b = refused.stood in settled_so end_layout v.shape before.part.stands b.0.0 (b.1 ∙ sym same)

  -- ---- the cut before the refused leave

  count : ℕ → ℕ
  count q = cond (q == last_place) (steps_of before.part.stands) (steps_at (slice_get ts q))

  count_here : count last_place ≡ steps_of before.part.stands
  unfolding count
  count_here = ap (λ b. cond b (steps_of before.part.stands) (steps_at (slice_get ts last_place)))
      (eq-eqb last_place last_place refl)

  count_else : (q : ℕ) → q ≢ last_place → count q ≡ steps_at (slice_get ts q)
  unfolding count
  count_else q ne = ap (λ b. cond b (steps_of before.part.stands) (steps_at (slice_get ts q))) (ne_eqb q last_place ne)

  before_pass : before.pass ≡ last_place
  before_pass = sym (ap (λ (z : SeenPass). z.pass) refused.is) ∙ numbers last_place now refused.at

  -- what it had heard is in the bundle
  in_bundle : (o : Order) → Contains before.orders o → Contains v.orders o
  in_bundle o h = (part_at last_place now refused.at).orders o
      (subst (λ (os : List Order). Contains os o) (sym (ap (λ (z : SeenPass). z.orders) refused.is)) h)

  -- it had heard of all these steps of pass q
  abbrev HeardOf : ℕ → Type 0
  HeardOf q = (o : Order) × Contains v.orders o × (o.carrier ≡ last_place) × (o.steps ≡ count last_place)
      × (o.heard.pass ≡ q) × (count q ≤ o.heard.steps)

  has_heard : (q : ℕ) (t : SeenPass) → HeardStepsOf before t → t.pass ≡ q → count q ≡ steps_of t.part.stands
      → HeardOf q
  has_heard q t h pass its =
      let few = h.5 in
      let le : count q ≤ h.0.heard.steps = omega (arith, few, its) in
      (h.0, in_bundle h.0 h.1, h.2 ∙ before_pass, h.3 ∙ sym count_here, h.4 ∙ pass, le)

  heard : (q : ℕ) → 0 < count q → HeardOf q
  heard q some = dite (ℕ_discrete q last_place)
      (λ (e : q ≡ last_place). has_heard q before refused.own (before_pass ∙ sym e) (ap count e ∙ count_here))
      (λ (ne : q ≢ last_place). go ne (slice_get ts q) refl)
    where
      go : q ≢ last_place → (o : Option SeenPass) → slice_get ts q ≡ o → HeardOf q
      go ne None e = absurd (let none : count q ≡ 0 = count_else q ne ∙ ap steps_at e in omega (arith, some, none))
      go ne (Some t) e =
          has_heard q t (refused.others q t ne e) (numbers q t e) (count_else q ne ∙ ap steps_at e)

  cut : CutBefore end_plan leads.events count end_plan.passes last_place
  cut = heard_cut end_plan leads.events v.orders leads.steps count last_place heard end_plan.passes

  -- its steps before the cut are its first ones
  more_steps : (q : ℕ) → (more : List Footstep)
      × (trail_of end_plan leads.events q ≡ trail_of end_plan cut.early q ++ more)
  more_steps q =
      let more = trail_goes_on end_plan cut.early cut.late q in
      (more.0, ap (λ (es : List Event). trail_of end_plan es q) cut.is ∙ more.1)

  -- another pass did all its steps before the cut
  others_trail : (q : ℕ) (t : SeenPass) → q ≢ last_place → q < end_plan.passes → slice_get ts q ≡ Some t
      → trail_of end_plan cut.early q ≡ (own_part t.part.stands).trail
  others_trail q t ne lt e =
      let own = own_part t.part.stands in
      let more = more_steps q in
      let whole : own.trail ≡ trail_of end_plan cut.early q ++ more.0 = (own_at q t e).trail ∙ more.1 in
      let long : length own.trail ≡ length (trail_of end_plan cut.early q ++ more.0) =
      ap (λ (s : List Footstep). length s) whole in
      let both = length-append (trail_of end_plan cut.early q) more.0 in
      let its : count q ≡ length own.trail = count_else q ne ∙ ap steps_at e in
      let few = cut.others q lt in
      same_front (trail_of end_plan cut.early q) more.0 own.trail [] (sym whole ∙ sym (append-nil own.trail))
      (omega (arith, long, both, its, few))

  -- and the refused pass those that it had done when it left
  its_trail : trail_of end_plan cut.early last_place ≡ (own_part before.part.stands).trail
  its_trail =
      let more = more_steps last_place in
      let f = leave_follows before.part.stands (Err refusal.Waiting) now.part.stands refused.waits in
      let whole : (own_part now.part.stands).trail ≡ trail_of end_plan cut.early last_place ++ more.0 =
      (own_at last_place now refused.at).trail ∙ more.1 in
      same_front (trail_of end_plan cut.early last_place) more.0 (own_part before.part.stands).trail f.trail.0
      (sym whole ∙ f.trail.1) (cut.own ∙ count_here)

  -- ---- nothing is begun at the cut

  idle_by : (b : ℕ) (u : Body) (s : SeenSide) → b < end_plan.passes
      → slice_get (run end_plan cut.early).parts b ≡ Some u → Settled end_layout v.shape s
      → trail_of end_plan cut.early b ≡ (own_part s).trail → u.hand ≡ Idle
  idle_by b u s lt at settled trail =
      let made : body_by end_plan newcomer (trail_of end_plan cut.early b) ≡ (own_part s).body =
      ap (body_by end_plan newcomer) trail ∙ sym settled.made in
      let is : u ≡ (own_part s).body = same_Some u (own_part s).body
      (sym at ∙ (steps_make_parts end_plan cut.early b lt ∙ ap (λ (z : Body). Some z) made)) in
      subst (λ (z : Body). z.hand ≡ Idle) (sym is) settled.idle

  quiet_there : Quiet (run end_plan cut.early)
  quiet_there b u at =
      let low = slice_get_within (run end_plan cut.early).parts b u at in
      let all = (theorem end_layout v.shape leads.is_layout leads.is_shape leads.fits cut.early).passes in
      let lt : b < end_plan.passes = omega (arith, low, all) in
      dite (ℕ_discrete b last_place)
      (λ (e : b ≡ last_place). idle_by b u before.part.stands lt at settled_before
      (subst (λ (z : ℕ). trail_of end_plan cut.early z ≡ (own_part before.part.stands).trail) (sym e) its_trail))
      (λ (ne : b ≢ last_place).
      let t = get_some ts b (omega (arith, lt, as_many)) in
      idle_by b u t.0.part.stands lt at (settled_at b t.0 t.1) (others_trail b t.0 ne lt t.1))

  -- ---- the refused pass goes on alone

  goes_from_cut : Goes end_plan cut.early cut.late last_place (own_part before.part.stands) (own_part now.part.stands)
  goes_from_cut = record {
    quiet = quiet_there;
    rest = λ b ne lt.
        let t = get_some ts b (omega (arith, lt, as_many)) in
        ap (λ (s : List Footstep). length s) (ap (λ (es : List Event). trail_of end_plan es b) (sym cut.is)
        ∙ (sym (own_at b t.0 t.1).trail ∙ sym (others_trail b t.0 ne lt t.1)));
    first = sym its_trail;
    last = (own_at last_place now refused.at).trail
        ∙ ap (λ (es : List Event). trail_of end_plan es last_place) cut.is;
    body = ap (λ (es : List Event). slice_get (run end_plan es).parts last_place) (sym cut.is)
        ∙ (own_at last_place now refused.at).body;
  }

  sees_bell : (s : SeenSide) (o : Sharded) → s ≡ Shard o → KnowsBell end_plan s → SeesBell end_plan o.pages
  sees_bell s o is k =
      let b : KnowsBell end_plan (Shard o) = subst (λ (z : SeenSide). KnowsBell end_plan z) is k in
      record { cursor = b.0; takes = b.1; met = b.2 }

  refuted : (s t : SeenSide) → before.part.stands ≡ s → now.part.stands ≡ t → SideLeaves s (Err refusal.Waiting) t → ⊥
  refuted (Shard o) (Shard n) was is h =
      let G : SeenSide × SeenSide → Type 0 = λ z. Goes end_plan cut.early cut.late last_place (own_part z.0)
      (own_part z.1) in
      let g : Goes end_plan cut.early cut.late last_place o.pages.owner.view.own n.pages.owner.view.own =
      subst G (λ j. (was j, is j)) goes_from_cut in
      let after = settled_at last_place now refused.at in
      never_waits end_layout v.shape leads.is_layout leads.is_shape leads.fits cut.early cut.late last_place o.pages
      n.pages g (sees_bell before.part.stands o was settled_before.bell)
      (sees_bell now.part.stands n is after.bell)
      (subst (λ (s : SeenSide). (own_part s).body.owned ≡ shard_owned s) is after.shard)
      (subst (λ (s : SeenSide). (own_part s).body.hand ≡ Idle) is after.idle) h.1
  refuted (Shard o) (Pass w) was is h = absurd h
  refuted (Pass c) t was is h = absurd (cc h.0)

  pub none_refused : ⊥
  none_refused = refuted before.part.stands now.part.stands refl refl refused.waits

-- the bundle has a pass, since one was refused
some_leads : (terms : RunTerms) (ts : List SeenPass) → IsRefused terms ts → (b : View)
    → (ts ≡ []) ⊎ LeadsTogether terms.layout b → LeadsTogether terms.layout b
some_leads terms ts refused b leads = ⊎_elim
    (λ (e : ts ≡ []). absurd (none-some refused.now
    (subst (λ (z : List SeenPass). slice_get z refused.place ≡ Some refused.now) e refused.at)))
    (λ (l : LeadsTogether terms.layout b). l) leads

pub no_pass_is_stuck : NoPassIsStuck
no_pass_is_stuck terms h =
    let s : AreStuck terms h.passes = h.stuck in
    let alike : AreAlike h.passes s.ends = s.alike in
    let t : AreTogether terms s.ends = s.together in
    none_refused terms s.ends (alike.all ∙ h.all)
    (λ p x e.
    let inside = slice_get_within s.ends p x e in
    let long = alike.all in
    let was = get_some h.passes p (omega (arith, inside, long)) in
    (alike.each p was.0 x was.1 e).2 ∙ h.numbers p was.0 was.1)
    s.refused t.bundle t.shape (some_leads terms s.ends s.refused t.bundle t.leads) t.parts

-- so a pass carries the tale of all
pub carries_always : (alone : Bool) (heap : Option Heap) (terms : RunTerms) (tag : Option ℕ) (lines : List CallLine)
    (output : List ℕ) (carrier : Option SeenPass) → IsShape terms.shape → carrier ≡ None
    → LinesRan alone heap terms tag lines output carrier → ⊥
carries_always alone heap terms tag lines output carrier shape none ran =
    let stays : AllAreStuck terms ⊎ (terms.shape.passes ≡ 0) =
    subst (λ (o : Option SeenPass). IfNone o (AllAreStuck terms ⊎ (terms.shape.passes ≡ 0))) none ran.stays in
    ⊎_elim (λ (s : AllAreStuck terms). no_pass_is_stuck terms s)
    (λ (e : terms.shape.passes ≡ 0). let some = shape.some_pass in absurd (omega (arith, e, some))) stays
