-- What an owner that goes on alone has collected.
use Rattle.std.proofs.Common.{◌≡◌, ◌≢◌, ℕ, ◌+◌, ◌<◌, ◌≤◌, ◌==◌, ◌||◌, ⊎_elim, Bool, true, false, cond, List, [], ◌∷◌}
use Rattle.std.proofs.Common.{◌++◌, map, length, refl, ap, sym, ◌∙◌, subst, arith, append-nil, Some}
use Rattle.std.proofs.Common.{slice_get, eqb-true, eq-eqb, ne_eqb}
use Rattle.std.specs.List.{Contains}
use Rattle.std.proofs.lemmas.Bool.{cases_eq, false≢true}
use Rattle.std.proofs.lemmas.List.{length-append}
use Rattle.std.proofs.lemmas.List.Elements.{Contains-append_left, Contains-append_right, Contains-append_cases}
use Rattle.std.proofs.lemmas.List.Elements.{Contains-push}
use Rattle.std.proofs.lemmas.Option.{same_Some, slice_get_within}
use Rattle.sh_key.specs.Layout.{Layout, IsLayout}
use Rattle.sh_shape.specs.Shape.{Numbers, IsShape, Fits}
use Rattle.sh_slots.specs.declared.hand.Hand.TheVariants.{Idle}
use Rattle.sh_slots.specs.declared.hand.SlotRef.{SlotRef}
use Rattle.sh_slots.specs.Slots.{slot_refs}
use Rattle.sh_step.specs.declared.action.Event.{Event}
use Rattle.sh_step.specs.declared.body.Body.{Body}
use Rattle.sh_step.specs.declared.footstep.Footstep.{Footstep}
use Rattle.sh_step.specs.Collections.{total, has}
use Rattle.sh_step.specs.Footsteps.{takes, bell_takes, met, bell_met, puts, arms}
use Rattle.sh_step.specs.Parts.{newcomer}
use Rattle.sh_step.specs.Plans.{Plan, plan_of}
use Rattle.sh_step.specs.Rows.{own}
use Rattle.sh_core.specs.Lists.{PutLists, lists_of, accounts, times, slots_under}
use Rattle.sh_core.specs.Quiet.{Quiet, NothingQueued}
use Rattle.sh_core.specs.Refines.{Refines}
use Rattle.sh_core.specs.Trails.{trail_of, body_by}
use Rattle.sh_core.specs.Worlds.{World, run}
use Rattle.sh_core.proofs.Clauses.RunTheorem.{theorem}
use Rattle.sh_core.proofs.Quiet.{quiet_loses_nothing}
use Rattle.sh_core.proofs.Replays.{steps_make_parts}
use Rattle.sh_core.proofs.Words.Trails.{trail_goes_on}
use Rattle.sh_table.specs.declared.view.Heard.{Heard}
use Rattle.sh_table.specs.declared.view.Order.{Order}
use Rattle.sh_table.specs.Tales.{ViewIsValid}
use Rattle.sh_table.specs.Together.{LeadsTogether}
use Rattle.sh_table.proofs.OrderLaws.{each_in}
use Rattle.sh_history.proofs.Standing.{contains_map}
use Rattle.sh_table.specs.declared.view.Own.{Own}
use Rattle.sh_table.specs.declared.view.Told.{Told}
use Rattle.sh_table.specs.declared.view.View.{View}
use Rattle.sh_table.specs.Reached.{HasOwn, StepsBefore}
use Rattle.sh_table.specs.Views.{Each, bundled_view, done_by, empty_bundle, heard_in, joined_view, names_told, order_of}
use Rattle.sh_table.specs.Views.{told_of}
use Rattle.sh_pass.specs.Growing.{SameTale}
use Rattle.sh_pass.specs.Owners.{own_body}
use Rattle.sh_quiet.specs.Quiescence.{CollectedIsEmpty, HeardAll, IsLastOne, JoinsAreHeard, LastOnesAreQuiet}
use Rattle.sh_quiet.proofs.Alone.{Alone}
use Rattle.sh_quiet.proofs.Cuts.{CutBefore, done, done_more, heard_cut, same_front}
use Rattle.sh_quiet.proofs.GoesOn.{went_on}
use Rattle.sh_quiet.proofs.Emptied.{chain_ends}

-- ---- what a pass heard of those that it took in

none_in : (t : Told) → Contains [] t → ⊥
none_in t c = let lt = c.1 in omega (arith, lt)

-- the steps of another pass, and of those that it took in, are heard of once it is joined
heard_joined : (v w : View) (t : Told) → Contains (told_of w ∷ w.told) t → Contains (joined_view v w).orders
    (order_of v (done_by t.pass t.own))
heard_joined v w t c =
    let f : Told → Heard = λ u. done_by u.pass u.own in
    let heard : Contains (heard_in w) (f t) = Contains-append_left (f (told_of w) ∷ map f w.told)
    (map (λ (o : Order). o.heard) w.orders) (f t) (contains_map f (told_of w ∷ w.told) t c) in
    Contains-append_right v.orders (w.orders ++ map (order_of v) (heard_in w)) (order_of v (f t))
    (Contains-append_right w.orders (map (order_of v) (heard_in w)) (order_of v (f t))
    (contains_map (order_of v) (heard_in w) (f t) heard))

pub joins_are_heard : JoinsAreHeard
joins_are_heard = (
  λ v none t c. absurd (none_in t (subst (λ (ts : List Told). Contains ts t) none c)),
  λ v w before t c. ⊎_elim
      (λ (old : Contains v.told t). let h = before t old in (
        h.0,
        Contains-append_left v.orders (w.orders ++ map (order_of v) (heard_in w)) h.0 h.1,
        h.2,
        h.3,
        h.4,
        h.5,
      ))
      (λ (new : Contains (told_of w ∷ w.told) t).
      (order_of v (done_by t.pass t.own), heard_joined v w t new, refl, omega arith, refl, omega arith))
      (Contains-append_cases v.told (told_of w ∷ w.told) t c),
  λ v w before same t c.
      let h = before t (subst (λ (ts : List Told). Contains ts t) same.told c) in
      let few = h.3 in
      let long : length w.own.trail ≡ length (v.own.trail ++ same.trail.0) = ap length same.trail.1 in
      let both = length-append v.own.trail same.trail.0 in (
        h.0,
        subst (λ (os : List Order). Contains os h.0) (sym same.orders) h.1,
        h.2 ∙ sym same.pass,
        omega (arith, few, long, both),
        h.4,
        h.5,
      ),
)

-- a pass that a tale names
named_in : (q : ℕ) (ts : List Told) → names_told q ts ≡ true → (t : Told) × Contains ts t × (t.pass ≡ q)
named_in q [] is = absurd (false≢true is)
named_in q (t ∷ ts) is = ⊎_elim
    (λ (e : t.pass ≡ q). (t, Contains-append_left (t ∷ []) ts t (Contains-push [] t), e))
    (λ (ne : t.pass ≢ q). let r = named_in q ts (sym (ap (λ b. b || names_told q ts) (ne_eqb t.pass q ne)) ∙ is)
    in (r.0, Contains-append_right (t ∷ []) ts r.0 r.1, r.2))
    (cases_eq t.pass q)

-- ---- what the last one left

-- nothing was begun, and then pass a alone went on from the trail of its part before to its part after
pub record Goes (plan : Plan) (early late : List Event) (a : ℕ) (before after : Own) : Type 0 where
  pub quiet : Quiet (run plan early)
  pub rest : (b : ℕ) → b ≢ a → b < plan.passes
      → length (trail_of plan (early ++ late) b) ≡ length (trail_of plan early b)
  pub first : before.trail ≡ trail_of plan early a
  pub last : after.trail ≡ trail_of plan (early ++ late) a
  pub body : slice_get (run plan (early ++ late)).parts a ≡ Some after.body

-- The pass took in all others by v, and w is as it was when it ended. All steps of the others come before a cut of the
-- run, and so do its own steps by v.
module _ (layout : Layout) (v w : View) (last : IsLastOne v) (stands : ViewIsValid layout v) (same : SameTale v w)
    (b : LeadsTogether layout (bundled_view (empty_bundle w) w)) where
  abbrev last_plan : Plan
  last_plan = plan_of layout w.shape

  own_there : HasOwn last_plan b.events v.pass w.own
  own_there = subst (λ z. HasOwn last_plan b.events z w.own) same.pass b.own.0

  told_there : Each (λ t. HasOwn last_plan b.events t.pass t.own) v.told
  told_there = subst (λ (ts : List Told). Each (λ t. HasOwn last_plan b.events t.pass t.own) ts) same.told b.own.1

  -- how many steps each pass had done by v
  abbrev by_then : ℕ → ℕ
  by_then q = cond (q == v.pass) (length v.own.trail) (done last_plan b.events q)

  by_then_own : by_then v.pass ≡ length v.own.trail
  by_then_own = ap (λ c. cond c (length v.own.trail) (done last_plan b.events v.pass)) (eq-eqb v.pass v.pass refl)

  by_then_other : (q : ℕ) → q ≢ v.pass → by_then q ≡ done last_plan b.events q
  by_then_other q ne = ap (λ c. cond c (length v.own.trail) (done last_plan b.events q)) (ne_eqb q v.pass ne)

  -- another pass was taken in
  other_told : (q : ℕ) → q < last_plan.passes → q ≢ v.pass → (t : Told) × Contains v.told t × (t.pass ≡ q)
  other_told q lt ne =
      let named = last.whole q (subst (λ (s : Numbers). q < s.passes) same.shape lt) in
      named_in q v.told (sym (ap (λ c. c || names_told q v.told)
      (ne_eqb v.pass q (λ (e : v.pass ≡ q). ne (sym e)))) ∙ named)

  other_own : (q : ℕ) (t : Told) → Contains v.told t → t.pass ≡ q → HasOwn last_plan b.events q t.own
  other_own q t c is = subst (λ (z : ℕ). HasOwn last_plan b.events z t.own) is
      (each_in (λ (u : Told). HasOwn last_plan b.events u.pass u.own) v.told t c told_there)

  own_more : length v.own.trail ≤ done last_plan b.events v.pass
  own_more =
      let long : done last_plan b.events v.pass ≡ length (v.own.trail ++ same.trail.0) =
      ap length (sym own_there.trail ∙ same.trail.1) in
      let both = length-append v.own.trail same.trail.0 in omega (arith, long, both)

  pub cut : CutBefore last_plan b.events by_then last_plan.passes v.pass
  cut = heard_cut last_plan b.events v.orders
      (subst (λ (os : List Order). Each (StepsBefore last_plan b.events) os) same.orders b.steps) by_then
      last_plan.passes v.pass (let is = by_then_own in let more = own_more in omega (arith, is, more))
      (λ q lt ne some.
      let t = other_told q lt ne in
      let h = last.heard t.0 t.1 in
      let its = by_then_other q ne in
      let all : length t.0.own.trail ≡ done last_plan b.events q = ap length (other_own q t.0 t.1 t.2).trail in
      let is = by_then_own in
      let few = h.3 in
      let long = h.5 in (h.0, h.1, h.2, omega (arith, few, is), h.4 ∙ t.2, omega (arith, its, all, long)))

  -- its steps before the cut are its first ones
  more_steps : (q : ℕ) → (more : List Footstep)
      × (trail_of last_plan b.events q ≡ trail_of last_plan cut.early q ++ more)
  more_steps q =
      let more = trail_goes_on last_plan cut.early cut.late q in
      (more.0, ap (λ (es : List Event). trail_of last_plan es q) cut.is ∙ more.1)

  others_rest : (q : ℕ) → q ≢ v.pass → q < last_plan.passes
      → trail_of last_plan cut.early q ≡ trail_of last_plan b.events q
  others_rest q ne lt =
      let more = more_steps q in
      let few = done_more last_plan cut.early b.events cut.late cut.is q in
      let all = cut.others q lt in
      let its = by_then_other q ne in
      same_front (trail_of last_plan cut.early q) more.0 (trail_of last_plan b.events q) []
      (sym more.1 ∙ sym (append-nil (trail_of last_plan b.events q))) (omega (arith, few, all, its))

  own_first : trail_of last_plan cut.early v.pass ≡ v.own.trail
  own_first =
      let more = more_steps v.pass in
      same_front (trail_of last_plan cut.early v.pass) more.0 v.own.trail same.trail.0
      (sym more.1 ∙ (sym own_there.trail ∙ same.trail.1)) (cut.own ∙ by_then_own)

  idle_there : (q : ℕ) (u : Body) → q < last_plan.passes → slice_get (run last_plan cut.early).parts q ≡ Some u
      → u.hand ≡ Idle
  idle_there q u lt at = ⊎_elim
      (λ (e : q ≡ v.pass).
      let made : v.own.body ≡ body_by last_plan newcomer v.own.trail =
      subst (λ (s : Numbers). v.own.body ≡ body_by (plan_of layout s) newcomer v.own.trail) (sym same.shape)
      stands.part.made in
      let trail : trail_of last_plan cut.early q ≡ v.own.trail =
      ap (λ (z : ℕ). trail_of last_plan cut.early z) e ∙ own_first in
      let is : u ≡ v.own.body = same_Some u v.own.body (sym at ∙ (steps_make_parts last_plan cut.early q lt
      ∙ ap (λ (z : Body). Some z) (ap (body_by last_plan newcomer) trail ∙ sym made))) in
      subst (λ (z : Body). z.hand ≡ Idle) (sym is) last.idle.own)
      (λ (ne : q ≢ v.pass).
      let t = other_told q lt ne in
      let made : slice_get (run last_plan cut.early).parts q ≡ slice_get (run last_plan b.events).parts q =
      steps_make_parts last_plan cut.early q lt
      ∙ (ap (λ (s : List Footstep). Some (body_by last_plan newcomer s)) (others_rest q ne lt)
      ∙ sym (steps_make_parts last_plan b.events q lt)) in
      let is : u ≡ t.0.own.body = same_Some u t.0.own.body
      (sym at ∙ (made ∙ (other_own q t.0 t.1 t.2).body)) in
      subst (λ (z : Body). z.hand ≡ Idle) (sym is)
      (each_in (λ (x : Told). x.own.body.hand ≡ Idle) v.told t.0 t.1 last.idle.told))
      (cases_eq q v.pass)

  pub goes : Goes last_plan cut.early cut.late v.pass v.own w.own
  goes = record {
    quiet = λ q u at.
        let inside = slice_get_within (run last_plan cut.early).parts q u at in
        let few = (theorem layout w.shape b.is_layout b.is_shape b.fits cut.early).passes in
        idle_there q u (omega (arith, inside, few)) at;
    rest = λ q ne lt. ap length (ap (λ (es : List Event). trail_of last_plan es q) (sym cut.is)
        ∙ sym (others_rest q ne lt));
    first = sym own_first;
    last = own_there.trail ∙ ap (λ (es : List Event). trail_of last_plan es v.pass) cut.is;
    body = ap (λ (es : List Event). slice_get (run last_plan es).parts v.pass) (sym cut.is) ∙ own_there.body;
  }

  -- what is so at the end of the cut run, is so in the bundle's
  pub so_there : (P : World → PutLists → Type 0)
      → P (run last_plan (cut.early ++ cut.late)) (lists_of last_plan (cut.early ++ cut.late))
      → P (run last_plan b.events) (lists_of last_plan b.events)
  so_there P h = subst (λ (es : List Event). P (run last_plan es) (lists_of last_plan es)) (sym cut.is) h

-- a pass that took in all others is in no other state than they
last_idle : (layout : Layout) (v : View) → IsLastOne v → (b : LeadsTogether layout (bundled_view (empty_bundle v) v))
    → (q : ℕ) (u : Body) → q < v.shape.passes
    → slice_get (run (plan_of layout v.shape) b.events).parts q ≡ Some u → u.hand ≡ Idle
last_idle layout v last b q u lt at = ⊎_elim
    (λ (e : v.pass ≡ q).
    let here = subst (λ (z : ℕ). HasOwn (plan_of layout v.shape) b.events z v.own) e b.own.0 in
    let is : u ≡ v.own.body = same_Some u v.own.body (sym at ∙ here.body) in
    subst (λ (z : Body). z.hand ≡ Idle) (sym is) last.idle.own)
    (λ (ne : v.pass ≢ q).
    let t = named_in q v.told (sym (ap (λ c. c || names_told q v.told) (ne_eqb v.pass q ne)) ∙ last.whole q lt) in
    let has = each_in (λ (x : Told). HasOwn (plan_of layout v.shape) b.events x.pass x.own) v.told t.0 t.1 b.own.1 in
    let here = subst (λ (z : ℕ). HasOwn (plan_of layout v.shape) b.events z t.0.own) t.2 has in
    let is : u ≡ t.0.own.body = same_Some u t.0.own.body (sym at ∙ here.body) in
    subst (λ (z : Body). z.hand ≡ Idle) (sym is)
    (each_in (λ (x : Told). x.own.body.hand ≡ Idle) v.told t.0 t.1 last.idle.told))
    (cases_eq v.pass q)

pub last_ones_are_quiet : LastOnesAreQuiet
last_ones_are_quiet layout v last b q u at =
    let all = theorem layout v.shape b.is_layout b.is_shape b.fits b.events in
    let inside = slice_get_within (run (plan_of layout v.shape) b.events).parts q u at in
    let few = all.passes in last_idle layout v last b q u (omega (arith, inside, few)) at

module _ (layout : Layout) (shape : Numbers) (is_layout : IsLayout layout) (is_shape : IsShape shape)
    (fits : Fits layout shape) (early more : List Event) (a : ℕ) (before after : Own)
    (g : Goes (plan_of layout shape) early more a before after) (same : puts after.trail ≡ puts before.trail) where
  abbrev planned : Plan
  planned = plan_of layout shape

  abbrev late : List Event
  late = early ++ more

  all : Refines planned (run planned late) (lists_of planned late)
  all = theorem layout shape is_layout is_shape fits late

  alone : Alone planned a (run planned late) (lists_of planned late) (trail_of planned late a)
      (trail_of planned early a)
  alone = went_on layout shape is_layout is_shape fits a early more g.quiet g.rest
      (ap puts (sym g.last) ∙ (same ∙ ap puts g.first))

  pub quiet_still : after.body.hand ≡ Idle → Quiet (run planned late)
  quiet_still idle b u has = ⊎_elim
      (λ (is : b ≡ a).
      let here : slice_get (run planned late).parts a ≡ Some u = subst
      (λ z. slice_get (run planned late).parts z ≡ Some u) is has in
      let both : Some after.body ≡ Some u = sym g.body ∙ here in
      let it : after.body ≡ u = cc in subst (λ (z : Body). z.hand ≡ Idle) it idle)
      (λ (other : b ≢ a). alone.others b u other has)
      (cases_eq b a)

  taken_is_empty : (q : ℕ) → takes q before.trail < takes q after.trail → (lists_of planned late).stack q ≡ []
  taken_is_empty q more = ⊎_elim
      (λ e.
      let b = ap (takes q) g.first in
      let l = ap (takes q) g.last in absurd (omega (arith, e, b, l, more)))
      (λ h. h) (alone.stack q)

  pub rung_is_empty : (n : ℕ) → bell_takes n before.trail < bell_takes n after.trail
      → (lists_of planned late).bells n ≡ []
  rung_is_empty n more = ⊎_elim
      (λ e.
      let b = ap (bell_takes n) g.first in
      let l = ap (bell_takes n) g.last in absurd (omega (arith, e, b, l, more)))
      (λ h. h) (alone.bells n)

  pub none_met : (q : ℕ) → met q before.trail < met q after.trail → ⊥
  none_met q more =
      let b = ap (met q) g.first in
      let l = ap (met q) g.last in
      let e = alone.met q in omega (arith, e, b, l, more)

  pub none_met_on_bell : (n : ℕ) → bell_met planned n before.trail < bell_met planned n after.trail → ⊥
  none_met_on_bell n more =
      let b = ap (bell_met planned n) g.first in
      let l = ap (bell_met planned n) g.last in
      let e = alone.bell_met n in omega (arith, e, b, l, more)

  pub head_is_empty : (q : ℕ) → arms after.trail ≡ arms before.trail → takes q before.trail < takes q after.trail
      → (run planned late).words.head_at q ≡ 0
  head_is_empty q none more = ⊎_elim
      (λ e.
      let b = ap (takes q) g.first in
      let l = ap (takes q) g.last in absurd (omega (arith, e, b, l, more)))
      (λ h. h) (alone.heads q (ap arms (sym g.last) ∙ (none ∙ ap arms g.first)))

-- ---- a page that was collected

total_none : {A : Type 0} (f : A → ℕ) → ((x : A) → f x ≡ 0) → (xs : List A) → total f xs ≡ 0
unfolding total
total_none f none [] = refl
total_none f none (x ∷ xs) = let here = none x in let rest = total_none f none xs in omega (arith, here, rest)

-- with empty lists no slot of the page is queued
none_queued : (w : World) (l : PutLists) (q : ℕ) → l.stack q ≡ [] → l.chain q ≡ [] → (accounts w l q).queued ≡ 0
unfolding accounts total
none_queued w l q stack chain = total_none (λ (x : SlotRef). times x.slot (l.stack q) + times x.slot (l.chain q))
    (λ x.
    let a : times x.slot (l.stack q) ≡ 0 = ap (times x.slot) stack in
    let b : times x.slot (l.chain q) ≡ 0 = ap (times x.slot) chain in omega (arith, a, b))
    (slot_refs q 0 (slots_under (w.words.class_at q)))

nothing_queued : (layout : Layout) (shape : Numbers) → IsLayout layout → IsShape shape → Fits layout shape
    → (es : List Event) (q : ℕ) → (let plan = plan_of layout shape in Quiet (run plan es)
    → (lists_of plan es).stack q ≡ [] → (lists_of plan es).chain q ≡ []
    → NothingQueued (run plan es) (lists_of plan es) q)
unfolding total
nothing_queued layout shape is_layout is_shape fits es q quiet stack chain =
    let plan = plan_of layout shape in
    let l = lists_of plan es in record {
      quiet = quiet;
      stack = stack;
      chain = chain;
      queued = none_queued (run plan es) l q stack chain;
      mine = λ x on empty.
          let one = (quiet_loses_nothing layout shape is_layout is_shape fits es quiet).none_lost x empty in
          let a : times x.slot (l.stack x.page) ≡ 0 = ap (times x.slot)
          (subst (λ z. l.stack z ≡ []) (sym on) stack) in
          let b : times x.slot (l.chain x.page) ≡ 0 = ap (times x.slot)
          (subst (λ z. l.chain z ≡ []) (sym on) chain) in omega (arith, one, a, b);
    }

pub collected_is_empty : CollectedIsEmpty
collected_is_empty layout v w q last stands same put idle mine taken none b =
    let shape = w.view.shape in
    let a = v.view.pass in
    let plan = plan_of layout shape in
    let c = cut layout v.view w.view last stands same b in
    let g = goes layout v.view w.view last stands same b in
    let late = c.early ++ c.late in
    let quiet = quiet_still layout shape b.is_layout b.is_shape b.fits c.early c.late a v.view.own w.view.own g put
    idle in
    so_there layout v.view w.view last stands same b (λ world l. NothingQueued world l q)
    (nothing_queued layout shape b.is_layout b.is_shape b.fits late q quiet
    (taken_is_empty layout shape b.is_layout b.is_shape b.fits c.early c.late a v.view.own w.view.own g put q taken)
    (chain_ends plan (run plan late) (lists_of plan late) (theorem layout shape b.is_layout b.is_shape b.fits late)
    quiet a (own_body w) g.body q mine none))
