-- A pass does its next line: the order with it leads to what it left.
use Rattle.std.proofs.Common.{◌≡◌, ◌≢◌, ℕ, ◌+◌, ◌-◌, ◌<◌, ◌==◌, Bool, cond, List, [], ◌∷◌, ◌++◌, sym, ap, ◌∙◌}
use Rattle.std.proofs.Common.{subst, arith, Some, slice_get, inl, inr, append_assoc, append-nil, eq-eqb, ne_eqb}
use Rattle.std.specs.Prelude.{Ok, slice_set}
use Rattle.std.specs.List.{filter}
use Rattle.std.proofs.lemmas.Bool.{cases_eq}
use Rattle.std.proofs.lemmas.List.{length-set}
use Rattle.std.proofs.lemmas.List.Elements.{filter-append, All-append}
use Rattle.std.proofs.lemmas.Option.{slice_get_within}
use Rattle.sh_key.specs.Layout.{Layout}
use Rattle.sh_shape.specs.Shape.{Numbers}
use Rattle.sh_step.specs.declared.action.Event.{Event}
use Rattle.sh_step.specs.declared.body.Body.{Body}
use Rattle.sh_step.specs.Plans.{Plan, plan_of}
use Rattle.sh_core.specs.declared.outcome.Outcome.{Outcome}
use Rattle.sh_core.specs.Kept.{KeptWorld, Represents, StepsWorld, RunsWorld}
use Rattle.sh_core.specs.Outcomes.{outcome_of}
use Rattle.sh_core.specs.Worlds.{World, step, run, run_from, open_world}
use Rattle.sh_core.proofs.Words.Steps.{run_snoc, run_append}
use Rattle.script_orders.specs.declared.changes.Change.{Change}
use Rattle.script_orders.specs.declared.found.Program.{Program}
use Rattle.script_orders.specs.Changes.{HasChanges}
use Rattle.script_orders.specs.Lanes.{Did, and_then}
use Rattle.script_orders.specs.Orders.{is_of, lines_within, IsOfSome, events_of, reply_line, replies_from}
use Rattle.script_orders.specs.Reached.{plan_in, world_before, done_by, world_by, replies_by, IsNext, HasDone}
use Rattle.script_orders.specs.Reached.{LeadsTo}
use Rattle.script_orders.specs.Seen.{Sees}
use Rattle.script_orders.proofs.ListSteps.{get_set_same, get_set_other}
use Rattle.script_orders.proofs.Parts.{step_other, left_by, step_own, does_step}
use Rattle.script_orders.proofs.Stories.{story_more}
use Rattle.script_orders.proofs.LineOptions.{is_of_at, due_event}
use Rattle.script_orders.proofs.LineLists.{lines_join, lines_own, own_lines, other_lines, lines_are_of, events_append}
use Rattle.script_orders.proofs.LineLists.{event_one}
use Rattle.script_orders.proofs.Skipped.{Skips, replies_append, skips_run, skips_reply, not_due_skips}

-- ---- an order, and then more lines

pub world_more : (layout : Layout) (p : Program) (order xs : List ℕ) → world_by layout p (order ++ xs)
    ≡ run_from (plan_in layout p) (world_by layout p order) (events_of p.lines.now xs)
world_more layout p order xs =
    let plan : Plan = plan_in layout p in
    ap (λ (es : List Event). run plan (p.before.now ++ es)) (events_append p.lines.now order xs)
    ∙ ap (λ (es : List Event). run plan es)
    (sym (append_assoc p.before.now (events_of p.lines.now order) (events_of p.lines.now xs)))
    ∙ run_append plan (open_world plan) (done_by p order) (events_of p.lines.now xs)

pub replies_more : (layout : Layout) (p : Program) (order xs : List ℕ) (a : ℕ) → replies_by layout p (order ++ xs) a
    ≡ replies_by layout p order a
    ++ replies_from (plan_in layout p) (world_by layout p order) (events_of p.lines.now xs) a
replies_more layout p order xs a =
    let plan : Plan = plan_in layout p in
    let w : World = run plan p.before.now in
    let es : List Event = events_of p.lines.now order in
    ap (λ (ds : List Event). replies_from plan w ds a) (events_append p.lines.now order xs)
    ∙ replies_append plan w es (events_of p.lines.now xs) a
    ∙ ap (λ (v : World). replies_from plan w es a ++ replies_from plan v (events_of p.lines.now xs) a)
    (sym (run_append plan (open_world plan) p.before.now es))

-- ---- the lines of a pass up to the next one

pub reply_one : (plan : Plan) (w : World) (e : Event) (a : ℕ) → replies_from plan w (e ∷ []) a
    ≡ cond (e.pass == a) (reply_line e (outcome_of plan w e)) []
unfolding replies_from
reply_one plan w e a = append-nil (cond (e.pass == a) (reply_line e (outcome_of plan w e)) [])

module _ (plan : Plan) (w : World) (lines : List Event) (pass behind n : ℕ) (e : Event)
    (next : IsNext plan w.parts lines pass behind n) (at : slice_get lines n ≡ Some e) where
  abbrev passed : List ℕ
  passed = lines_within lines pass behind n

  abbrev all : List ℕ
  all = lines_within lines pass behind (n + 1)

  pub is_own : e.pass ≡ pass
  is_own = (due_event plan w.parts lines pass n e at next.due).0

  events_are : events_of lines all ≡ events_of lines passed ++ e ∷ []
  events_are =
      ap (events_of lines) (lines_own lines pass behind n next.after (is_of_at lines pass n (Some e) at
      ∙ eq-eqb e.pass pass is_own))
      ∙ events_append lines passed (n ∷ [])
      ∙ ap (λ (es : List Event). events_of lines passed ++ es) (event_one lines n e at)

  passed_skips : Skips plan w (events_of lines passed)
  passed_skips =
      let after = next.after in
      not_due_skips plan w lines pass behind (n - behind) (λ m low high. next.first m low (omega arith))

  pub world_after : run_from plan w (events_of lines all) ≡ step plan w e
  world_after =
      ap (λ (es : List Event). run_from plan w es) events_are
      ∙ run_snoc plan w (events_of lines passed) e
      ∙ ap (λ (v : World). step plan v e) (skips_run plan w (events_of lines passed) passed_skips)

  pub replies_after : (a : ℕ) → replies_from plan w (events_of lines all) a
      ≡ cond (e.pass == a) (reply_line e (outcome_of plan w e)) []
  replies_after a =
      let es : List Event = events_of lines passed in
      ap (λ (ds : List Event). replies_from plan w ds a) events_are
      ∙ replies_append plan w es (e ∷ []) a
      ∙ ap (λ (t : List ℕ). t ++ replies_from plan (run_from plan w es) (e ∷ []) a)
      (skips_reply plan w es a passed_skips)
      ∙ ap (λ (v : World). replies_from plan v (e ∷ []) a) (skips_run plan w es passed_skips)
      ∙ reply_one plan w e a

pub played_on : (layout : Layout) (p : Program) (order : List ℕ) (pass behind n : ℕ) (e : Event) (o : Outcome)
    (k k' : KeptWorld) → RunsWorld layout p.shape (done_by p order) (Ok k)
    → IsNext (plan_of layout k.shape) k.parts p.lines.now pass behind n → slice_get p.lines.now n ≡ Some e
    → StepsWorld layout k e o k'
    → RunsWorld layout p.shape (done_by p (order ++ lines_within p.lines.now pass behind (n + 1))) (Ok k')
played_on layout p order pass behind n e o k k' (fits, same, stands) next there steps =
    let w : World = world_by layout p order in
    let more : List ℕ = lines_within p.lines.now pass behind (n + 1) in
    let P : Numbers → Type 0 = λ m. IsNext (plan_of layout m) k.parts p.lines.now pass behind n in
    let Q : List Body → Type 0 = λ bs. IsNext (plan_in layout p) bs p.lines.now pass behind n in
    let R : Numbers → Type 0 = λ m. Represents k' (step (plan_of layout m) w e) in
    let led : world_by layout p (order ++ more) ≡ step (plan_in layout p) w e =
    world_more layout p order more
    ∙ world_after (plan_in layout p) w p.lines.now pass behind n e (subst Q stands.parts (subst P same next)) there in (
      fits,
      steps.shape ∙ same,
      subst (λ (v : World). Represents k' v) (sym led) (subst R same (steps.world w stands)),
    )

-- ---- the order with the next line

module _ (layout : Layout) (p : Program) (order : List ℕ) (changes : List Change) (lanes : List Did)
    (leads : LeadsTo layout p order changes lanes) (pass n seen : ℕ) (d : Did) (at : slice_get lanes pass ≡ Some d)
    (next : IsNext (plan_in layout p) (world_by layout p order).parts p.lines.now pass d.behind n) (e : Event)
    (there : slice_get p.lines.now n ≡ Some e) (o : Outcome)
    (came : o ≡ outcome_of (plan_in layout p) (world_by layout p order) e)
    (sees : Sees (plan_in layout p) (world_by layout p order) e seen) where
  abbrev lines : List Event
  lines = p.lines.now

  abbrev more : List ℕ
  more = lines_within lines pass d.behind (n + 1)

  abbrev new : Did
  new = and_then d n seen (reply_line e o)

  abbrev plan : Plan
  plan = plan_in layout p

  abbrev w : World
  w = world_by layout p order

  own : e.pass ≡ pass
  own = is_own plan w lines pass d.behind n e next there

  pub world_is : world_by layout p (order ++ more) ≡ step plan w e
  world_is = world_more layout p order more ∙ world_after plan w lines pass d.behind n e next there

  replies_are : (a : ℕ) → replies_by layout p (order ++ more) a
      ≡ replies_by layout p order a ++ cond (e.pass == a) (reply_line e o) []
  replies_are a =
      replies_more layout p order more a
      ∙ ap (λ (t : List ℕ). replies_by layout p order a ++ t) (replies_after plan w lines pass d.behind n e next there a
      ∙ ap (λ (x : Outcome). cond (e.pass == a) (reply_line e x) []) (sym came))

  done_own : HasDone layout p (order ++ more) pass new
  done_own =
      let old = leads.each pass d at in
      let after = next.after in
      let within = slice_get_within lines n e there in
      record {
        lines =
            filter-append (is_of lines pass) order more
            ∙ ap (λ (xs : List ℕ). xs ++ filter (is_of lines pass) more) old.lines
            ∙ ap (λ (xs : List ℕ). lines_within lines pass 0 d.behind ++ xs) (own_lines lines pass d.behind (n + 1))
            ∙ sym (lines_join lines pass 0 d.behind (n + 1) (omega arith) (omega arith));
        within = omega arith;
        replies =
            ap (λ (t : List ℕ). t ++ reply_line e o) old.replies
            ∙ ap (λ (b : Bool). replies_by layout p order pass ++ cond b (reply_line e o) [])
            (sym (eq-eqb e.pass pass own))
            ∙ sym (replies_are pass);
        part = λ start at.
            let was = old.part start at in
            let here : slice_get w.parts e.pass ≡ Some was.0 = ap (λ (a : ℕ). slice_get w.parts a) own ∙ was.1 in (
              left_by plan w e seen sees,
              ap (λ (v : World). slice_get v.parts pass) world_is
                  ∙ ap (λ (a : ℕ). slice_get (step plan w e).parts a) (sym own) ∙ step_own plan w e seen sees,
              story_more plan lines d.story (record { line = n; seen = seen }) start was.0 (left_by plan w e seen sees)
                  was.2 (does_step plan w lines n e seen was.0 sees there here),
            );
      }

  done_other : (a : ℕ) (d' : Did) → a ≢ pass → slice_get lanes a ≡ Some d' → HasDone layout p (order ++ more) a d'
  done_other a d' ne is =
      let old = leads.each a d' is in
      record {
        lines =
            filter-append (is_of lines a) order more
            ∙ ap (λ (xs : List ℕ). filter (is_of lines a) order ++ xs) (other_lines lines a pass d.behind (n + 1) ne)
            ∙ append-nil (filter (is_of lines a) order)
            ∙ old.lines;
        within = old.within;
        replies =
            old.replies
            ∙ sym (replies_are a
            ∙ ap (λ (b : Bool). replies_by layout p order a ++ cond b (reply_line e o) [])
            (ne_eqb e.pass a (λ h. ne (sym h ∙ own)))
            ∙ append-nil (replies_by layout p order a));
        part = λ start at.
            let was = old.part start at in (
              was.0,
              ap (λ (v : World). slice_get v.parts a) world_is
                  ∙ step_other plan w e a (λ h. ne (h ∙ own)) ∙ was.1,
              was.2,
            );
      }

  done_each : (a : ℕ) (d' : Did) → slice_get (slice_set lanes pass new) a ≡ Some d'
      → HasDone layout p (order ++ more) a d'
  done_each a d' is = elim (cases_eq a pass) [
    | inl same ↦
        let here : slice_get (slice_set lanes pass new) a ≡ Some new = rw same (get_set_same lanes pass d new at) in
        let e1 : new ≡ d' = cc in
        subst (λ (x : Did). HasDone layout p (order ++ more) a x) e1
        (subst (λ (b : ℕ). HasDone layout p (order ++ more) b new) (sym same) done_own)
    | inr ne ↦ done_other a d' ne (sym (get_set_other lanes pass a new ne) ∙ is)
  ]

  pub goes_on : (changes' : List Change)
      → HasChanges p.shape changes' (world_before layout p).words (step plan w e).words → pass < p.shape.passes
      → LeadsTo layout p (order ++ more) changes' (slice_set lanes pass new)
  goes_on changes' changed less = record {
    only = All-append (IsOfSome lines p.shape.passes) order more leads.only
        (lines_are_of lines p.shape.passes pass d.behind (n + 1) less);
    changed =
        subst (λ (v : World). HasChanges p.shape changes' (world_before layout p).words v.words) (sym world_is)
        changed;
    count = length-set lanes pass new ∙ leads.count;
    each = done_each;
  }
