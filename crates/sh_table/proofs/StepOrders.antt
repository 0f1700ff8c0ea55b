-- What is heard of steps stays true as more events come.
use Rattle.std.proofs.Common.{◌≡◌, ◌≤◌, ℕ, List, [], ◌++◌, length, map, ap, ◌∙◌, sym, subst, arith, append_assoc}
use Rattle.std.proofs.Common.{append-nil}
use Rattle.sh_step.specs.declared.action.Event.{Event}
use Rattle.sh_step.specs.Plans.{Plan}
use Rattle.sh_core.specs.Trails.{trail_of}
use Rattle.sh_core.proofs.Words.Trails.{trails_lengthen}
use Rattle.sh_table.specs.declared.view.Heard.{Heard}
use Rattle.sh_table.specs.declared.view.Order.{Order}
use Rattle.sh_table.specs.declared.view.Own.{Own}
use Rattle.sh_table.specs.declared.view.Told.{Told}
use Rattle.sh_table.specs.declared.view.View.{View}
use Rattle.sh_table.specs.Views.{Each, done_by, heard_in, order_of, orders_with}
use Rattle.sh_table.specs.Reached.{HasOwn, HasDone, StepsBefore}
use Rattle.sh_table.proofs.Zips.{each_map, each_append, each_of_map}

module _ (plan : Plan) where
  pub done_stays : (es new : List Event) (h : Heard) → HasDone plan es h → HasDone plan (es ++ new) h
  done_stays es new h d =
      let few : h.steps ≤ length (trail_of plan es h.pass) = d in
      let more = trails_lengthen plan es new h.pass in
      let all : h.steps ≤ length (trail_of plan (es ++ new) h.pass) = omega (arith, few, more) in
      all

  pub steps_stay : (es new : List Event) (o : Order) → StepsBefore plan es o → StepsBefore plan (es ++ new) o
  steps_stay es new o b = (
    b.0,
    b.1 ++ new,
    ap (λ (l : List Event). l ++ new) b.2 ∙ append_assoc b.0 b.1 new,
    b.3,
    b.4,
  )

  -- all that a pass did is done
  all_done : (es : List Event) (a : ℕ) (o : Own) → HasOwn plan es a o → HasDone plan es (done_by a o)
  all_done es a o h =
      let same : length o.trail ≡ length (trail_of plan es a) = ap length h.trail in
      let all : length o.trail ≤ length (trail_of plan es a) = omega (arith, same) in
      all

  -- each order is about steps that are done
  heard_done : (es : List Event) (o : Order) → StepsBefore plan es o → HasDone plan es o.heard
  heard_done es o b = subst (λ (l : List Event). HasDone plan l o.heard) (sym b.2) (done_stays b.0 b.1 o.heard b.4)

  module _ (es : List Event) where
    -- all that a view can report
    pub can_tell_steps : (v : View) → HasOwn plan es v.pass v.own
        → Each (λ (t : Told). HasOwn plan es t.pass t.own) v.told → Each (StepsBefore plan es) v.orders
        → Each (HasDone plan es) (heard_in v)
    can_tell_steps v own told orders = (
      all_done es v.pass v.own own,
      each_append (HasDone plan es) (map (λ (t : Told). done_by t.pass t.own) v.told) _
          (each_of_map (HasDone plan es) (λ (t : Told). done_by t.pass t.own) v.told
          (each_map _ _ (λ (t : Told) (h : HasOwn plan es t.pass t.own). all_done es t.pass t.own h) v.told told))
          (each_of_map (HasDone plan es) (λ (o : Order). o.heard) v.orders
          (each_map _ _ (λ (o : Order) (b : StepsBefore plan es o). heard_done es o b) v.orders orders)),
    )

    -- what is done now comes before all later steps
    done_by_now : (v : View) → HasOwn plan es v.pass v.own → (h : Heard) → HasDone plan es h
        → StepsBefore plan es (order_of v h)
    done_by_now v own h d = (es, [], sym (append-nil es), sym (ap length own.trail), d)

    pub hears_steps : (v w : View) → HasOwn plan es v.pass v.own → Each (StepsBefore plan es) v.orders
        → Each (StepsBefore plan es) w.orders → Each (HasDone plan es) (heard_in w)
        → Each (StepsBefore plan es) (orders_with v w)
    hears_steps v w own ours theirs heard = each_append (StepsBefore plan es) v.orders _ ours
        (each_append (StepsBefore plan es) w.orders _ theirs
        (each_of_map (StepsBefore plan es) (order_of v) (heard_in w)
        (each_map _ _ (done_by_now v own) (heard_in w) heard)))
