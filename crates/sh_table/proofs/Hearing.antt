-- What is heard of a log stays true as the log grows.
use Rattle.std.proofs.Common.{ℕ, List, [], ◌++◌, map, ap, ◌∙◌, sym, append_assoc, append-nil}
use Rattle.sh_history.specs.declared.entry.Entry.{Entry}
use Rattle.sh_history.specs.Log.{Agrees}
use Rattle.sh_table.specs.declared.view.Heard.{Heard}
use Rattle.sh_table.specs.declared.view.Order.{Order}
use Rattle.sh_table.specs.declared.view.Own.{Own}
use Rattle.sh_table.specs.declared.view.Told.{Told}
use Rattle.sh_table.specs.declared.view.View.{View}
use Rattle.sh_table.specs.Views.{Each, done_by, heard_in, order_of, orders_with}
use Rattle.sh_table.specs.Tales.{by, IsLogOf, HasFirst, Before}
use Rattle.sh_table.proofs.Zips.{each_map, each_append, each_of_map, zip_length, by_append}

pub first_stays : (log new : List Entry) (h : Heard) → HasFirst log h → HasFirst (log ++ new) h
first_stays log new h f = (
  f.0,
  f.1 ++ by h.pass new,
  by_append h.pass log new ∙ (ap (λ (l : List Entry). l ++ by h.pass new) f.2
      ∙ append_assoc f.0 f.1 (by h.pass new)),
  f.3,
)

pub before_stays : (log new : List Entry) (o : Order) → Before log o → Before (log ++ new) o
before_stays log new o b = (
  b.0,
  b.1 ++ new,
  ap (λ (l : List Entry). l ++ new) b.2 ∙ append_assoc b.0 b.1 new,
  b.3,
  b.4,
)

-- all of a pass's entries are its first ones
pub all_first : (log : List Entry) (a : ℕ) (o : Own) → IsLogOf a o log → HasFirst log (done_by a o)
all_first log a o h = (by a log, [], sym (append-nil (by a log)), h)

-- each order is about entries that were heard
pub heard_before : (log : List Entry) (o : Order) → Before log o → HasFirst log o.heard
heard_before log o b = let f = first_stays b.0 b.1 o.heard b.4 in
    (f.0, f.1, ap (by o.heard.pass) b.2 ∙ f.2, f.3)

module _ (log : List Entry) where
  -- all that a view can report
  pub can_tell : (v : View) → IsLogOf v.pass v.own log → Each (λ (t : Told). IsLogOf t.pass t.own log) v.told
      → Each (Before log) v.orders → Each (HasFirst log) (heard_in v)
  can_tell v own told orders = (
    all_first log v.pass v.own own,
    each_append (HasFirst log) (map (λ (t : Told). done_by t.pass t.own) v.told) _
        (each_of_map (HasFirst log) (λ (t : Told). done_by t.pass t.own) v.told
        (each_map _ _ (λ (t : Told) (h : IsLogOf t.pass t.own log). all_first log t.pass t.own h) v.told told))
        (each_of_map (HasFirst log) (λ (o : Order). o.heard) v.orders
        (each_map _ _ (λ (o : Order) (b : Before log o). heard_before log o b) v.orders orders)),
  )

  -- what is in the log now comes before all later entries
  stands_by_now : (v : View) → IsLogOf v.pass v.own log → (h : Heard) → HasFirst log h → Before log (order_of v h)
  stands_by_now v own h f = (log, [], sym (append-nil log), sym (zip_length Agrees v.own.log (by v.pass log) own), f)

  pub hears : (v w : View) → IsLogOf v.pass v.own log → Each (Before log) v.orders → Each (Before log) w.orders
      → Each (HasFirst log) (heard_in w) → Each (Before log) (orders_with v w)
  hears v w own ours theirs heard = each_append (Before log) v.orders _ ours (each_append (Before log) w.orders _ theirs
      (each_of_map (Before log) (order_of v) (heard_in w)
      (each_map _ _ (stands_by_now v own) (heard_in w) heard)))
