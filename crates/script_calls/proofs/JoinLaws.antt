-- The tale of a pass that took in another.
use Rattle.std.proofs.Common.{◌≡◌, List, ◌∷◌, ◌++◌, map, sym, ap, subst, ◌∙◌, ⊎_elim}
use Rattle.std.specs.List.{Contains}
use Rattle.std.proofs.lemmas.List.{map-append}
use Rattle.std.proofs.lemmas.List.Elements.{Contains-append_left, Contains-append_right, Contains-append_cases}
use Rattle.sh_key.specs.Layout.{Layout}
use Rattle.sh_table.specs.declared.view.View.{View}
use Rattle.sh_table.specs.Views.{told_of, joined_view, order_of, heard_in}
use Rattle.sh_table.specs.declared.view.Order.{Order}
use Rattle.sh_pass.specs.Passes.{Caller}
use Rattle.script_calls.specs.Parts.{PassTold, tale_told}
use Rattle.sh_table.specs.declared.view.Told.{Told}
use Rattle.script_calls.specs.Meeting.{KeepsOrders, parts_carried}
use Rattle.script_calls.specs.Running.{seen_of_caller, log_told}

pub joined_tale : (layout : Layout) (v w r : Caller) → r.view ≡ joined_view v.view w.view
    → tale_told (seen_of_caller layout r) ≡ tale_told (seen_of_caller layout v) ++ tale_told (seen_of_caller layout w)
joined_tale layout v w r e =
    let T : View → List PassTold = λ z. record { pass = z.pass; log = z.own.log } ∷ map log_told z.told in
    ap T e ∙ ap (λ z. record { pass = v.view.pass; log = v.view.own.log } ∷ z)
    (map-append log_told v.view.told (told_of w.view ∷ w.view.told))

pub joined_orders : (layout : Layout) (v w r : Caller) → r.view ≡ joined_view v.view w.view → KeepsOrders
    ((seen_of_caller layout v).orders ++ (seen_of_caller layout w).orders) (seen_of_caller layout r).orders
joined_orders layout v w r e o h =
    let new : List Order = map (order_of v.view) (heard_in w.view) in
    subst (λ (z : View). Contains z.orders o) (sym e) (⊎_elim
    (λ (k : Contains v.view.orders o). Contains-append_left v.view.orders (w.view.orders ++ new) o k)
    (λ (k : Contains w.view.orders o). Contains-append_right v.view.orders (w.view.orders ++ new) o
    (Contains-append_left w.view.orders new o k))
    (Contains-append_cases v.view.orders w.view.orders o h))

pub parts_of_join : (layout : Layout) (v w r : Caller) → r.view ≡ joined_view v.view w.view
    → parts_carried (seen_of_caller layout r)
    ≡ parts_carried (seen_of_caller layout v) ++ parts_carried (seen_of_caller layout w)
parts_of_join layout v w r e =
    let T : View → List Told = λ z. record { pass = z.pass; own = z.own } ∷ z.told in ap T e
