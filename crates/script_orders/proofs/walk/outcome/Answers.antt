use Rattle.std.proofs.Common.{◌≡◌, List, ℕ, ◌++◌, refl, sym, ap, subst, ◌∙◌, arith, map, Some, slice_get}
use Rattle.std.specs.List.{range_with_len}
use Rattle.std.proofs.lemmas.Option.{slice_get_within}
use Rattle.script_orders.specs.Lanes.{Did}
use Rattle.script_orders.specs.Orders.{IsOrder}
use Rattle.script_orders.specs.Reached.{plan_in, lanes_of, world_by, replies_by, HasNoNext}
use Rattle.script_orders.specs.States.{all_left}
use Rattle.script_orders.proofs.Ends.{is_order, world_same, all_replies}
use Rattle.script_orders.proofs.walk.outcome.Goals as goal

pub returns-clause-is : goal.returns-clause-is
returns-clause-is g c =
    let layout = g.L.KeyLayout.layout in
    let p = c.args.program.now in
    let s = c.args.state.now in
    let order = s.order.items in
    let changes = s.changes.items in
    let lanes = lanes_of s in
    let leads = c.requires.reached in
    let whole = order ++ all_left p.lines.now lanes p.shape.passes in
    let witness = c.in_ok-whole_order.field-0.items in
    let is : witness ≡ whole = c.in_ok-whole_order.ensures
    ∙ ap (λ (n : ℕ). order ++ all_left p.lines.now lanes n) c.passes.ensures.passes in
    let count = leads.count in
    let rests : (a : ℕ) (d : Did) → slice_get lanes a ≡ Some d → HasNoNext (plan_in layout p)
    (world_by layout p order).parts p.lines.now a d.behind = λ a d at.
    let less = slice_get_within lanes a d at in
    c.requires.rests a (omega arith) d at in
    record {
      order = subst (λ (xs : List ℕ). IsOrder p.lines.now p.shape.passes xs) (sym is)
          (is_order layout p order changes lanes leads rests);
      replies =
          c.in_ok-replies.ensures
          ∙ all_replies layout p order changes lanes leads rests
          ∙ ap (λ (xs : List ℕ). map (replies_by layout p xs) (range_with_len 0 p.shape.passes)) (sym is);
      pages = c.in_ok-pages.ensures witness (ap (world_by layout p) is
          ∙ world_same layout p order changes lanes leads rests);
    }

pub returns-clause-pages : goal.returns-clause-pages
returns-clause-pages g c = c.in_ok-pages.ensures c.args.state.now.order.items refl
