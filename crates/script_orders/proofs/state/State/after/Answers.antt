use Rattle.std.proofs.Common.{rc_value, ◌≡◌, ℕ, ◌++◌, List, Some, arith, refl, sym, ap, ◌∙◌, length}
use Rattle.std.specs.Prelude.{map, slice_get, slice_set}
use Rattle.std.proofs.lemmas.Grind.{common_steps}
use Rattle.std.proofs.lemmas.List.{map-set}
use Rattle.std.proofs.lemmas.Option.{slice_get_read}
use Rattle.script_orders.specs.declared.lane.Lane.{Lane}
use Rattle.script_orders.specs.Lanes.{Did, did}
use Rattle.script_orders.specs.Orders.{lines_within}
use Rattle.script_orders.specs.Reached.{lanes_of}
use Rattle.script_orders.proofs.Walked.{lane_at}
use Rattle.script_orders.proofs.state.State.after.Goals as goal

pub returns : goal.returns
returns c = record {
  order = λ old at.
      let s = c.args.self.now in
      let shared = c.index.result.now in
      let lane = shared.value in
      let here : slice_get (lanes_of s) c.args.pass ≡ Some (did lane) =
      lane_at s.lanes.items rc_value c.args.pass shared
      (slice_get_read s.lanes.items (length s.lanes.items) c.args.pass shared refl c.requires c.index.ensures) in
      let same : did lane ≡ old = let z : Some (did lane) ≡ Some old = sym here ∙ at in cc in
      c.in_ok-push_lines.ensures
      ∙ ap (λ (l : Lane). c.in_ok-order.order.items
      ++ lines_within c.args.lines.now c.args.pass l.behind c.deref-2.result.now.behind) c.deref.ensures
      ∙ ap (λ (l : Lane). c.in_ok-order.order.items
      ++ lines_within c.args.lines.now c.args.pass lane.behind l.behind) c.deref-2.ensures
      ∙ ap (λ (xs : List ℕ). xs ++ lines_within c.args.lines.now c.args.pass lane.behind c.args.lane.value.behind)
      (c.in_ok-order.ensures.items ∙ c.as_slice.ensures.value)
      ∙ ap (λ (d : Did). s.order.items ++ lines_within c.args.lines.now c.args.pass d.behind c.args.lane.value.behind) same;
  passes = grind (arith, common_steps);
  lanes = map-set (λ lane. did (rc_value lane)) c.in_ok-lanes.lanes.items c.args.pass c.args.lane
      ∙ ap (λ (ls : List Did). slice_set ls c.args.pass (did (rc_value c.args.lane))) (c.in_ok-lanes.ensures
      ∙ (λ i. map (λ lane. did (rc_value lane)) (c.as_slice-3.ensures.value i)));
  changes_are = refl;
  orders = refl;
}
