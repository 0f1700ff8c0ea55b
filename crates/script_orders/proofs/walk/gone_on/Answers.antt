use Rattle.std.proofs.Common.{rc_value, ◌≡◌, ℕ, List, sym, ap, subst, ◌∙◌, refl, Some, slice_get}
use Rattle.std.specs.List.{All}
use Rattle.std.specs.Prelude.{vec_items}
use Rattle.std.proofs.lemmas.Option.{slice_get_within}
use Rattle.script_orders.specs.declared.changes.Change.{Change}
use Rattle.script_orders.specs.declared.known.Known.{Known}
use Rattle.script_orders.specs.declared.lane.Lane.{Lane}
use Rattle.script_orders.specs.Known.{IsKnown, IsSo}
use Rattle.script_orders.specs.Lanes.{Did, did}
use Rattle.script_orders.specs.Reached.{lanes_of}
use Rattle.script_orders.proofs.Added.{all_push}
use Rattle.script_orders.proofs.Again.{known_next}
use Rattle.script_orders.proofs.Walked.{rests_past, lane_at, lane_none, none_past, found_at}
use Rattle.script_orders.proofs.walk.gone_on.Goals as goal
use Rattle.script_orders.proofs.walk.gone_on.Goals.{then-len-lt-MOST_KNOWN+in_ok-lane+in_ok-push}
use Rattle.script_orders.proofs.walk.gone_on.Goals.{else-len-lt-MOST_KNOWN+in-Some-1, else-len-lt-MOST_KNOWN+in-None-1}

pub returns-in_default-clause-next : goal.returns-in_default-clause-next
returns-in_default-clause-next g c =
    let s = c.args.state.now in
    rests_past g.L.KeyLayout.layout c.args.program.now s c.args.pass (lane_none s.lanes.items rc_value c.args.pass
    (none_past c.deref.result.now s.lanes.items c.args.pass c.deref.ensures.value c.in_default.ensures.lookup.3))

pub state_after-requires-clause-next : goal.state_after-requires-clause-next
state_after-requires-clause-next g c =
    let layout = g.L.KeyLayout.layout in
    let p = c.args.program.now in
    let s = c.args.state.now in
    let pass = c.args.pass in
    let shared = c.in-Some.lane.now in
    let d : Did = did (rc_value shared) in
    let look = c.in-Some.ensures.lookup in
    let at : slice_get (lanes_of s) pass ≡ Some d =
    lane_at s.lanes.items rc_value pass shared
    (found_at c.deref.result.now s.lanes.items pass shared c.deref.ensures.value look.3.0 look.1) in
    let opening = c.args.heap.now.opening.items in
    let changes = s.changes.items in
    let known = c.args.known.now.items in
    let place = c.in-Some-known_at.place in
    let found = c.in-Some-known_at.ensures in
    let it : Known = c.index.result.now in
    let here : slice_get known place ≡ Some found.0 =
    subst (λ (ks : List Known). slice_get ks place ≡ Some found.0) c.as_slice.ensures.value found.1 in
    let less = slice_get_within known place found.0 here in
    let there : slice_get known place ≡ Some it = found_at known known place it refl less c.index.ensures in
    let one : found.0 ≡ it = let z : Some found.0 ≡ Some it = sym here ∙ there in cc in
    let so : IsSo opening changes pass d it =
    subst (λ (x : Known). IsSo opening changes pass d x) one
    (subst (λ (l : Lane). IsSo opening changes pass (did l) found.0) c.as_ref.ensures
    (subst (λ (cs : List Change). IsSo opening cs pass (did c.as_ref.result.now) found.0)
    c.as_slice-changes.ensures.value
    (subst (λ (ws : List ℕ). IsSo ws c.as_slice-changes.result.now pass (did c.as_ref.result.now) found.0)
    c.as_slice-opening.ensures.value found.2))) in
    let is : IsKnown layout p it = subst (IsKnown layout p) (sym c.index.ensures) (c.requires.known place it less) in
    known_next layout p s opening pass d it c.requires.reached c.requires.heap.begins at is so

pub returns-clause-known : goal.returns-clause-known
returns-clause-known g c =
    let layout = g.L.KeyLayout.layout in
    let p = c.args.program.now in
    let s = c.args.state.now in
    let pass = c.args.pass in
    let known = c.args.known.now.items in
    elim c.if-len-lt-MOST_KNOWN.branch [
      | then-len-lt-MOST_KNOWN+in_ok-lane+in_ok-push w ↦
          let shared = c.in-Some.lane.now in
          let look = c.in-Some.ensures.lookup in
          let at : slice_get (lanes_of s) pass ≡ Some (did (rc_value shared)) =
          lane_at s.lanes.items rc_value pass shared
          (found_at c.deref.result.now s.lanes.items pass shared c.deref.ensures.value look.3.0 look.1) in
          let it : Known = record { pass = pass; lane = w.in_ok-lane.lane; next = c.in_ok-next.next } in
          let is : IsKnown layout p it = record {
            state = s;
            reached = c.requires.reached;
            at = at ∙ ap (λ (d : Did). Some d) (sym w.in_ok-lane.ensures);
            is = c.in_ok-next.ensures.next;
          } in
          subst (All (IsKnown layout p)) (sym w.in_ok-push.ensures.items ∙ ap vec_items (sym w.known-is))
          (all_push (IsKnown layout p) known it is c.requires.known)
      | else-len-lt-MOST_KNOWN+in-Some-1 w ↦
          subst (All (IsKnown layout p)) (ap vec_items (sym w.known-is)) c.requires.known
      | else-len-lt-MOST_KNOWN+in-None-1 w ↦
          subst (All (IsKnown layout p)) (ap vec_items (sym w.known-is)) c.requires.known
    ]
