use Rattle.std.proofs.Common.{◌≡◌, ℕ, ◌+◌, ◌-◌, ◌<◌, List, [], ◌∷◌, Some, None, slice_get, sym, ap, subst, ◌∙◌, arith}
use Rattle.std.proofs.Common.{inl}
use Rattle.std.specs.Prelude.{IfOk, IfErr, Result}
use Rattle.std.specs.List.{All}
use Rattle.std.proofs.lemmas.Bool.{eqb-true}
use Rattle.std.proofs.lemmas.List.{nil_from_length}
use Rattle.std.proofs.lemmas.List.Elements.{All-nil}
use Rattle.script_orders.specs.declared.found.Found.{Found}
use Rattle.script_orders.specs.declared.found.Cut.{Cut}
use Rattle.script_orders.specs.declared.found.Limit.{Limit}
use Rattle.script_orders.specs.declared.found.Limit.TheVariants.{States}
use Rattle.script_orders.specs.declared.level.Level.{Level}
use Rattle.script_orders.specs.declared.state.State.{State}
use Rattle.script_orders.specs.Cuts.{AllAfter, Passes}
use Rattle.script_orders.specs.Reached.{IsReached, IsOutcome}
use Rattle.script_orders.specs.Steps.{AllOnce}
use Rattle.script_orders.specs.Walks.{IsFollowed, AllRest, HasEnd, Advances}
use Rattle.script_orders.proofs.Complete.{covered_on, covered_at_end}
use Rattle.script_orders.proofs.Counted.{Counts, counts_first, counts_on, counted_at_end}
use Rattle.script_orders.proofs.Cutting.{first_met, met_on, too_many}
use Rattle.script_orders.proofs.walk.explore.Goals as goal

pub loop-alloc-init : goal.loop-alloc-init
loop-alloc-init g c =
    let layout = g.L.KeyLayout.layout in
    let p = c.args.program.now in
    record {
      played = c.in_ok-heap.ensures;
      reached = c.in_ok-level.ensures.reached layout;
      found = subst (All (IsOutcome layout p)) (sym c.new.ensures.items) (All-nil (IsOutcome layout p));
      covered = λ order is. inl (c.in_ok-level.ensures.begins layout order);
      met = first_met layout p c.in_ok-level.level.states.items (c.in_ok-level.ensures.first).0
          (c.in_ok-level.ensures.first).1 (c.in_ok-level.ensures.first).3;
      once = subst AllOnce (sym c.new.ensures.items) (λ i j f h here. let z : None ≡ Some f = here in cc);
      counts =
          let first = c.in_ok-level.ensures.first in (
            0,
            subst (λ (xs : List State). Counts layout p xs c.new.result.items 0) (sym first.1)
                (subst (λ (fs : List Found). Counts layout p (first.0 ∷ []) fs 0) (sym c.new.ensures.items)
                (counts_first layout p first.0 first.2 (first.4 layout))),
          );
    }

pub loop-alloc-preserved : goal.loop-alloc-preserved
loop-alloc-preserved g c =
    let layout = g.L.KeyLayout.layout in
    let p = c.args.program.now in
    let held = c.loop-alloc.invariant in
    let level = c.loop-alloc.level.states.items in
    let next = c.in-Ok.next.states.items in
    let old = c.loop-alloc.whole.found.items in
    let new = c.next_level.new.whole.found.items in
    let goes = c.in_ok-next.ensures in
    let reached : All (IsReached layout p) next =
    subst (λ (o : Result Level Limit). IfOk o (λ l. All (IsReached layout p) l.states.items)) c.in-Ok.is goes.reached in
    let followed = subst (λ (o : Result Level Limit). IfOk o (λ l. (place : ℕ) (s : State)
    → slice_get level place ≡ Some s → (pass : ℕ) → pass < p.shape.passes → IsFollowed layout p l.states.items s pass)) c.in-Ok.is goes.followed in
    let ends = subst (λ (o : Result Level Limit). IfOk o (λ l. (place : ℕ) (s : State) → slice_get level place ≡ Some s
    → AllRest layout p s → HasEnd layout p new s)) c.in-Ok.is goes.ends in
    record {
      played = goes.heap;
      reached = reached;
      found = goes.found;
      covered = λ order is. covered_on layout p level next old new c.in_ok-heap.ensures.heap held.reached reached
          followed ends goes.keeps order is (held.covered order is);
      once = subst (λ (o : Result Level Limit). IfOk o (λ l. AllOnce new)) c.in-Ok.is goes.once;
      met = met_on layout p level c.loop-alloc.room held.met held.reached c.loop-alloc.level.differ next _
          (omega arith) (subst (λ (o : Result Level Limit). IfOk o (λ l. (n : ℕ) → AllAfter n level
          → AllAfter (n + 1) l.states.items)) c.in-Ok.is goes.steps);
      counts = (
        held.counts.0 + 1,
        counts_on layout p level next old new held.counts.0 c.in_ok-heap.ensures.heap held.reached held.counts.1
            (subst (λ (o : Result Level Limit). IfOk o (λ l. Advances layout p level l.states.items old new)) c.in-Ok.is
            goes.advances),
      );
    }

pub returns-clause-complete : goal.returns-clause-complete
returns-clause-complete g c = λ order is.
    let level = c.loop-alloc.level.states.items in
    let empty = eqb-true c.loop-alloc.level.states.len 0 (sym c.loop-alloc-test.ensures) in
    let none : level ≡ [] = nil_from_length level (omega (arith, empty, c.loop-alloc.level.states.ok.0)) in
    covered_at_end g.L.KeyLayout.layout c.args.program.now level c.loop-alloc.whole.found.items order none
    (c.loop-alloc.invariant.covered order is)

pub returns-clause-counted : goal.returns-clause-counted
returns-clause-counted g c = λ i f at.
    let layout = g.L.KeyLayout.layout in
    let p = c.args.program.now in
    let level = c.loop-alloc.level.states.items in
    let found = c.loop-alloc.whole.found.items in
    let held = c.loop-alloc.invariant in
    let empty = eqb-true c.loop-alloc.level.states.len 0 (sym c.loop-alloc-test.ensures) in
    let none : level ≡ [] = nil_from_length level (omega (arith, empty, c.loop-alloc.level.states.ok.0)) in
    counted_at_end layout p found held.counts.0
    (subst (λ (xs : List State). Counts layout p xs found held.counts.0) none held.counts.1) held.once i f at

pub returns-then-count-room-clause-cut : goal.returns-then-count-room-clause-cut
returns-then-count-room-clause-cut g c = λ is.
    let held = c.loop-alloc.invariant in
    let level = c.loop-alloc.level in
    let more = c.if-count-room.true in
    let count = c.len-count.ensures in
    too_many g.L.KeyLayout.layout c.args.program.now level.states.items c.loop-alloc.room held.met held.reached
    level.differ (omega (arith, level.states.ok.0))

pub returns-in-Err-clause-cut : goal.returns-in-Err-clause-cut
returns-in-Err-clause-cut g c = λ is.
    let layout = g.L.KeyLayout.layout in
    let p = c.args.program.now in
    let held = c.loop-alloc.invariant in
    let level = c.loop-alloc.level in
    let left : ℕ = c.loop-alloc.room - c.len-count.result in
    let within = c.if-count-room.false in
    let count = c.len-count.ensures in
    let passed : Passes layout p level.states.items left c.in-Err.limit =
    subst (λ (o : Result Level Limit). IfErr o (Passes layout p level.states.items left)) c.in-Err.is
    c.in_ok-next.ensures.passes in
    let limit : c.in-Err.limit ≡ States = sym (ap (λ (cut : Cut). cut.limit) c.cut-in-Err.ensures) ∙ is in
    too_many layout p passed.next left
    (met_on layout p level.states.items c.loop-alloc.room held.met held.reached level.differ passed.next left
    (omega (arith, level.states.ok.0)) passed.after)
    passed.reached passed.differ (passed.many limit)
