use Rattle.std.proofs.Common.{rc_value, ℕ, List, [], sym, ap, subst, map, ◌∙◌}
use Rattle.std.specs.Prelude.{replicate}
use Rattle.script_orders.specs.declared.changes.Change.{Change}
use Rattle.script_orders.specs.Lanes.{did, nothing}
use Rattle.script_orders.specs.Reached.{LeadsTo}
use Rattle.script_orders.proofs.Playing.{first_leads}
use Rattle.script_orders.proofs.state.State.first.Goals as goal

pub returns-clause-reached : goal.returns-clause-reached
returns-clause-reached c = λ layout.
    let p = c.args.program.now in
    let lanes = map (λ lane. did (rc_value lane)) c.in_ok-new_lanes.field-0.items in
    subst (λ (order : List ℕ). LeadsTo layout p order c.new-3.result.items lanes) (sym c.new.ensures.items)
    (subst (λ (changes : List Change). LeadsTo layout p [] changes lanes) (sym c.new-3.ensures.items)
    (first_leads layout p lanes
    (c.in_ok-new_lanes.ensures ∙ ap (λ (n : ℕ). replicate n nothing) c.passes.ensures.passes)))

pub returns-clause-lanes : goal.returns-clause-lanes
returns-clause-lanes c = c.in_ok-new_lanes.ensures ∙ ap (λ (n : ℕ). replicate n nothing) c.passes.ensures.passes
