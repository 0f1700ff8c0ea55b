use Rattle.std.proofs.Common.{◌≡◌, true, false, sym, ap, ◌∙◌, eq-eqb}
use Rattle.std.proofs.lemmas.Bool.{eqb-true}
use Rattle.script_orders.specs.contracts.lane.LanePartialEq.TheImpl as lane_eq
use Rattle.script_orders.specs.declared.lane.Lane.{Lane}
use Rattle.script_orders.proofs.LaneTests.{lane_decides}
use Rattle.script_orders.proofs.known.Known.is_of.Goals as goal

pub returns-then-eq : goal.returns-then-eq
returns-then-eq c =
    let its : Lane = c.args.self.now.lane.value in
    let lane : Lane = c.args.lane.now in
    let same = (lane_decides its lane).0 (ap (λ (l : Lane). lane_eq.eq-value.it l lane) (sym c.as_ref.ensures)
    ∙ sym c.eq.ensures ∙ c.if-eq.true) in (
      λ h. (same, eqb-true c.args.self.now.pass c.args.pass h),
      λ so. eq-eqb c.args.self.now.pass c.args.pass so.1,
    )

pub returns-else-eq : goal.returns-else-eq
returns-else-eq c =
    let its : Lane = c.args.self.now.lane.value in
    let lane : Lane = c.args.lane.now in (
      λ h. absurd (let z : false ≡ true = sym c.if-eq.false ∙ h in cc),
      λ so.
          let yes = (lane_decides its lane).1 so.0 in
          absurd (let z : false ≡ true = sym c.if-eq.false ∙ c.eq.ensures
          ∙ ap (λ (l : Lane). lane_eq.eq-value.it l lane) c.as_ref.ensures ∙ yes in cc),
    )
