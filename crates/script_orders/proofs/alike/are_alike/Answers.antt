use Rattle.std.proofs.Common.{◌≡◌, true, sym, ◌∙◌, rc_value}
use Rattle.script_orders.proofs.LaneTests.{lanes_decide, changes_decide}
use Rattle.script_orders.proofs.SameWords.{alike_by_words}
use Rattle.script_orders.proofs.alike.are_alike.Goals as goal

pub returns-then-eq-clause-is : goal.returns-then-eq-clause-is
returns-then-eq-clause-is c =
    let s = c.args.state.now in
    let t = c.args.other.now in
    let changes = changes_decide s.changes.items t.changes.items in (
      λ h. record {
        lanes = (lanes_decide rc_value s.lanes.items t.lanes.items).0 (sym c.eq.ensures ∙ c.if-eq.true);
        changes = changes.0 (sym c.eq-then-eq.ensures ∙ h);
      },
      λ alike. c.eq-then-eq.ensures ∙ changes.1 alike.changes,
    )

pub returns-else-eq-clause-is : goal.returns-else-eq-clause-is
returns-else-eq-clause-is c =
    let s = c.args.state.now in
    let t = c.args.other.now in (
      λ h. absurd (let z : c.eq.result ≡ true = h in let y = c.if-eq.false in cc),
      λ alike. c.eq.ensures ∙ (lanes_decide rc_value s.lanes.items t.lanes.items).1 alike.lanes,
    )

pub returns-then-eq-clause-words : goal.returns-then-eq-clause-words
returns-then-eq-clause-words c = alike_by_words c.args.state.now c.args.other.now

pub returns-else-eq-clause-words : goal.returns-else-eq-clause-words
returns-else-eq-clause-words c = alike_by_words c.args.state.now c.args.other.now
