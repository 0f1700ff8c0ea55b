use Rattle.std.proofs.Common.{◌≡◌, ℕ, ◌≤◌, ◌++◌, List, arith, refl, sym, ap, ◌∙◌, append-nil, inl, inr, true, false}
use Rattle.std.proofs.lemmas.Grind.{common_steps}
use Rattle.std.proofs.lemmas.Bool.{cases_lt}
use Rattle.script_orders.specs.Orders.{is_of, lines_within}
use Rattle.script_orders.proofs.LineLists.{lines_own, lines_other, lines_none}
use Rattle.script_orders.proofs.state.push_lines.Goals as goal
use Rattle.script_orders.proofs.state.push_lines.Goals.{then-is_of+in_ok-push, else-is_of}

pub loop-number-init : goal.loop-number-init
loop-number-init c = record {
  added =
      sym (ap (λ (xs : List ℕ). c.args.order.now.items ++ xs) (lines_none c.args.lines.now c.args.pass c.args.from
      c.args.from (omega arith)) ∙ append-nil c.args.order.now.items);
  stays = λ _. refl;
}

pub loop-number-preserved : goal.loop-number-preserved
loop-number-preserved c = elim c.if-is_of.branch [
  | then-is_of+in_ok-push w ↦
      let is : is_of c.args.lines.now c.args.pass c.loop-number.number ≡ true = sym c.is_of.ensures ∙ w.if-is_of.true in
      let more = lines_own c.args.lines.now c.args.pass c.args.from c.loop-number.number (omega arith) is in
      record { added = rw more (grind (arith, common_steps)); stays = λ le. absurd (omega arith) }
  | else-is_of w ↦
      let is : is_of c.args.lines.now c.args.pass c.loop-number.number ≡ false =
      sym c.is_of.ensures ∙ w.if-is_of.false in
      let more = lines_other c.args.lines.now c.args.pass c.args.from c.loop-number.number (omega arith) is in
      record { added = rw more (grind (arith, common_steps)); stays = λ le. absurd (omega arith) }
]

pub returns : goal.returns
returns c =
    let old = c.args.order.now.items in
    let within = lines_within c.args.lines.now c.args.pass c.args.from in
    elim (cases_lt c.args.to c.args.from) [
      | inl h ↦
          let le : c.args.to ≤ c.args.from = omega arith in
          let stays = c.loop-number.invariant.stays le in
          c.loop-number.invariant.added ∙ ap (λ (xs : List ℕ). old ++ xs)
          (lines_none c.args.lines.now c.args.pass c.args.from c.loop-number.number (omega arith)
          ∙ sym (lines_none c.args.lines.now c.args.pass c.args.from c.args.to le))
      | inr h ↦
          let e : c.loop-number.number ≡ c.args.to = omega arith in
          c.loop-number.invariant.added ∙ ap (λ (n : ℕ). old ++ within n) e
    ]
