use Rattle.std.proofs.Common.{◌≡◌, ◌≢◌, ◌+◌, ◌∙◌, ap, cond, length, subst, sym, rules, arith, slice_get, Some, Option, ℕ}
use Rattle.std.proofs.lemmas.Grind.{common_steps}
use Rattle.std.proofs.lemmas.Option.{gets}
use Rattle.sh_script.specs.declared.calls.CallLine.{CallLine}
use Rattle.script_calls.specs.Calls.{CallAnswers}
use Rattle.script_calls.specs.InOrder.{Covers, adds_entry}
use Rattle.script_calls.specs.Receipts.{receipt_seen}
use Rattle.script_workers.specs.declared.board.Bound.{Bound}
use Rattle.script_workers.specs.declared.worker.Made.{Made}
use Rattle.script_workers.proofs.Works.{work_then, work_else, work_room, work_counts, work_covers}
use Rattle.script_workers.proofs.worker.Worker.step.Goals.{then-line-self+in-Some-awaited, else-line-self}
use Rattle.script_workers.proofs.worker.Worker.step.Goals as goal

pub invariant_of-self-2 : goal.invariant_of-self-2
invariant_of-self-2 g c =
    let room = g.B.Room in
    let was = c.self.inside in
    let side = g.S.Side.seen was.side in
    let h = c.self.invariant in
    let l : CallLine = c.in-Some.line.now in
    let at : slice_get room.lines was.next ≡ Some l = grind (arith, common_steps, gets) in
    let work = work_then room.heap room.terms room.tag room.lines was.number was.next side was.made.items h.0 l at in
    let other = work_else room.heap room.terms room.tag room.lines was.number was.next side was.made.items h.0 l at in
    let counts = work_counts room.heap room.terms room.tag room.lines was.number was.next side was.made.items h.0 l at in
    elim c.if-line-self.branch [
      | then-line-self+in-Some-awaited w ↦
          let entries : ℕ = was.entries + w.entries_added.result in
          let m : Made = record {
            bound = w.in-Some-awaited.bound;
            answer = w.answered-answer.result;
            entries = entries;
          } in
          let own : l.pass ≡ was.number = search rules in
          let mid = g.S.Side.seen w.awaited.new.side in
          let now = g.S.Side.seen w.answered-answer.new.side in
          let D : Option ℕ × Option ℕ → Type 0 = λ z. CallAnswers mid.terms z.0 mid.pass mid.part l.call z.1 m.answer
          now.part in
          let does = subst D (λ i. (c.requires.tag i, w.number_bound-number.ensures i)) w.answered-answer.ensures.does
          in
          let long : entries ≡ length now.part.log = ap (λ (z : ℕ). was.entries + z) w.entries_added.ensures.is
          ∙ (ap (λ (z : ℕ). z + cond (adds_entry l.call m.answer) 1 0) h.3
          ∙ sym (counts mid now m.bound m.answer w.in-Some-awaited.ensures.heard does)) in
          rw (w.self-inside-is, w.push_reserved.ensures.items, w.bind.ensures) (
            work mid now m own w.in-Some-awaited.ensures.heard w.answered-answer.ensures.same does long,
            omega (arith, h.1, c.names_bound.ensures),
            rw w.push_reserved.ensures.capacity h.2,
            long,
            omega (arith, h.4, w.entries_added.ensures.few),
          )
      | else-line-self w ↦
          let not : l.pass ≢ was.number = search rules in
          rw w.self-inside-is (
            other not,
            omega (arith, h.1, c.names_bound.ensures),
            h.2,
            h.3,
            omega (arith, h.4),
          )
    ]

pub push_reserved-requires : goal.push_reserved-requires
push_reserved-requires g c =
    let room = g.B.Room in
    let was = c.self.inside in
    let l : CallLine = c.in-Some.line.now in
    let at : slice_get room.lines was.next ≡ Some l = grind (arith, common_steps, gets) in
    let own : l.pass ≡ was.number = search rules in
    let few = work_room room.heap room.terms room.tag room.lines was.number was.next (g.S.Side.seen was.side)
    was.made.items c.self.invariant.0 l at own in
    omega (arith, few, was.made.ok.0, c.self.invariant.2)

-- the receipt that comes with the name covers all entries of the pass
pub bind-requires-clause-covers : goal.bind-requires-clause-covers
bind-requires-clause-covers g c =
    let room = g.B.Room in
    let was = c.self.inside in
    let side = g.S.Side.seen was.side in
    let h = c.self.invariant in
    let l : CallLine = c.in-Some.line.now in
    let at : slice_get room.lines was.next ≡ Some l = grind (arith, common_steps, gets) in
    let entries : ℕ = was.entries + c.entries_added.result in
    let bound = c.in-Some-awaited.bound in
    let answer = c.answered-answer.result in
    let mid = g.S.Side.seen c.awaited.new.side in
    let now = g.S.Side.seen c.answered-answer.new.side in
    let D : Option ℕ × Option ℕ → Type 0 = λ z. CallAnswers mid.terms z.0 mid.pass mid.part l.call z.1 answer now.part
    in
    let does = subst D (λ i. (c.requires.tag i, c.number_bound-number.ensures i)) c.answered-answer.ensures.does in
    let long : entries ≡ length now.part.log = ap (λ (z : ℕ). was.entries + z) c.entries_added.ensures.is
    ∙ (ap (λ (z : ℕ). z + cond (adds_entry l.call answer) 1 0) h.3
    ∙ sym (work_counts room.heap room.terms room.tag room.lines was.number was.next side was.made.items h.0 l at mid now
    bound answer c.in-Some-awaited.ensures.heard does)) in
    subst (λ (b : Bound). Covers (receipt_seen now).heard b.pass b.entries) (sym c.binding.ensures)
    (work_covers room.heap room.terms room.tag room.lines was.number was.next side was.made.items h.0 l at mid now bound
    entries c.in-Some-awaited.ensures.heard c.answered-answer.ensures.same long).1
