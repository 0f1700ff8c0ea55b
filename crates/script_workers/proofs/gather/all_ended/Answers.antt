use Rattle.std.proofs.Common.{rules, arith, ◌≡◌, ◌∙◌, ◌+◌, ℕ, sym, ap, subst, List, ◌++◌, ◌∷◌, [], map, length}
use Rattle.std.proofs.Common.{append_assoc, length-append}
use Rattle.script_calls.specs.Parts.{SeenPass, new_part}
use Rattle.script_calls.proofs.ListLemmas.{map_more, up_length}
use Rattle.script_workers.specs.declared.worker.Made.{Made}
use Rattle.script_workers.specs.Gathers.{HaveEnded}
use Rattle.script_workers.specs.Works.{IsWork}
use Rattle.script_workers.proofs.Gathers.{one_more_ended, next_worker}
use Rattle.script_workers.proofs.gather.all_ended.Goals as goal

pub loop-worker-preserved : goal.loop-worker-preserved
loop-worker-preserved g c =
    let room = g.B.Room in
    let seen = g.S.Side.seen in
    let was = c.loop-worker.invariant in
    let y : List ℕ = c.loop-worker.yielded in
    let side = seen c.in-Some-finish.side in
    let made : List Made = c.in-Some-finish.made.items in
    let w : ℕ = c.in-Some.worker in
    let step = c.in-Some.ensures.steps in
    let W : ℕ → Type 0 = λ p. IsWork room.heap room.terms room.tag room.lines p (new_part room.heap p) side made in
    let next : w ≡ length y = next_worker room.terms.shape.passes c.args.workers.items y _ _ w c.requires.all was.rest
    step.0 in
    let work = subst W next c.in-Some-finish.ensures in
    let sides : map seen c.push_reserved.new.self.items ≡ map seen c.loop-worker.sides.items ++ side ∷ [] =
    ap (map seen) c.push_reserved.ensures.items ∙ map_more seen c.loop-worker.sides.items c.in-Some-finish.side in
    let rests : c.push_reserved-in-loop-worker.new.self.items ≡ c.loop-worker.rests.items ++ made ∷ [] = search rules in
    let count : length y + 1 ≡ length (y ++ w ∷ []) = omega (arith, length-append y (w ∷ [])) in
    let E : ℕ × List SeenPass × List (List Made) → Type 0 = λ z. HaveEnded room.heap room.terms room.tag room.lines z.0
    z.1 z.2 in
    record {
      ended = subst E (λ i. (count i, sym sides i, sym rests i)) (one_more_ended room.heap room.terms room.tag
          room.lines (length y) (map seen c.loop-worker.sides.items) c.loop-worker.rests.items side made was.ended
          work);
      rest = was.rest ∙ (ap (λ (z : List ℕ). y ++ z) step.0 ∙ sym (append_assoc y (w ∷ []) _));
      counted = omega (arith, was.counted, step.1, length-append y (w ∷ []));
      sides_room = omega (arith, was.sides_room, step.1, c.push_reserved.ensures.len, c.push_reserved.ensures.capacity);
      rests_room = omega (
        arith,
        was.rests_room,
        step.1,
        c.push_reserved-in-loop-worker.ensures.len,
        c.push_reserved-in-loop-worker.ensures.capacity,
      );
    }

pub returns-clause-ended : goal.returns-clause-ended
returns-clause-ended g c =
    let room = g.B.Room in
    let was = c.loop-worker.invariant in
    let n : ℕ = room.terms.shape.passes in
    let all : length c.args.workers.items ≡ n = ap length c.requires.all ∙ up_length n in
    let count : length c.loop-worker.yielded ≡ n = omega (arith, all, was.counted, c.in-None.ensures.steps.0) in
    let E : ℕ → Type 0 = λ z. HaveEnded room.heap room.terms room.tag room.lines z
    (map g.S.Side.seen c.loop-worker.sides.items) c.loop-worker.rests.items in
    subst E count was.ended
