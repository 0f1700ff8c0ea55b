use Rattle.std.proofs.Common.{ℕ, List, refl, sym, subst}
use Rattle.std.specs.Prelude.{Ok}
use Rattle.std.proofs.lemmas.Option.{slice_get_past}
use Rattle.sh_core.specs.Kept.{RunsWorld}
use Rattle.script_orders.specs.Reached.{done_by}
use Rattle.script_orders.proofs.Playing.{played_more, played_past}
use Rattle.script_orders.proofs.Walked.{found_at}
use Rattle.script_orders.proofs.heap.Heap.do_line.Goals as goal

pub returns-in_default-clause-played : goal.returns-in_default-clause-played
returns-in_default-clause-played g c =
    let layout = g.L.KeyLayout.layout in
    let p = c.args.program.now in
    let before = c.args.self.now in
    record {
      heap = c.requires.heap;
      begins = c.requires.begins;
      plays = subst (λ (order : List ℕ). RunsWorld layout p.shape (done_by p order) (Ok before.world))
          (sym c.in_ok-push.ensures.items)
          (played_past layout p before.order.items c.args.number before.world
          (slice_get_past p.lines.now c.args.number c.in_default.ensures.lookup.3) c.requires.plays);
    }

pub returns-clause-played : goal.returns-clause-played
returns-clause-played g c =
    let layout = g.L.KeyLayout.layout in
    let p = c.args.program.now in
    let before = c.args.self.now in
    let after = c.step.new.world in
    let look = c.in-Some.ensures.lookup in
    let at = found_at p.lines.now p.lines.now c.args.number c.in-Some.event.now refl look.3.0 look.1 in
    record {
      heap = c.requires.heap;
      begins = c.requires.begins;
      plays = subst (λ (order : List ℕ). RunsWorld layout p.shape (done_by p order) (Ok after))
          (sym c.in_ok-push-2.ensures.items)
          (played_more layout p before.order.items c.args.number c.in-Some.event.now c.in_ok-step.field-0 before.world
          after at c.requires.plays c.in_ok-step.ensures.ok);
    }
