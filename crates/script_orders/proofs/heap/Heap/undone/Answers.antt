use Rattle.std.proofs.Common.{ℕ, List, ◌++◌, Some, sym, ap, subst, ◌∙◌, eq-eqb}
use Rattle.std.specs.Prelude.{Ok, nat_eq}
use Rattle.std.proofs.lemmas.Bool.{eqb-true}
use Rattle.std.proofs.lemmas.Slice.Eq.{strip_prefix_is}
use Rattle.sh_core.specs.Kept.{RunsWorld}
use Rattle.script_orders.specs.Reached.{done_by}
use Rattle.script_orders.proofs.Playing.{played_none}
use Rattle.script_orders.proofs.heap.Heap.undone.Goals as goal

pub returns-in-Some-clause-rest : goal.returns-in-Some-clause-rest
returns-in-Some-clause-rest g c =
    strip_prefix_is {E = nat_eq} (λ a b. (eqb-true a b, eq-eqb a b)) c.args.order.now c.as_slice.result.now
    (Some c.in-Some.rest) c.in-Some.ensures.cases
    ∙ ap (λ (xs : List ℕ). xs ++ c.in-Some.rest.now) c.as_slice.ensures.value

pub returns-clause-played : goal.returns-clause-played
returns-clause-played g c =
    let layout = g.L.KeyLayout.layout in
    let p = c.args.program.now in
    record {
      heap = c.requires.heap;
      begins = c.requires.begins;
      plays = subst (λ (order : List ℕ). RunsWorld layout p.shape (done_by p order) (Ok c.in_ok-self.field-0))
          (sym c.clear.ensures.items) (played_none layout p c.in_ok-self.field-0 c.in_ok-self.ensures);
    }
