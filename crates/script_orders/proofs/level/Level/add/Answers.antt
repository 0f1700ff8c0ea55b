use Rattle.std.proofs.Common.{◌≡◌, refl, sym, ap, subst, ◌∙◌}
use Rattle.std.proofs.lemmas.Option.{slice_get_within, get_or_from_slice_get}
use Rattle.script_orders.specs.declared.state.State.{State}
use Rattle.script_orders.specs.States.{AreAlike}
use Rattle.script_orders.specs.States.Added.{merged}
use Rattle.script_orders.specs.Bytes.{counted, state_bytes}
use Rattle.script_orders.proofs.Marked.{differ_set, filed_set, sum_kept}
use Rattle.script_orders.proofs.Walked.{found_at}
use Rattle.script_orders.proofs.level.Level.add.Goals as goal

pub returns-in-Some : goal.returns-in-Some
returns-in-Some c =
    let old = c.args.self.now.states.items in
    let state = c.args.state in
    let place = c.in-Some.place in
    let alike = c.in-Some.ensures in
    let there = c.index_mut-there.result.now in
    let is = c.index_mut-there.ensures.value in
    let same : alike.0 ≡ there = sym (is ∙ get_or_from_slice_get old place alike.0 there alike.1) in
    merged place there (record there { orders = c.plus-there.result })
    (found_at old old place there refl (slice_get_within old place alike.0 alike.1) is)
    (subst (λ (s : State). AreAlike s state) same alike.2)
    (record { order = refl; passes = refl; lanes = refl; changes = refl; orders = c.plus-there.ensures }) refl

pub invariant_of-self : goal.invariant_of-self
invariant_of-self c =
    let old = c.args.self.now.states.items in
    let place = c.in-Some.place in
    let alike = c.in-Some.ensures in
    let there = c.index_mut-there.result.now in
    let both : State = record there { orders = c.plus-there.result } in
    let is = c.index_mut-there.ensures.value in
    let at = found_at old old place there refl (slice_get_within old place alike.0 alike.1) is in
    let same : AreAlike there both = record { lanes = refl; changes = refl } in
    record {
      bytes_are = c.args.self.now.bytes_are
          ∙ ap counted (sym (sum_kept state_bytes old place both there
          (slice_get_within old place alike.0 alike.1) (ap state_bytes is)));
      filed = filed_set old place there both at same c.args.self.now.places c.args.self.now.filed;
      differ = differ_set old place there both at same c.args.self.now.differ;
    }
