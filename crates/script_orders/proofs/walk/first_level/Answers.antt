use Rattle.std.proofs.Common.{◌≡◌, ◌*◌, List, ℕ, [], length, refl, sym, ap, subst, ◌∙◌, arith}
use Rattle.std.specs.List.{All, sum_by}
use Rattle.std.proofs.lemmas.List.Folds.{sum_by-replicate}
use Rattle.std.proofs.lemmas.List.Elements.{All-nil}
use Rattle.std.proofs.lemmas.Option.{slice_get_within, get_or_from_slice_get}
use Rattle.script_orders.specs.Lanes.{Did, nothing}
use Rattle.script_orders.specs.Reached.{IsReached}
use Rattle.script_orders.specs.Walks.{ComesTo}
use Rattle.script_orders.proofs.Added.{added_reached, has_added}
use Rattle.script_orders.proofs.Coming.{leads_to_it, comes_alike}
use Rattle.script_orders.proofs.Followed.{added_first}
use Rattle.script_orders.proofs.StepsOn.{steps_first}
use Rattle.script_orders.proofs.walk.first_level.Goals as goal

pub returns-clause-reached : goal.returns-clause-reached
returns-clause-reached c = λ layout.
    let p = c.args.program.now in
    added_reached layout p c.new-level.result.states.items c.add.new.self.states.items c.in_ok-first.field-0
    c.in_ok-add.ensures
    (subst (All (IsReached layout p)) (sym c.new-level.ensures) (All-nil (IsReached layout p)))
    (c.in_ok-first.ensures.reached layout)

pub returns-clause-begins : goal.returns-clause-begins
returns-clause-begins c = λ layout order.
    let p = c.args.program.now in
    let first = c.in_ok-first.field-0 in
    let level = c.add.new.self.states.items in
    let all = added_reached layout p c.new-level.result.states.items level first c.in_ok-add.ensures
    (subst (All (IsReached layout p)) (sym c.new-level.ensures) (All-nil (IsReached layout p)))
    (c.in_ok-first.ensures.reached layout) in
    let has = has_added c.new-level.result.states.items level first c.in_ok-add.ensures in
    let within = slice_get_within level has.0 has.1 has.2 in
    let reached = subst (IsReached layout p) (get_or_from_slice_get level has.0 has.1 has.1 has.2)
    (all has.0 has.1 within) in
    let comes = subst (λ (xs : List ℕ). ComesTo layout p xs first) c.in_ok-first.ensures.begins
    (leads_to_it layout p first (c.in_ok-first.ensures.reached layout)) in (
      [],
      order,
      refl,
      has.0,
      has.1,
      has.2,
      comes_alike layout p [] has.1 first reached (c.in_ok-first.ensures.reached layout) has.3 comes,
    )

pub returns-clause-first : goal.returns-clause-first
returns-clause-first c =
    let first = c.in_ok-first.field-0 in
    let is = c.in_ok-first.ensures in (
      first,
      added_first c.new-level.result.states.items c.add.new.self.states.items first c.in_ok-add.ensures
          c.new-level.ensures,
      is.orders,
      ap (sum_by (λ (d : Did). length d.story)) is.lanes
          ∙ sum_by-replicate (λ (d : Did). length d.story) c.args.program.now.shape.passes nothing
          ∙ (let e : c.args.program.now.shape.passes * 0 ≡ 0 = omega arith in e),
      λ layout.
          steps_first layout c.args.program.now first c.args.program.now.shape.passes (is.reached layout) is.begins
          is.lanes,
    )
