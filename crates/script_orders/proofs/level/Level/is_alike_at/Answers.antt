use Rattle.std.proofs.Common.{◌≡◌, true, false, Some, None, sym, subst, ◌∙◌}
use Rattle.script_orders.specs.declared.state.State.{State}
use Rattle.script_orders.specs.States.{AreAlike}
use Rattle.script_orders.proofs.Walked.{found_at, none_past}
use Rattle.script_orders.proofs.level.Level.is_alike_at.Goals as goal

pub returns-in-Some : goal.returns-in-Some
returns-in-Some c =
    let states = c.args.self.now.states.items in
    let place = c.args.place in
    let state = c.args.state.now in
    let there = c.in-Some.there.now in
    let look = c.in-Some.ensures.lookup in
    let at = found_at c.deref.result.now states place there c.deref.ensures.value look.3.0 look.1 in (
      λ yes. (there, at, c.are_alike.ensures.is.0 yes),
      λ has.
          let same : has.0 ≡ there = let z : Some has.0 ≡ Some there = sym has.1 ∙ at in cc in
          c.are_alike.ensures.is.1 (subst (λ (u : State). AreAlike u state) same has.2),
    )

pub returns-in-None : goal.returns-in-None
returns-in-None c =
    let states = c.args.self.now.states.items in
    let none = none_past c.deref.result.now states c.args.place c.deref.ensures.value c.in-None.ensures.lookup.3 in (
      λ yes. absurd (let z : false ≡ true = yes in cc),
      λ has. absurd (let z : None ≡ Some has.0 = sym none ∙ has.1 in cc),
    )
