use Rattle.std.proofs.Common.{◌≡◌, ℕ, List, true, false, get_or, slice_get, sym, ap, subst, ◌∙◌, arith, inl, inr}
use Rattle.std.proofs.lemmas.Bool.{cases_eq}
use Rattle.std.proofs.lemmas.Option.{slice_get_within, get_or_from_slice_get}
use Rattle.script_orders.specs.States.{IsAlikeAt}
use Rattle.script_orders.proofs.level.Level.alike_among.Goals as goal

pub loop-place-preserved : goal.loop-place-preserved
loop-place-preserved c = λ k place less at alike.
    let places : List ℕ = c.args.places.now in
    let index : ℕ = c.loop-place.place-index in
    elim (cases_eq k index) [
      | inl e ↦
          let here : get_or places index 0 ≡ place =
          get_or_from_slice_get places index place 0 (ap (slice_get places) (sym e) ∙ at) in
          let found = c.is_alike_at.ensures.1
          (subst (λ (n : ℕ). IsAlikeAt c.args.self.now.states.items n c.args.state.now) (sym here) alike) in
          absurd (let z : false ≡ true = sym c.if-is_alike_at.false ∙ found in cc)
      | inr ne ↦ c.loop-place.invariant k place (omega arith) at alike
    ]

pub returns-then-is_alike_at : goal.returns-then-is_alike_at
returns-then-is_alike_at c = c.is_alike_at.ensures.0 c.if-is_alike_at.true

pub returns : goal.returns
returns c = λ k place at.
    let less = slice_get_within c.args.places.now k place at in
    let end = c.loop-place-test.false in
    c.loop-place.invariant k place (omega arith) at
