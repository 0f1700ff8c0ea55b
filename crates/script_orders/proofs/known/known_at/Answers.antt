use Rattle.std.proofs.Common.{◌≡◌, ℕ, true, false, Some, slice_get, refl, sym, ap, subst, ◌∙◌, arith, inl, inr}
use Rattle.std.proofs.lemmas.Bool.{cases_eq}
use Rattle.std.proofs.lemmas.Option.{slice_get_within}
use Rattle.script_orders.specs.declared.known.Known.{Known}
use Rattle.script_orders.specs.Known.{IsSo}
use Rattle.script_orders.specs.Lanes.{did}
use Rattle.script_orders.proofs.Walked.{found_at}
use Rattle.script_orders.proofs.known.known_at.Goals as goal

pub returns-then-is_so : goal.returns-then-is_so
returns-then-is_so c =
    let known = c.args.known.now in
    let there = c.index-known-place.result in (
      there,
      found_at known known c.loop-place.place there refl c.loop-place-test.true c.index-known-place.is,
      c.is_so.ensures.0 c.if-is_so.true,
    )

pub loop-place-preserved : goal.loop-place-preserved
loop-place-preserved c = λ k it less at so.
    let known = c.args.known.now in
    let place : ℕ = c.loop-place.place in
    let there : Known = c.index-known-place.result in
    elim (cases_eq k place) [
      | inl e ↦
          let here = found_at known known place there refl c.loop-place-test.true c.index-known-place.is in
          let one : it ≡ there = let z : Some it ≡ Some there = sym at ∙ ap (slice_get known) e ∙ here in cc in
          let yes = c.is_so.ensures.1
          (subst (λ (x : Known). IsSo c.args.opening.now c.args.changes.now c.args.pass (did c.args.lane.now) x) one so)
          in
          absurd (let z : false ≡ true = sym c.if-is_so.false ∙ yes in cc)
      | inr ne ↦ c.loop-place.invariant k it (omega arith) at so
    ]

pub returns : goal.returns
returns c = λ k it at so.
    let less = slice_get_within c.args.known.now k it at in
    let end = c.loop-place-test.false in
    c.loop-place.invariant k it (omega arith) at so
