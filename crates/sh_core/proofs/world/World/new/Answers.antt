use Rattle.std.proofs.Common.{◌∙◌, ap, refl}
use Rattle.std.specs.Prelude.{ℕ, replicate}
use Rattle.sh_step.specs.Parts.{newcomer}
use Rattle.sh_core.proofs.Words.Stepping.{stands_open, reached_open}
use Rattle.sh_core.proofs.world.World.new.Goals as goal

pub invariant_of-result : goal.invariant_of-result
invariant_of-result g c =
    let o = c.in_ok-words.ensures.opens in
    let parts = c.in-Ok.ensures ∙ ap (λ (n : ℕ). replicate n newcomer) c.passes.ensures.passes in
    reached_open g.L.KeyLayout.layout _ o.is_layout o.is_shape o.fits (stands_open g.L.KeyLayout.layout c.args.shape
    c.in_ok-words.words.items c.in-Ok.parts.items c.new.result.items o parts c.new.ensures.items)

pub returns-clause-opens : goal.returns-clause-opens
returns-clause-opens g c =
    let o = c.in_ok-words.ensures.opens in
    let parts = c.in-Ok.ensures ∙ ap (λ (n : ℕ). replicate n newcomer) c.passes.ensures.passes in (
      o.fits,
      refl,
      stands_open g.L.KeyLayout.layout c.args.shape c.in_ok-words.words.items c.in-Ok.parts.items c.new.result.items
          o parts c.new.ensures.items,
    )

pub returns-clause-reached : goal.returns-clause-reached
returns-clause-reached g c =
    let o = c.in_ok-words.ensures.opens in
    let parts = c.in-Ok.ensures ∙ ap (λ (n : ℕ). replicate n newcomer) c.passes.ensures.passes in
    reached_open g.L.KeyLayout.layout _ o.is_layout o.is_shape o.fits (stands_open g.L.KeyLayout.layout c.args.shape
    c.in_ok-words.words.items c.in-Ok.parts.items c.new.result.items o parts c.new.ensures.items)
