-- The laws of names, at what the code learned of the key and its parts.
use Rattle.std.proofs.Common.{◌≡◌, ◌∙◌, sym, Some, None, true, false}
use Rattle.sh_key.specs.Layout.{unpacked}
use Rattle.sh_step.specs.Moves.{has_place}
use Rattle.sh_step.proofs.NameLaws.{no_key, no_place, a_place}
use Rattle.sh_step.proofs.names.place_of_key.Goals as goal

pub returns-in_err-parts : goal.returns-in_err-parts
returns-in_err-parts g c =
    let none : unpacked g.L.KeyLayout.layout c.args.key ≡ None = sym c.unpack.ensures.parts ∙ c.in_err-parts.was in
    c.from_residual.ensures ∙ sym (no_key g.L.KeyLayout.layout c.args.shape.now c.args.key none)

pub returns-then-has_place : goal.returns-then-has_place
returns-then-has_place g c =
    let some : unpacked g.L.KeyLayout.layout c.args.key ≡ Some c.in_ok-parts.parts = sym c.unpack.ensures.parts
    ∙ c.in_ok-parts.was in
    let inside : has_place c.args.shape.now c.in_ok-parts.parts ≡ true = sym c.has_place.ensures
    ∙ c.if-has_place.true in
    let law = a_place g.L.KeyLayout.layout c.args.shape.now c.args.key c.in_ok-parts.parts some inside in
    rw (c.from.ensures, c.from-then-has_place.ensures, c.page_number.ensures.is) (sym law)

pub returns-else-has_place : goal.returns-else-has_place
returns-else-has_place g c =
    let some : unpacked g.L.KeyLayout.layout c.args.key ≡ Some c.in_ok-parts.parts = sym c.unpack.ensures.parts
    ∙ c.in_ok-parts.was in
    let outside : has_place c.args.shape.now c.in_ok-parts.parts ≡ false = sym c.has_place.ensures
    ∙ c.if-has_place.false in
    sym (no_place g.L.KeyLayout.layout c.args.shape.now c.args.key c.in_ok-parts.parts some outside)
