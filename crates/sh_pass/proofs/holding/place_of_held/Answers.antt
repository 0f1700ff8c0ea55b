use Rattle.std.proofs.Common.{◌≡◌, ◌∙◌, sym, Some, None}
use Rattle.sh_key.specs.Layout.{unpacked}
use Rattle.sh_step.proofs.NameLaws.{no_key, a_place}
use Rattle.sh_pass.proofs.HeldPlaces.{parts_have_place, parts_are_below}
use Rattle.sh_pass.proofs.holding.place_of_held.Goals as goal

pub unreachable-requires : goal.unreachable-requires
unreachable-requires g c =
    let none : unpacked g.L.KeyLayout.layout c.args.key ≡ None = sym c.unpack.ensures.parts ∙ c.in_default.is in
    c.requires (no_key g.L.KeyLayout.layout c.args.shape.now c.args.key none)

pub page_number-requires-clause-shard : goal.page_number-requires-clause-shard
page_number-requires-clause-shard g c = (parts_are_below g.L.KeyLayout.layout c.args.shape.now c.args.key
    c.in-Some.parts c.requires (sym c.unpack.ensures.parts ∙ c.in-Some.is)).0

pub page_number-requires-clause-page : goal.page_number-requires-clause-page
page_number-requires-clause-page g c = (parts_are_below g.L.KeyLayout.layout c.args.shape.now c.args.key
    c.in-Some.parts c.requires (sym c.unpack.ensures.parts ∙ c.in-Some.is)).1

pub returns : goal.returns
returns g c =
    let some : unpacked g.L.KeyLayout.layout c.args.key ≡ Some c.in-Some.parts = sym c.unpack.ensures.parts
    ∙ c.in-Some.is in
    let inside = parts_have_place g.L.KeyLayout.layout c.args.shape.now c.args.key c.in-Some.parts c.requires some in
    let law = a_place g.L.KeyLayout.layout c.args.shape.now c.args.key c.in-Some.parts some inside in
    rw (c.from.ensures, c.from-2.ensures, c.page_number.ensures.is) law
