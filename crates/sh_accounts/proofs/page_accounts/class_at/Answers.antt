use Rattle.std.proofs.Common.{◌≡◌, ◌∙◌, ap, get_or, ℕ, arith}
use Rattle.sh_shape.specs.declared.places.Place.TheVariants.{Class}
use Rattle.sh_shape.specs.Places.{number, page_number}
use Rattle.sh_shape.specs.Shape.{Numbers}
use Rattle.sh_shape.proofs.PlaceLaws.{page_is_below}
use Rattle.sh_core.specs.Lists.{class_named}
use Rattle.sh_accounts.specs.Accounts.{class_word}
use Rattle.sh_accounts.proofs.PageCounts.{class_small}
use Rattle.sh_accounts.proofs.page_accounts.class_at.Goals as goal

pub returns-clause-is : goal.returns-clause-is
returns-clause-is g c =
    let shape : Numbers = c.args.world.now.shape in
    let q : ℕ = page_number shape c.args.shard c.args.page in
    let number_is = c.class_at-number.ensures.is ∙ ap (λ (s : Numbers). number s
    (Class (page_number s c.args.shard c.args.page))) c.shape.ensures.is in
    let word_is : get_or c.words.result.now c.class_at-number.result 0
    ≡ class_word c.args.world.now q = ap (λ i. get_or c.words.result.now i 0) number_is
    ∙ ap (λ ws. get_or ws (number shape (Class q)) 0) c.words.ensures.is in
    let small = class_small g.L.KeyLayout.layout c.args.world.now q c.refines_map.ensures.classes
    c.words.ensures.reached (page_is_below shape c.args.shard c.args.page c.requires.0 c.requires.1) in
    c.class_of.ensures.is (omega arith) ∙ ap class_named word_is
