use Rattle.std.proofs.Common.{arith}
use Rattle.sh_shape.proofs.PlaceLaws.{few_pages, page_is_below}
use Rattle.sh_shape.proofs.shape.Shape.page_number.Goals as goal

pub overflow_mul-result : goal.overflow_mul-result
overflow_mul-result c =
    let below = page_is_below c.args.self.now c.args.shard c.args.page c.requires.shard c.requires.page in
    let few = few_pages c.args.self.now c.pages.ensures.shape in
    rw c.pages.ensures.pages (omega arith)

pub overflow_add-result : goal.overflow_add-result
overflow_add-result c =
    let below = page_is_below c.args.self.now c.args.shard c.args.page c.requires.shard c.requires.page in
    let few = few_pages c.args.self.now c.pages.ensures.shape in
    rw c.pages.ensures.pages (omega arith)

pub returns-clause-below : goal.returns-clause-below
returns-clause-below c =
    rw c.pages.ensures.pages (page_is_below c.args.self.now c.args.shard c.args.page c.requires.shard c.requires.page)
