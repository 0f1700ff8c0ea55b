use Rattle.std.proofs.Common.{ap, arith}
use Rattle.sh_shape.specs.Places.{page_number, pages_of}
use Rattle.sh_shape.specs.Shape.{Numbers}
use Rattle.sh_shape.proofs.PlaceLaws.{page_is_below}
use Rattle.sh_accounts.proofs.PageCounts.{are_counted, are_none, fills}
use Rattle.sh_accounts.proofs.page_accounts.page.Goals as goal

pub returns-in-Some-clause-are : goal.returns-in-Some-clause-are
returns-in-Some-clause-are g c =
    let shape : Numbers = c.args.world.now.shape in
    let shards = ap (λ (n : Numbers). n.shards) c.shape-shape.ensures.is in
    let pages = ap (λ (n : Numbers). pages_of n) c.shape-shape.ensures.is in
    are_counted g.L.KeyLayout.layout c.args.world.now (page_number shape c.args.shard c.args.page)
    c.refines_map.ensures.one_kind c.shape-shape.ensures.reached
    (page_is_below shape c.args.shard c.args.page (omega arith) (omega arith)) c.in-Some.class c.count_slots.result
    c.in-Some.ensures.is c.count_slots.ensures.is

pub returns-in-Some-clause-fill : goal.returns-in-Some-clause-fill
returns-in-Some-clause-fill g c = fills c.args.world.now _ c.in-Some.class c.count_slots.result c.in-Some.ensures.known
    c.count_slots.ensures.fill c.count_slots.ensures.is

pub returns-in-None-clause-are : goal.returns-in-None-clause-are
returns-in-None-clause-are g c =
    let shape : Numbers = c.args.world.now.shape in
    let shards = ap (λ (n : Numbers). n.shards) c.shape-shape.ensures.is in
    let pages = ap (λ (n : Numbers). pages_of n) c.shape-shape.ensures.is in
    are_none g.L.KeyLayout.layout c.args.world.now (page_number shape c.args.shard c.args.page)
    c.refines_map.ensures.one_kind c.shape-shape.ensures.reached
    (page_is_below shape c.args.shard c.args.page (omega arith) (omega arith)) c.no_slots.result c.in-None.ensures.is
    c.no_slots.ensures
