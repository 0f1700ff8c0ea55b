use Rattle.std.proofs.Common.{arith}
use Rattle.sh_shard.proofs.PageEmptying.{emptying_none, emptying_more, pages_emptied}
use Rattle.sh_shard.proofs.pages.PagesOn.empty_pages.Goals as goal

pub loop-page-init : goal.loop-page-init
loop-page-init g c = emptying_none c.args.self.now

pub empty_page-requires : goal.empty_page-requires
empty_page-requires g c = let e = c.requires.few in let z = c.loop-page-test.true
    in let s = c.loop-page.invariant.collects.through.count in omega arith

pub loop-page-preserved : goal.loop-page-preserved
loop-page-preserved g c = emptying_more c.loop-page.page c.args.self.now c.loop-page.self c.empty_page.new.self
    c.loop-page.invariant c.empty_page.ensures

pub returns : goal.returns
returns g c = pages_emptied c.args.opened c.loop-page.page c.args.self.now c.loop-page.self c.loop-page.invariant
    c.requires.later c.blank_pages-known.ensures (let z = c.loop-page-test.false in omega arith)
    (let e = c.requires.few in let z = c.loop-page.auto.page-end in omega arith)
