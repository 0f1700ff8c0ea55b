use Rattle.std.proofs.Common.{arith}
use Rattle.sh_shard.proofs.PuttingBack.{returning_none, returning_more, returned}
use Rattle.sh_shard.proofs.pages.PagesOn.put_all_back.Goals as goal

pub loop-page-init : goal.loop-page-init
loop-page-init g c = returning_none c.args.self.now c.requires.rest

pub put_back-requires-clause-inside : goal.put_back-requires-clause-inside
put_back-requires-clause-inside g c = let e = c.requires.few in let z = c.loop-page-test.true
    in let s = c.loop-page.invariant.count in omega arith

pub put_back-requires-clause-calm : goal.put_back-requires-clause-calm
put_back-requires-clause-calm g c = (c.loop-page.invariant.rest c.loop-page.page
    (let e = c.requires.few in let z = c.loop-page-test.true in omega arith)).armed

pub loop-page-preserved : goal.loop-page-preserved
loop-page-preserved g c = returning_more c.loop-page.page c.args.self.now c.loop-page.self c.put_back.new.self
    c.loop-page.invariant (let e = c.requires.few in let z = c.loop-page-test.true in omega arith)
    c.put_back.ensures

pub returns : goal.returns
returns g c = returned c.args.opened c.loop-page.page c.args.self.now c.loop-page.self c.loop-page.invariant
    c.requires.rest.bell c.requires.later c.blank_pages-known.ensures (let z = c.loop-page-test.false in omega arith)
    (let e = c.requires.few in let z = c.loop-page.auto.page-end in omega arith)
