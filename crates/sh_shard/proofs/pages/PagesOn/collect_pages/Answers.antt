use Rattle.std.proofs.Common.{arith}
use Rattle.sh_shard.proofs.RemoteLaws.{collected_none, collected_more, pages_collected}
use Rattle.sh_shard.proofs.pages.PagesOn.collect_pages.Goals as goal

pub loop-page-init : goal.loop-page-init
loop-page-init g c = collected_none c.args.self.now

pub collect_whole-requires : goal.collect_whole-requires
collect_whole-requires g c = let e = c.requires.few in let z = c.loop-page-test.true
    in let s = c.loop-page.invariant.collects.through.count in omega arith

pub loop-page-preserved : goal.loop-page-preserved
loop-page-preserved g c = collected_more c.loop-page.page c.args.self.now c.loop-page.self c.collect_whole.new.self
    c.loop-page.invariant c.collect_whole.ensures

pub returns : goal.returns
returns g c = pages_collected c.args.opened c.loop-page.page c.args.self.now c.loop-page.self c.loop-page.invariant
    c.requires.later c.blank_pages-known.ensures (let z = c.loop-page-test.false in omega arith)
    (let e = c.requires.few in let z = c.loop-page.auto.page-end in omega arith)
