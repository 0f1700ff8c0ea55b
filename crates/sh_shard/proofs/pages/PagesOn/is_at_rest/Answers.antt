use Rattle.std.proofs.Common.{arith}
use Rattle.sh_shard.proofs.LeavingLaws.{rests_more, all_rest}
use Rattle.sh_shard.proofs.pages.PagesOn.is_at_rest.Goals as goal

pub loop-page-init : goal.loop-page-init
loop-page-init g c = λ p l. absurd (omega arith)

pub loop-page-preserved : goal.loop-page-preserved
loop-page-preserved g c = rests_more c.args.self.now c.loop-page.page c.loop-page.invariant c.if-not-rests.ensures

pub returns : goal.returns
returns g c = record {
  bell = c.if-has_rings.ensures;
  pages = all_rest c.args.opened c.loop-page.page c.args.self.now c.loop-page.invariant c.requires.later
      c.blank_pages-known.ensures (let z = c.loop-page-test.false in omega arith);
}
