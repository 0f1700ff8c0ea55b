use Rattle.std.proofs.Common.{arith}
use Rattle.sh_shard.specs.Pages.{page_at}
use Rattle.sh_shard.proofs.Bounding.{slots_then}
use Rattle.sh_shard.proofs.Waits.{waits_since}
use Rattle.sh_shard.proofs.Working.{works_more}
use Rattle.sh_shard.proofs.pages.PagesOn.collect_whole.Goals as goal

pub returns : goal.returns
returns g c =
    let o = c.args.self.now in
    let m = c.follow_all.new.self in
    let t = c.take.new.self in
    let n = c.follow_all-2.new.self in
    let first = c.follow_all.ensures in
    let took = c.take.ensures in
    let last = c.follow_all-2.ensures in
    let works = works_more c.args.page o m t first.works took.works in record {
      works = works_more c.args.page o t n works last.works;
      arm = search;
      collected = record {
        waits = waits_since (page_at n c.args.page).cursor _ _ _ _ works.met last.waits;
        taken = λ _ _. omega (arith, first.works.takes, took.takes, last.works.takes);
      };
      steps = slots_then 1 2 3 c.args.page o m n first.steps
          (slots_then 1 1 2 c.args.page m t n took.steps last.steps (omega arith)) (omega arith);
    }
