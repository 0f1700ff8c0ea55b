use Rattle.std.proofs.Common.{◌≡◌, ◌<◌, ◌≤◌, length, arith, rules}
use Rattle.sh_pass.specs.Fetching.{FetchDoes}
use Rattle.sh_member.proofs.BatchSteps.{all_done, all_remain, done_more, remains_more}
use Rattle.sh_member.proofs.batches.fetch_each.Goals as goal

pub loop-at-preserved : goal.loop-at-preserved
loop-at-preserved g c =
    let layout = g.R.Reader.layout in
    let keys = c.args.keys.now in
    let i = c.loop-at.at in
    let v = g.R.Reader.caller c.args.reader.now in
    let m = g.R.Reader.caller c.loop-at.reader in
    let w = g.R.Reader.caller c.fetch_to.new.reader in
    let same : length c.loop-at.results ≡ length keys = search rules in
    let here : i < length keys = c.loop-at-test.true in
    record {
      does =
          done_more (FetchDoes layout) keys c.loop-at.results i 0 c.fetch_to.new.place v m w here (omega arith)
          c.loop-at.invariant.does c.fetch_to.ensures.does;
      remains = remains_more layout keys i 0 v m w here c.loop-at.invariant.remains c.fetch_to.ensures.remains;
    }

pub returns-clause-does : goal.returns-clause-does
returns-clause-does g c =
    let past : length c.args.keys.now ≤ c.loop-at.at = search rules in
    let beyond : length c.loop-at.results ≤ c.loop-at.at = search rules in
    all_done (FetchDoes g.R.Reader.layout) c.args.keys.now c.loop-at.results c.loop-at.at
    (g.R.Reader.caller c.args.reader.now) (g.R.Reader.caller c.loop-at.reader) past beyond c.loop-at.invariant.does

pub returns-clause-remains : goal.returns-clause-remains
returns-clause-remains g c =
    let past : length c.args.keys.now ≤ c.loop-at.at = search rules in
    all_remain g.R.Reader.layout c.args.keys.now c.loop-at.at (g.R.Reader.caller c.args.reader.now)
    (g.R.Reader.caller c.loop-at.reader) past c.loop-at.invariant.remains
