use Rattle.std.proofs.Common.{subst}
use Rattle.sh_pass.specs.Passes.{Caller}
use Rattle.sh_pass.specs.Fetching.{FetchDoes}
use Rattle.sh_member.proofs.Hearing.{gone_if_removed, fetched_as_inserted, look_decides}
use Rattle.sh_member.proofs.told_keys.fetch_told.Goals as goal

pub returns-clause-value : goal.returns-clause-value
returns-clause-value g c =
    let layout = g.R.Reader.layout in
    let key = c.args.told.key in
    let after : Caller = g.R.Reader.caller c.fetch.new.self in
    let does = subst (λ (v : Caller). FetchDoes layout key v c.fetch.result after) c.heed.ensures.heeds
    c.fetch.ensures.does in
    fetched_as_inserted c.heard_comes_first.ensures.got c.heard_comes_first.ensures.seen layout key c.args.told.receipt
    (g.R.Reader.caller c.args.reader.now) after c.fetch.result does c.fetch.ensures.remains.stands

pub returns-clause-gone : goal.returns-clause-gone
returns-clause-gone g c =
    let layout = g.R.Reader.layout in
    let key = c.args.told.key in
    let after : Caller = g.R.Reader.caller c.fetch.new.self in
    let does = subst (λ (v : Caller). FetchDoes layout key v c.fetch.result after) c.heed.ensures.heeds
    c.fetch.ensures.does in
    gone_if_removed c.heard_comes_first.ensures.gone layout key c.args.told.receipt
    (g.R.Reader.caller c.args.reader.now) after c.fetch.result does

pub returns-clause-told : goal.returns-clause-told
returns-clause-told g c =
    let layout = g.R.Reader.layout in
    let key = c.args.told.key in
    let after : Caller = g.R.Reader.caller c.fetch.new.self in
    let does = subst (λ (v : Caller). FetchDoes layout key v c.fetch.result after) c.heed.ensures.heeds
    c.fetch.ensures.does in
    look_decides layout key c.args.told.receipt (g.R.Reader.caller c.args.reader.now) after c.fetch.result does

pub returns-clause-does : goal.returns-clause-does
returns-clause-does g c =
    let after : Caller = g.R.Reader.caller c.fetch.new.self in
    subst (λ (v : Caller). FetchDoes g.R.Reader.layout c.args.told.key v c.fetch.result after) c.heed.ensures.heeds
    c.fetch.ensures.does
