use Rattle.sh_pass.specs.Fetching.{FetchDoes}
use Rattle.sh_pass.proofs.Fetched.{value_filled}
use Rattle.sh_member.proofs.batches.fetch_to.Goals as goal

pub returns-in_default-clause-does : goal.returns-in_default-clause-does
returns-in_default-clause-does g c =
    let caller = g.R.Reader.caller in
    value_filled (λ answer. FetchDoes g.R.Reader.layout c.args.key (caller c.args.reader.now) answer
    (caller c.look_into.new.self)) c.in-Ok.value c.look_into.new.value c.in_default.ensures.does
