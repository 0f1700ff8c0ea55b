use Rattle.sh_shape.specs.Places.{pages_of}
use Rattle.script_output.specs.AccountLines.{shard_text, ShardSaid}
use Rattle.script_output.proofs.Telling.{ToldSoFar}
use Rattle.script_output.proofs.account_line.push_accounts.Given as goal

abbrev pub invariant-loop-shard : goal.invariant-loop-shard
invariant-loop-shard g l =
    let shape = g.P.Pages.numbers l.fn.pages in
    ToldSoFar g.P.Pages.fixed g.P.Pages.numbers g.P.Pages.leads g.P.Pages.says g.P.Pages.layout
    (λ of_page shard. shard_text shape of_page shard)
    (λ says of_page shard. ShardSaid says shape of_page shard (pages_of shape))
    l.fn.pages l.pages l.fn.out.items l.out.items l.shard
