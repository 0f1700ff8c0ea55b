use Rattle.sh_shape.specs.Places.{page_number}
use Rattle.script_output.specs.AccountLines.{page_text}
use Rattle.script_output.proofs.Telling.{ToldSoFar}
use Rattle.script_output.proofs.account_line.push_shard.Given as goal

abbrev pub invariant-loop-number : goal.invariant-loop-number
invariant-loop-number g l =
    let shape = g.P.Pages.numbers l.fn.pages in
    ToldSoFar g.P.Pages.fixed g.P.Pages.numbers g.P.Pages.leads g.P.Pages.says g.P.Pages.layout
    (λ of_page page. page_text l.fn.shard page (of_page (page_number shape l.fn.shard page)))
    (λ says of_page page. says (page_number shape l.fn.shard page) (of_page (page_number shape l.fn.shard page)))
    l.fn.pages l.pages l.fn.out.items l.out.items l.number
