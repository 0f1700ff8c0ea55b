use Rattle.std.proofs.Common.{◌∙◌}
use Rattle.script_heap.proofs.WholeLemmas.{tells_result}
use Rattle.script_heap.proofs.heap_lines.push_whole.Goals as goal

pub returns : goal.returns
returns g c =
    let p = c.push_accounts in
    tells_result p.result g.L.KeyLayout.layout c.args.pass p.new.pages c.new.result c.args.output.now.items
    p.new.out.items (c.new.ensures ∙ c.in-Ok.ensures.0) p.ensures.later p.ensures.reached p.ensures.ok p.ensures.says
