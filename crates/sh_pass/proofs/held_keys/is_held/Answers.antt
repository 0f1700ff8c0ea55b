use Rattle.std.proofs.Common.{◌∙◌, ◌-◌, sym, length}
use Rattle.sh_pass.proofs.HeldLaws.{stands_there, some_found}
use Rattle.sh_pass.proofs.held_keys.is_held.Goals as goal

pub returns-then-is_last : goal.returns-then-is_last
returns-then-is_last c =
    let there = stands_there c.args.key (length c.args.held.now - 1) c.args.held.now
    (c.is_last.ensures.0 c.if-is_last.true) in
    c.if-is_last.true ∙ sym there

pub returns-else-is_last : goal.returns-else-is_last
returns-else-is_last c = c.is_some.ensures
    ∙ some_found c.args.key c.args.held.now c.find_behind.result c.find_behind.ensures
