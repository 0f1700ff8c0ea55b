use Rattle.std.proofs.Common.{arith, ◌≡◌, ◌==◌, ◌∙◌, sym, Some, None}
use Rattle.std.specs.List.{position}
use Rattle.sh_step.proofs.ListLaws.{without_at, without_none, on_some, position_within}
use Rattle.sh_step.proofs.part.lists.remove_number.Goals as goal

pub returns-in-Some : goal.returns-in-Some
returns-in-Some c =
    let items = c.args.numbers.now.items in
    let found : position (λ x. x == c.args.number) items ≡ Some c.in-Some.i = sym c.number_at.ensures ∙ c.in-Some.is in
    let few = position_within (λ x. x == c.args.number) items c.in-Some.i found in
    let len = c.args.numbers.now.ok in
    on_some c.remove.result _ (c.remove.ensures.succeeds 0 (omega arith)) c.remove.ensures.items
    ∙ sym (without_at (λ x. x == c.args.number) items c.in-Some.i found)

pub returns-in_default : goal.returns-in_default
returns-in_default c =
    let items = c.args.numbers.now.items in
    let found : position (λ x. x == c.args.number) items ≡ None = sym c.number_at.ensures ∙ c.in_default.is in
    sym (without_none (λ x. x == c.args.number) items found)
