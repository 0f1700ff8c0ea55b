use Rattle.std.proofs.Common.{◌∙◌, sym}
use Rattle.script_orders.specs.Reached.{all_replies_by, pages_asked}
use Rattle.script_orders.specs.Comments.{asks}
use Rattle.script_orders.proofs.Answered.{as_asked}
use Rattle.script_orders.proofs.answer.report.Goals as goal

pub returns-clause-orders : goal.returns-clause-orders
returns-clause-orders c = λ holds layout p order has.
    as_asked c.args.whole.now.found.items (asks c.args.asked.now) (all_replies_by layout p order)
    (pages_asked layout p order) has (sym c.in_ok-holds.ensures.holds ∙ holds)
