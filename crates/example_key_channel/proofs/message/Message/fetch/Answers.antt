use Rattle.std.proofs.Common.{IfOk, subst}
use Rattle.gearlongan.specs.Receipts.{IsAsInserted, ToldKey}
use Rattle.example_key_channel.proofs.message.Message.fetch.Goals as goal

pub returns-clause-value : goal.returns-clause-value
returns-clause-value g c = subst (λ (t : ToldKey). IfOk c.fetch_told.result
    (λ value. IsAsInserted t.key value t.receipt)) c.self.view_is c.fetch_told.ensures.value
