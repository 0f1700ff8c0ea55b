-- What a caller's own contracts say of receipts, and what a heed gives.
pub use Rattle.sh_pass.specs.Receipts.{receipt_by, heeded, GetsAfterRemoval, RemovalRefused}
pub use Rattle.sh_member.specs.ToldKeys.{CoversInsert, TellsOfInsert, IsAsInserted, GoneAfterRemoval, GoneIfRemoved}
pub use Rattle.sh_member.specs.ToldKeys.{key_told}
pub use Rattle.sh_member.specs.declared.told_keys.ToldKey.{ToldKey}
pub use Rattle.sh_table.specs.Orders.{HeardComesFirst, GoneIsRemoved, GotIsInserted, RemovedIsGone, NothingComesLater}
