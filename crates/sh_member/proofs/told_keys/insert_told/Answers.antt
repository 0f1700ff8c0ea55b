use Rattle.std.proofs.Common.{subst, sym}
use Rattle.sh_member.specs.ToldKeys.{CoversInsert}
use Rattle.sh_member.proofs.Hearing.{tells_own}
use Rattle.sh_member.proofs.told_keys.insert_told.Goals as goal

pub returns-clause-tells : goal.returns-clause-tells
returns-clause-tells g c =
    subst (CoversInsert c.in_ok-key.key c.args.value.now) (sym c.receipt.ensures.tells)
    (tells_own c.in_ok-key.key c.args.value.now c.args.owner.now.pages.owner c.insert.new.self.pages.owner
    c.in_ok-key.ensures.serves.0.log)
