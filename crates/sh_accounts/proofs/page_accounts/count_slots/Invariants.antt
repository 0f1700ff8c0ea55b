use Rattle.std.proofs.Common.{◌≡◌}
use Rattle.sh_shape.specs.Places.{page_number}
use Rattle.sh_accounts.specs.Accounts.{all_slots, counted}
use Rattle.sh_accounts.proofs.page_accounts.count_slots.Given as goal

abbrev pub invariant-loop-slot : goal.invariant-loop-slot
invariant-loop-slot g l = (l.accounts ≡ counted l.world (page_number l.world.shape l.shard l.page) l.class l.slot)
    × (all_slots l.accounts ≡ l.slot)
