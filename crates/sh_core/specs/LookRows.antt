-- Tables that differ from the right one in a load of a look.
use Rattle.std.specs.Prelude.{true, false, cond, ◌&&◌, [], Some, None}
use Rattle.std.specs.Bool.{then_some}
use Rattle.sh_shape.specs.declared.places.Place.TheVariants.{Head}
use Rattle.sh_slots.specs.declared.hand.Hand.TheVariants.{Looking}
use Rattle.sh_slots.specs.declared.hand.Sight.TheVariants.{Bare}
use Rattle.sh_slots.specs.declared.reply.Reply.TheVariants as reply
use Rattle.sh_slots.specs.Slots.{live_at, value_seen}
use Rattle.sh_step.specs.declared.action.Action.TheVariants.{Look, LookOn, LookAgain}
use Rattle.sh_step.specs.Moves.{row, named}
use Rattle.sh_step.specs.Rows.{idle, look, look_on, look_again, is_read}
use Rattle.sh_core.specs.Variants.{Table}

-- the last load sees the value whatever the state says
unfoldable pub trusts_the_first_load : Table
trusts_the_first_load plan p LookAgain = elim (p.hand) [
  | Looking k x s ↦ then_some (is_read x s)
      (record (look_again p k x s) { reply = λ n. Some (reply.Seen k (value_seen s)) })
  | _ ↦ None
]
trusts_the_first_load plan p x = row plan p x

-- a key is seen at the first load, with no word of its value
unfoldable pub sees_at_once : Table
sees_at_once plan p (Look k) = named plan k (λ x. then_some (idle p)
    (record (look p k x) { reply = λ n. cond (live_at x.generation n) (Some (reply.Seen k [])) None }))
sees_at_once plan p x = row plan p x

-- the class is loaded from another word
unfoldable pub looks_at_a_head : Table
looks_at_a_head plan p LookOn = elim (p.hand) [
  | Looking k x Bare ↦ Some (record (look_on p k x Bare) { place = Head x.page })
  | _ ↦ row plan p LookOn
]
looks_at_a_head plan p x = row plan p x

-- a key is gone although it was not there yet
unfoldable pub is_gone_early : Table
is_gone_early plan p (Look k) = named plan k (λ x. then_some (idle p)
    (record (look p k x) { reply = λ n. cond (live_at x.generation n) None (Some (reply.Gone k)) }))
is_gone_early plan p x = row plan p x
