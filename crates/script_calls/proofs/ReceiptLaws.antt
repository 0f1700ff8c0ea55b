-- What a receipt contains, and what a pass knows that heeded one.
use Rattle.std.proofs.Common.{◌≡◌, ◌∷◌, ◌++◌, length, map, refl, sym, ap, subst, ◌∙◌, Some}
use Rattle.sh_key.specs.Layout.{Layout}
use Rattle.sh_table.specs.declared.view.Told.{Told}
use Rattle.sh_table.specs.Views.{done_by}
use Rattle.sh_table.specs.declared.view.Order.{Order}
use Rattle.sh_pass.specs.Receipts.{receipt_by, heeded}
use Rattle.sh_shard.specs.Shards.{Sharded, shard_heeded}
use Rattle.sh_pass.specs.Passes.{Caller}
use Rattle.script_calls.specs.OwnParts.{own_part, taken_in}
use Rattle.script_calls.specs.Receipts.{seen_of_receipt, receipt_seen, Heeds}
use Rattle.sh_member.specs.Sides.{SeenSide}
use Rattle.script_calls.specs.Running.{seen_standing, seen_of_caller, seen_of_shard}

pub receipt_told : (layout : Layout) (v r : Caller) (t : SeenSide) → own_part t ≡ v.view.own
    → taken_in t ≡ v.view.told → r ≡ receipt_by v → seen_of_receipt r ≡ receipt_seen (seen_standing layout v t)
receipt_told layout v r t own told e = ap seen_of_receipt e ∙ (λ i. record {
  heap = Some v.heap;
  heard = record { pass = v.view.pass; log = v.view.own.log; steps = length (sym own i).trail }
      ∷ (map (λ (s : Told). done_by s.pass s.own) (sym told i) ++ map (λ (o : Order). o.heard) v.view.orders);
  orders = v.view.orders;
})

pub pass_heeds : (layout : Layout) (v r w : Caller) → w ≡ heeded v r
    → Heeds r (seen_of_caller layout v) (seen_of_caller layout w)
pass_heeds layout v r w e = subst (λ (z : Caller). Heeds r (seen_of_caller layout v) (seen_of_caller layout z)) (sym e)
    (record { is = refl; part = record { is = refl; stands = refl } })

pub owner_heeds : (layout : Layout) (o n : Sharded) (r : Caller) → n ≡ shard_heeded o r
    → Heeds r (seen_of_shard layout o) (seen_of_shard layout n)
owner_heeds layout o n r e = subst (λ (z : Sharded). Heeds r (seen_of_shard layout o) (seen_of_shard layout z)) (sym e)
    (record { is = refl; part = record { is = refl; stands = refl } })
