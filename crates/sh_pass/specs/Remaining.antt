-- What a call of a pass or of an owner leaves as it was, and what is true of all that is known.
use Rattle.std.specs.Prelude.{◌≡◌}
use Rattle.sh_key.specs.Layout.{Layout}
use Rattle.sh_slots.specs.declared.hand.Hand.TheVariants.{Idle}
use Rattle.sh_table.specs.Tales.{ViewIsValid}
use Rattle.sh_pass.specs.Passes.{Caller}

-- Heap and shard are as before, and nothing is begun. All that was known before is true, in the heap's shape, and so is
-- all that is known now.
pub record Remains (layout : Layout) (v w : Caller) : Type 0 where
  pub heap : w.heap ≡ v.heap
  pub shard : w.view.own.body.owned ≡ v.view.own.body.owned
  pub idle : w.view.own.body.hand ≡ Idle
  pub shape : v.view.shape ≡ v.heap.shape
  pub stood : ViewIsValid layout v.view
  pub stands : ViewIsValid layout w.view
