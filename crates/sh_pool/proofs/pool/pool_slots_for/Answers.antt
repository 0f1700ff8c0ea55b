use Rattle.std.proofs.Common.{◌≡◌, ◌<◌, length, get_or, rules, subst, sym}
use Rattle.sh_pool.proofs.Homes.{homes_more}
use Rattle.sh_pool.proofs.pool.pool_slots_for.Goals as goal

pub loop-state-preserved : goal.loop-state-preserved
loop-state-preserved g c = record {
  heap = search rules;
  built = λ n d lt. subst (λ xs. get_or xs n d ≡ (c.args.heap, n)) (sym c.push_reserved.ensures.items)
      (homes_more c.args.heap c.loop-state.pool_slots.items c.in_ok-pool_slot_cell.field-0 n d
      c.loop-state.invariant.built (search rules) (subst (λ xs. n < length xs) c.push_reserved.ensures.items lt));
  left = search rules;
  count = search rules;
  space = search rules;
}
