-- What is counted in an exploration.
use Rattle.std.specs.Prelude.{◌≡◌, ◌+◌, ◌-◌, ◌^◌, min}
use Rattle.script_orders.specs.declared.orders.Orders.{Orders}
use Rattle.script_orders.specs.declared.found.Whole.{Whole}

-- one more end, to which these orders lead; a count stops at the greatest number of its bits
pub record CountsEnd (orders : Orders) (old new : Whole) : Type 0 where
  pub states : new.states ≡ old.states
  pub ends : new.ends ≡ min (old.ends + 1) (2 ^ 64 - 1)
  pub all : new.orders.count ≡ min (old.orders.count + orders.count) (2 ^ 128 - 1)
