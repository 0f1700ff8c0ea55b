use Rattle.std.proofs.Common.{◌≡◌, ℕ, ◌∷◌, ◌++◌, Option, Some, None, IfSome, set, arith}
use Rattle.sh_lists.specs.Lists.{Lists, refilled}
use Rattle.sh_lists.specs.Numbers.{Misses}
use Rattle.sh_states.specs.declared.states.PageState.{PageState}
use Rattle.sh_states.specs.States.{with_lists, padded, UsesNext}
use Rattle.sh_states.proofs.Padding.{uses_next}
use Rattle.sh_states.proofs.states.PageStates.next_slot.Goals as goal

pub returns-clause-used : goal.returns-clause-used
returns-clause-used c = go c.next_slot.result c.next_slot.ensures.front c.next_slot.ensures.apart where
  old : PageState
  old = c.index_mut.result.now

  lists : Lists
  lists = c.next_slot.new.self

  go : (r : Option ℕ) → IfSome r (λ slot. refilled old.lists ≡ record lists { free = slot ∷ lists.free })
      → IfSome r (λ slot. Misses slot (lists.free ++ lists.local))
      → IfSome r (λ slot. UsesNext c.args.page slot c.args.self.now
      (padded c.self.inside.count (set c.self.inside.written.items c.args.page (with_lists old lists))))
  go None front apart = tt
  go (Some slot) front apart = uses_next c.self.inside.written.items c.args.self.now c.self.inside.count c.args.page
      slot
      old lists c.self.view_is (omega arith) c.index_mut.ensures.value front apart
