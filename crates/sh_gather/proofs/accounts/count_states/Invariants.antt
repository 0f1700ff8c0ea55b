use Rattle.std.proofs.Common.{◌≡◌, ◌+◌, ◌≤◌, length}
use Rattle.sh_table.specs.Whole.{Known}
use Rattle.sh_gather.specs.Histories.{Sure}
use Rattle.sh_gather.specs.Gathering.{IsGathered, NotedMore, CountedTo, StatesAlone}
use Rattle.sh_gather.proofs.accounts.count_states.Given as goal

-- the first `slot` slots were counted, after every list of events that leads here
abbrev pub invariant-loop-slot : goal.invariant-loop-slot
invariant-loop-slot g l =
    (l.pass.heap ≡ l.fn.pass.heap) × IsGathered l.pass.view × Known g.L.KeyLayout.layout l.pass.view
    × NotedMore l.fn.pass.view l.pass.view
    × Sure g.L.KeyLayout.layout l.pass.view (λ w k. CountedTo l.page l.slot l.accounts w)
    × StatesAlone l.fn.class l.accounts × (l.accounts.live + l.accounts.marked + l.accounts.retired ≤ l.slot)
    × (length l.pass.view.noted ≡ length l.fn.pass.view.noted + l.slot)
