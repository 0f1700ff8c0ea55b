use Rattle.std.proofs.Common.{◌≡◌, ◌+◌, length}
use Rattle.sh_table.specs.Whole.{Known}
use Rattle.sh_gather.specs.Histories.{Sure}
use Rattle.sh_gather.specs.Gathering.{IsGathered, NotedMore, WalkedTo}
use Rattle.sh_gather.proofs.Walking.{HasWalked}
use Rattle.sh_gather.proofs.accounts.walk.Given as goal

-- `queued` slots of the stack were walked, after every list of events that leads here, and the notes show it
abbrev pub invariant-loop-queued : goal.invariant-loop-queued
invariant-loop-queued g l =
    (l.pass.heap ≡ l.fn.pass.heap) × IsGathered l.pass.view × Known g.L.KeyLayout.layout l.pass.view
    × NotedMore l.fn.pass.view l.pass.view
    × Sure g.L.KeyLayout.layout l.pass.view (WalkedTo l.page l.queued l.top)
    × HasWalked l.pass.view l.page l.queued l.top
    × (length l.pass.view.noted ≡ length l.fn.pass.view.noted + 1 + l.queued)
