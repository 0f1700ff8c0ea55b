use Rattle.std.proofs.Common.{◌≡◌, ◌≤◌}
use Rattle.sh_shard.specs.Pages.{page_at, WorksOn, NoArming, StepsForSlots, own_slots}
use Rattle.sh_shard.proofs.pages.PagesOn.follow_on.Given as goal

abbrev pub invariant-loop-turn : goal.invariant-loop-turn
invariant-loop-turn g l = record {
  works : WorksOn l.page l.fn.self l.self;
  arm : NoArming l.fn.self l.self;
  armed : (page_at l.self l.page).armed ≡ (page_at l.fn.self l.page).armed;
  steps : StepsForSlots 0 l.page l.fn.self l.self;
  more : l._turn ≤ own_slots (page_at l.self l.page);
}
