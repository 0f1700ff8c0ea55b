use Rattle.std.proofs.Common.{subst}
use Rattle.sh_shard.specs.Pages.{Paged, GainsSlot}
use Rattle.sh_shard.proofs.Booking.{holds_after}
use Rattle.sh_shard.proofs.Coming.{few_pages, may_gain, kept_after}
use Rattle.sh_shard.proofs.PageSteps.{paged_of}
use Rattle.sh_shard.proofs.pages.PagesOn.get_ended.Goals as goal

pub push_gained-page-requires-clause-few : goal.push_gained-page-requires-clause-few
push_gained-page-requires-clause-few g c = few_pages c.self.invariant

pub push_gained-page-requires-clause-may : goal.push_gained-page-requires-clause-may
push_gained-page-requires-clause-may g c = may_gain c.get_ended-answer.result.1 c.get_ended-answer.new.self c.self.invariant
    c.get_ended-answer.ensures.leaves.slot

pub invariant_of-self : goal.invariant_of-self
invariant_of-self g c = (kept_after c.get_ended-answer.result.1 c.push_gained-page.result c.get_ended-answer.new.self
    c.push_gained-page.new.states c.self.invariant c.get_ended-answer.ensures.leaves c.get_ended-answer.ensures.remains.stands
    c.push_gained-page.ensures).keeps

pub returns-clause-gained : goal.returns-clause-gained
returns-clause-gained g c =
    let P : Paged → Type 0 = λ z. GainsSlot c.push_gained-page.result z
    (paged_of g.L.KeyLayout.layout c.get_ended-answer.new.self c.self.inside.shard c.push_gained-page.new.states)
    in
    subst P c.self.view_is (kept_after c.get_ended-answer.result.1 c.push_gained-page.result c.get_ended-answer.new.self
    c.push_gained-page.new.states c.self.invariant c.get_ended-answer.ensures.leaves c.get_ended-answer.ensures.remains.stands
    c.push_gained-page.ensures).comes

pub returns-clause-holds : goal.returns-clause-holds
returns-clause-holds g c = holds_after (invariant_of-self g c) c.get_ended-answer.ensures.remains
    c.self.invariant.owned c.get_ended-answer.ensures.leaves.same.shape
