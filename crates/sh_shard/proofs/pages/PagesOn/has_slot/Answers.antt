use Rattle.std.proofs.Common.{◌≡◌, ℕ, ◌<◌, true, MatchBool, length, sym, subst}
use Rattle.std.specs.Prelude.{nat_lt}
use Rattle.sh_states.specs.States.{state_at}
use Rattle.sh_shard.specs.Slots.{NoSlots}
use Rattle.sh_shard.specs.Pages.{Paged, page_at, lists_at, NothingMine}
use Rattle.sh_shard.proofs.Keeping.{page_of}
use Rattle.sh_shard.proofs.Wholly.{some_slot, none_kept}
use Rattle.sh_shard.proofs.pages.PagesOn.has_slot.Goals as goal

pub returns-clause-mine : goal.returns-clause-mine
returns-clause-mine g c =
    let l : c.args.page < length c.self.inside.states = subst (λ (z : Paged). c.args.page < z.count)
    (sym c.self.view_is) c.requires in
    let P : Paged → Type 0 = λ z. MatchBool (nat_lt 0 c.slots.result)
    ((s : ℕ) × ((page_at z c.args.page).mine s ≡ true))
    (NothingMine (page_at z c.args.page)) in
    subst P c.self.view_is (some_slot (state_at c.self.inside.states c.args.page)
    (page_of c.self.inside.owner c.self.inside.shard c.args.page) c.slots.result (c.self.invariant.pages c.args.page l)
    c.slots.ensures.kept)

pub returns-clause-none : goal.returns-clause-none
returns-clause-none g c =
    let P : Paged → Type 0 = λ z. MatchBool (nat_lt 0 c.slots.result) (Unit {0}) (NoSlots (lists_at z c.args.page)) in
    subst P c.self.view_is (none_kept (state_at c.self.inside.states c.args.page) c.slots.result c.slots.ensures.kept)
